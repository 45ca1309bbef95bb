-- Reading values one after another, as a loop does.
use Rattle.std.proofs.Common.{◌≡◌, ℕ, suc, ◌-◌, ◌+◌, ◌≤◌, ◌<◌, List, [], ◌∷◌, ◌++◌, Ok, Err, refl, sym, ap, ◌∙◌, append_assoc, arith}
use Rattle.std.specs.Prelude.{Result}
use Rattle.std.specs.Result.{IsErrAnd}
use Rattle.std.proofs.lemmas.List.{append-nil}
use Rattle.snapshot_format.specs.declared.refusal.SnapRefusal.{SnapRefusal}
use Rattle.snapshot_format.specs.declared.reader.read_error.ReadError.{ReadError}
use Rattle.snapshot_format.specs.declared.reader.read_error.ReadError.TheVariants.{Refused}
use Rattle.snapshot_format.specs.Reading.{Gives, Reads}
use Rattle.sv_types.specs.Steps.{◌>>=◌}
use Rattle.snapshot_format.specs.Forms.{Form, Taken, put_first, all_taken}

abbrev values_and_rest : {A : Type 0} → List A → List ℕ → Taken (List A)
values_and_rest values rest = Ok (values, rest)

abbrev behind : {A : Type 0} → List A → List A × List ℕ → Taken (List A)
behind front x = Ok (front ++ x.0, x.1)

-- what was read before, and what is still read
abbrev pub with_front : {A : Type 0} → List A → Taken (List A) → Taken (List A)
with_front front read = read >>= behind front

pub regroup : {A : Type 0} (front : List A) (a : A) (read : Taken (List A)) → with_front front (read >>= put_first a) ≡ with_front (front ++ a ∷ []) read
regroup {A = A} front a (Ok x) = ap (λ (values : List A). values_and_rest values x.1) (sym (append_assoc front (a ∷ []) x.0))
regroup front a (Err e) = refl

-- ---- a loop that reads so many values: before it, at a step, at a refusal, after it

pub goes_on : {A : Type 0} (f : List A → Form A) (front : List A) (count i : ℕ) (bytes : List ℕ) (a : A) (after : List ℕ) (total : Taken (List A)) → i < count
    → (f front).taken bytes ≡ Ok (a, after)
    → with_front front (all_taken f front (count - i) bytes) ≡ total
    → with_front (front ++ a ∷ []) (all_taken f (front ++ a ∷ []) (count - (i + 1)) after) ≡ total
unfolding all_taken
goes_on f front count i bytes a after total lt h so_far =
    let k : count - i ≡ suc (count - (i + 1)) = omega arith in
    let one : with_front front (all_taken f front (count - i) bytes) ≡ with_front (front ++ a ∷ []) (all_taken f (front ++ a ∷ []) (count - (i + 1)) after) =
    rw (k, h) (regroup front a (all_taken f (front ++ a ∷ []) (count - (i + 1)) after)) in
    sym one ∙ so_far

pub ends : {A : Type 0} (f : List A → Form A) (e : SnapRefusal) (front : List A) (count i : ℕ) (bytes : List ℕ) (total : Taken (List A)) → i < count
    → (f front).taken bytes ≡ Err e
    → with_front front (all_taken f front (count - i) bytes) ≡ total
    → total ≡ Err e
unfolding all_taken
ends f e front count i bytes total lt h so_far =
    let k : count - i ≡ suc (count - (i + 1)) = omega arith in
    let one : with_front front (all_taken f front (count - i) bytes) ≡ Err e = rw (k, h) refl in
    sym so_far ∙ one

pub is_done : {A : Type 0} (f : List A → Form A) (front : List A) (count i : ℕ) (bytes : List ℕ) (total : Taken (List A)) → count ≤ i
    → with_front front (all_taken f front (count - i) bytes) ≡ total
    → total ≡ Ok (front, bytes)
unfolding all_taken
is_done {A = A} f front count i bytes total le so_far =
    let k : count - i ≡ 0 = omega arith in
    let one : with_front front (all_taken f front (count - i) bytes) ≡ Ok (front, bytes) = rw k (ap (λ (values : List A). values_and_rest values bytes) (append-nil front)) in
    sym so_far ∙ one

-- ---- what the exit of a `?` in a loop returns

pub gives_refusal : {X A : Type 0} (view : X → A) (result : Result X SnapRefusal) (e : SnapRefusal) (read : Result A SnapRefusal) → IsErrAnd result (λ y. y ≡ e) → read ≡ Err e
    → Gives view result read
gives_refusal view (Ok x) e read is h = absurd is
gives_refusal view (Err y) e read is h = rw is h

pub reads_refusal : {X A : Type 0} (view : X → A) (result : Result X ReadError) (e : SnapRefusal) (read : Result A SnapRefusal) → IsErrAnd result (λ y. y ≡ Refused e) → read ≡ Err e
    → Reads view result read
reads_refusal view (Ok x) e read is h = absurd is
reads_refusal view (Err y) e read is h = rw is h
