-- Small forms are forms, and what is put together from forms is one.
use Rattle.std.proofs.Common.{◌≡◌, ℕ, zero, suc, ◌+◌, ◌^◌, ◌<◌, ◌≤◌, Bool, true, false, cond, ltb, eqb, List, [], ◌∷◌, ◌++◌, length, get_or}
use Rattle.std.proofs.Common.{take, drop, Result, Ok, Err, refl, sym, ap, subst, ◌∙◌, append_assoc, arith, inl, inr}
use Rattle.std.specs.Prelude.{◌&&◌, nat_lt}
use Rattle.std.specs.Int.{w64, to_le_bytes, from_le_bytes}
use Rattle.std.proofs.lemmas.Bool.{eqb-true, ltb-true, ltb-false, le-ltb, lt-ltb, eq-eqb, cases_lt}
use Rattle.std.proofs.lemmas.List.{take_at, drop_at, take-append-drop, length-append, length-take, get_or-take, get_or_past, get_or-append-add}
use Rattle.std.proofs.lemmas.Nat.{le_bytes_8, from_le_bytes-to_le_bytes_8}
use Rattle.snapshot_format.specs.declared.refusal.SnapRefusal.{SnapRefusal}
use Rattle.snapshot_format.specs.declared.refusal.SnapRefusal.TheVariants.{OtherLength, OutOfRange}
use Rattle.snapshot_format.specs.FormLaw.{IsBytes, IsForm}
use Rattle.sv_types.specs.Steps.{◌>>=◌}
use Rattle.snapshot_format.specs.Forms.{Form, encode_number, number_at, is_word, number, byte_at, byte, bytes_at, plain, nothing}
use Rattle.snapshot_format.specs.Forms.{if_in_range, within, pair_with, and_then, ◌⨾◌, map_value, map_form, always, encode_all, has_all}
use Rattle.snapshot_format.specs.Forms.{put_first, all_taken, list_form, counted_list, counted_bytes}
pub use Rattle.sv_types.proofs.TruthValues.{and_first as first_true, and_second as second_true}
pub use Rattle.std.proofs.lemmas.Bool.{and_from as both_true}

-- ---- bytes

IsBytes-take : (n : ℕ) (bytes : List ℕ) → IsBytes bytes → IsBytes (take n bytes)
IsBytes-take n bytes h i =
    elim (cases_lt i n) [
      | inl lt ↦ rw (get_or-take n bytes i 0 lt) (h i)
      | inr le ↦ rw (get_or_past (take n bytes) i 0 (omega (arith, length-take n bytes))) (omega arith)
    ]

IsBytes-behind : (bytes front rest : List ℕ) → IsBytes bytes → bytes ≡ front ++ rest → IsBytes rest
IsBytes-behind bytes front rest h e i =
    let at : get_or bytes (length front + i) 0 ≡ get_or rest i 0 = ap (λ (b : List ℕ). get_or b (length front + i) 0) e ∙ get_or-append-add front rest i 0 in
    rw (← at) (h (length front + i))

-- ---- steps

-- the value of a step that wasn't refused
pub bind_ok : {A B : Type 0} (r : Result A SnapRefusal) (f : A → Result B SnapRefusal) (y : B) → (r >>= f) ≡ Ok y → (x : A) × (r ≡ Ok x) × (f x ≡ Ok y)
bind_ok (Ok x) f y e = (x, refl, e)
bind_ok (Err d) f y e = absurd cc

abbrev taken_value : {A : Type 0} → A → Result A SnapRefusal
taken_value x = Ok x

pub ok_is : {A : Type 0} (x y : A) → taken_value x ≡ taken_value y → x ≡ y
ok_is x y e = cc

-- a test that let a value pass, or the refusal
pub passed : {A : Type 0} (b : Bool) (d : SnapRefusal) (x y : A) → cond b (Ok x) (Err d) ≡ Ok y → (b ≡ true) × (x ≡ y)
passed true d x y e = (refl, cc)
passed false d x y e = absurd cc

pub not_short : {A : Type 0} (b : Bool) (d : SnapRefusal) (x y : A) → cond b (Err d) (Ok x) ≡ Ok y → (b ≡ false) × (x ≡ y)
not_short true d x y e = absurd cc
not_short false d x y e = (refl, cc)

-- ---- numbers and bytes

-- what is read of so many bytes, whatever they are read as
pub fixed_again : (k : ℕ) (encode : ℕ → List ℕ) (read : List ℕ → ℕ) (n : ℕ) (rest : List ℕ) → length (encode n) ≡ k → read (encode n) ≡ n
    → cond {A = Result (ℕ × List ℕ) SnapRefusal} (ltb (length (encode n ++ rest)) k) (Err OtherLength) (Ok (read (take k (encode n ++ rest)), drop k (encode n ++ rest))) ≡ Ok (n, rest)
fixed_again k encode read n rest len back =
    let long : ltb (length (encode n ++ rest)) k ≡ false = le-ltb _ _ (omega (arith, length-append (encode n) rest, len)) in
    rw (long, take_at (encode n) rest k len, drop_at (encode n) rest k len, back) refl

pub fixed_only : (k : ℕ) (encode : ℕ → List ℕ) (read : List ℕ → ℕ) (bytes : List ℕ) (n : ℕ) (rest : List ℕ)
    → ((front : List ℕ) → length front ≡ k → IsBytes front → encode (read front) ≡ front) → IsBytes bytes
    → cond {A = Result (ℕ × List ℕ) SnapRefusal} (ltb (length bytes) k) (Err OtherLength) (Ok (read (take k bytes), drop k bytes)) ≡ Ok (n, rest) → (bytes ≡ encode n ++ rest) × (k ≤ length bytes)
fixed_only k encode read bytes n rest back fits e =
    let g = not_short (ltb (length bytes) k) OtherLength (read (take k bytes), drop k bytes) (n, rest) e in
    let long : k ≤ length bytes = ltb-false _ _ g.0 in
    let n-is : read (take k bytes) ≡ n = ap (λ (p : ℕ × List ℕ). p.0) g.1 in
    let rest-is : drop k bytes ≡ rest = ap (λ (p : ℕ × List ℕ). p.1) g.1 in
    let front : encode n ≡ take k bytes = rw (← n-is) (back (take k bytes) (omega (arith, length-take k bytes, long)) (IsBytes-take k bytes fits)) in
    (rw (front, ← rest-is) (sym (take-append-drop k bytes)), long)

word_below : (bytes : List ℕ) → IsBytes bytes → from_le_bytes w64 bytes < 2 ^ 64
word_below bytes fits = omega (arith, fits 0, fits 1, fits 2, fits 3, fits 4, fits 5, fits 6, fits 7)

number_read : (bytes : List ℕ) (n : ℕ) (rest : List ℕ) → IsBytes bytes → number_at bytes ≡ Ok (n, rest) → n < 2 ^ 64
unfolding number_at
number_read bytes n rest fits e =
    let g = not_short (ltb (length bytes) 8) OtherLength (from_le_bytes w64 (take 8 bytes), drop 8 bytes) (n, rest) e in
    let n-is : from_le_bytes w64 (take 8 bytes) ≡ n = ap (λ (p : ℕ × List ℕ). p.0) g.1 in
    subst (λ (m : ℕ). m < 2 ^ 64) n-is (word_below (take 8 bytes) (IsBytes-take 8 bytes fits))

number_again : (n : ℕ) (rest : List ℕ) → is_word n ≡ true → number_at (encode_number n ++ rest) ≡ Ok (n, rest)
unfolding number_at encode_number
number_again n rest lt =
    fixed_again 8 (to_le_bytes w64) (from_le_bytes w64) n rest refl (from_le_bytes-to_le_bytes_8 n (ltb-true _ _ lt))

number_only : (bytes : List ℕ) (n : ℕ) (rest : List ℕ) → IsBytes bytes → number_at bytes ≡ Ok (n, rest) → bytes ≡ encode_number n ++ rest
unfolding number_at encode_number
number_only bytes n rest fits e =
    (fixed_only 8 (to_le_bytes w64) (from_le_bytes w64) bytes n rest (λ front len f. le_bytes_8 front _ len f refl) fits e).0

pub number_is : IsForm number
number_is = record {
  again = number_again;
  only = λ bytes n rest fits e. (number_only bytes n rest fits e, lt-ltb _ _ (number_read bytes n rest fits e));
}

plain_again : (n : ℕ) (b rest : List ℕ) → eqb (length b) n ≡ true → bytes_at n (b ++ rest) ≡ Ok (b, rest)
unfolding bytes_at
plain_again n b rest h =
    let len : length b ≡ n = eqb-true _ _ h in
    let long : ltb (length (b ++ rest)) n ≡ false = le-ltb _ _ (omega (arith, length-append b rest, len)) in
    rw (long, take_at b rest n len, drop_at b rest n len) refl

plain_only : (n : ℕ) (bytes b rest : List ℕ) → bytes_at n bytes ≡ Ok (b, rest) → (bytes ≡ b ++ rest) × (eqb (length b) n ≡ true)
unfolding bytes_at
plain_only n bytes b rest e =
    let g = not_short (ltb (length bytes) n) OtherLength (take n bytes, drop n bytes) (b, rest) e in
    let long : n ≤ length bytes = ltb-false _ _ g.0 in
    let len : length (take n bytes) ≡ n = omega (arith, length-take n bytes, long) in
    subst (λ (p : List ℕ × List ℕ). (bytes ≡ p.0 ++ p.1) × (eqb (length p.0) n ≡ true)) g.1 (sym (take-append-drop n bytes), eq-eqb (length (take n bytes)) n len)

pub plain_is : (n : ℕ) → IsForm (plain n)
plain_is n = record { again = λ b rest h. plain_again n b rest h; only = λ bytes b rest fits e. plain_only n bytes b rest e }

byte_only : (bytes : List ℕ) (n : ℕ) (rest : List ℕ) → IsBytes bytes → byte_at bytes ≡ Ok (n, rest) → (bytes ≡ n ∷ rest) × (nat_lt n 256 ≡ true)
byte_only [] n rest fits e = absurd cc
byte_only (b ∷ bytes) n rest fits e =
    subst (λ (y : ℕ × List ℕ). (b ∷ bytes ≡ y.0 ∷ y.1) × (nat_lt y.0 256 ≡ true)) (ok_is (b, bytes) (n, rest) e) (refl, lt-ltb b 256 (fits 0))

pub byte_is : IsForm byte
byte_is = record { again = λ n rest h. refl; only = λ bytes n rest fits e. byte_only bytes n rest fits e }

pub nothing_is : {A : Type 0} (value : A) (is : A → Bool) → ((a : A) → is a ≡ true → value ≡ a) → is value ≡ true → IsForm (nothing value is)
nothing_is {A = A} value is back stays = record {
  again = λ a rest h. ap (λ (b : A). taken_value (b, rest)) (back a h);
  only = λ bytes a rest fits e. subst (λ (y : A × List ℕ). (bytes ≡ y.1) × (is y.0 ≡ true)) (ok_is (value, bytes) (a, rest) e) (refl, stays);
}

-- ---- ranges

pub within_is : {A : Type 0} (good : A → Bool) (f : Form A) → IsForm f → IsForm (within good f)
within_is {A = A} good f F = record {
  again = λ a rest h. rw (F.again a rest (first_true (f.has a) (good a) h), second_true (f.has a) (good a) h) refl;
  only = λ bytes a rest fits e.
      let b = bind_ok (f.taken bytes) (if_in_range good) (a, rest) e in
      let g = passed (good b.0.0) OutOfRange b.0 (a, rest) b.2 in
      let p = F.only bytes b.0.0 b.0.1 fits b.1 in
      subst (λ (y : A × List ℕ). (bytes ≡ f.encode y.0 ++ y.1) × ((f.has y.0 && good y.0) ≡ true)) g.1 (p.0, both_true _ _ p.1 g.0);
}

-- ---- one after the other

pub and_then_is : {A B : Type 0} (f : Form A) (g : A → Form B) → IsForm f → ((a : A) → f.has a ≡ true → IsForm (g a)) → IsForm (and_then f g)
and_then_is {A = A} {B = B} f g F G = record {
  again = λ x rest h.
      let one = first_true (f.has x.0) ((g x.0).has x.1) h in
      let two = second_true (f.has x.0) ((g x.0).has x.1) h in
      ap (and_then f g).taken (append_assoc (f.encode x.0) ((g x.0).encode x.1) rest)
      ∙ rw (F.again x.0 ((g x.0).encode x.1 ++ rest) one, (G x.0 one).again x.1 rest two) refl;
  only = λ bytes x rest fits e.
      let a = bind_ok (f.taken bytes) (λ a. (g a.0).taken a.1 >>= pair_with a.0) (x, rest) e in
      let p = F.only bytes a.0.0 a.0.1 fits a.1 in
      let b = bind_ok ((g a.0.0).taken a.0.1) (pair_with a.0.0) (x, rest) a.2 in
      let q = (G a.0.0 p.1).only a.0.1 b.0.0 b.0.1 (IsBytes-behind bytes (f.encode a.0.0) a.0.1 fits p.0) b.1 in
      let whole : bytes ≡ (f.encode a.0.0 ++ (g a.0.0).encode b.0.0) ++ b.0.1 =
      p.0 ∙ ap (λ (t : List ℕ). f.encode a.0.0 ++ t) q.0 ∙ sym (append_assoc (f.encode a.0.0) ((g a.0.0).encode b.0.0) b.0.1) in
      subst (λ (y : (A × B) × List ℕ). (bytes ≡ (f.encode y.0.0 ++ (g y.0.0).encode y.0.1) ++ y.1) × ((f.has y.0.0 && (g y.0.0).has y.0.1) ≡ true))
      (ok_is ((a.0.0, b.0.0), b.0.1) (x, rest) b.2) (whole, both_true _ _ p.1 q.1);
}

-- ---- values under another name

pub record IsRenaming {A B : Type 0} (to : A → B) (from : B → A) (proper : B → Bool) (f : Form A) : Type 0 where
  pub back : (b : B) → proper b ≡ true → f.has (from b) ≡ true → to (from b) ≡ b
  pub again : (a : A) → f.has a ≡ true → from (to a) ≡ a
  pub stays : (a : A) → f.has a ≡ true → proper (to a) ≡ true

pub made_is : {A B : Type 0} (to : A → B) (from : B → A) (proper : B → Bool) (f : Form A) → IsForm f → IsRenaming to from proper f → IsForm (map_form to from proper f)
made_is {A = A} {B = B} to from proper f F R = record {
  again = λ b rest h.
      let one = first_true (proper b) (f.has (from b)) h in
      let two = second_true (proper b) (f.has (from b)) h in
      rw (F.again (from b) rest two) (ap (λ (c : B). taken_value (c, rest)) (R.back b one two));
  only = λ bytes b rest fits e.
      let a = bind_ok (f.taken bytes) (map_value to) (b, rest) e in
      let p = F.only bytes a.0.0 a.0.1 fits a.1 in
      let same = R.again a.0.0 p.1 in
      subst (λ (y : B × List ℕ). (bytes ≡ f.encode (from y.0) ++ y.1) × ((proper y.0 && f.has (from y.0)) ≡ true))
      (ok_is (to a.0.0, a.0.1) (b, rest) a.2) (rw same p.0, both_true _ _ (R.stays a.0.0 p.1) (rw same p.1));
}

-- ---- lists

all_again : {A : Type 0} (f : List A → Form A) → ((before : List A) → IsForm (f before)) → (before : List A) (n : ℕ) (values : List A) (rest : List ℕ)
    → has_all f before n values ≡ true → all_taken f before n (encode_all f before values ++ rest) ≡ Ok (values, rest)
unfolding has_all all_taken encode_all
all_again f F before zero [] rest h = refl
all_again f F before zero (a ∷ values) rest h = absurd cc
all_again f F before (suc n) [] rest h = absurd cc
all_again f F before (suc n) (a ∷ values) rest h =
    let one = first_true ((f before).has a) (has_all f (before ++ a ∷ []) n values) h in
    let two = second_true ((f before).has a) (has_all f (before ++ a ∷ []) n values) h in
    ap (all_taken f before (suc n)) (append_assoc ((f before).encode a) (encode_all f (before ++ a ∷ []) values) rest)
    ∙ rw ((F before).again a (encode_all f (before ++ a ∷ []) values ++ rest) one, all_again f F (before ++ a ∷ []) n values rest two) refl

all_only : {A : Type 0} (f : List A → Form A) → ((before : List A) → IsForm (f before)) → (before : List A) (n : ℕ) (bytes : List ℕ) (values : List A) (rest : List ℕ)
    → IsBytes bytes → all_taken f before n bytes ≡ Ok (values, rest) → (bytes ≡ encode_all f before values ++ rest) × (has_all f before n values ≡ true)
unfolding has_all all_taken encode_all
all_only {A = A} f F before zero bytes values rest fits e =
    subst (λ (y : List A × List ℕ). (bytes ≡ encode_all f before y.0 ++ y.1) × (has_all f before zero y.0 ≡ true)) (ok_is ([], bytes) (values, rest) e) (refl, refl)
all_only {A = A} f F before (suc n) bytes values rest fits e =
    let a = bind_ok ((f before).taken bytes) (λ a. all_taken f (before ++ a.0 ∷ []) n a.1 >>= put_first a.0) (values, rest) e in
    let p = (F before).only bytes a.0.0 a.0.1 fits a.1 in
    let b = bind_ok (all_taken f (before ++ a.0.0 ∷ []) n a.0.1) (put_first a.0.0) (values, rest) a.2 in
    let q = all_only f F (before ++ a.0.0 ∷ []) n a.0.1 b.0.0 b.0.1 (IsBytes-behind bytes ((f before).encode a.0.0) a.0.1 fits p.0) b.1 in
    let whole : bytes ≡ ((f before).encode a.0.0 ++ encode_all f (before ++ a.0.0 ∷ []) b.0.0) ++ b.0.1 =
    p.0 ∙ ap (λ (t : List ℕ). (f before).encode a.0.0 ++ t) q.0 ∙ sym (append_assoc ((f before).encode a.0.0) (encode_all f (before ++ a.0.0 ∷ []) b.0.0) b.0.1) in
    subst (λ (y : List A × List ℕ). (bytes ≡ encode_all f before y.0 ++ y.1) × (has_all f before (suc n) y.0 ≡ true))
    (ok_is (a.0.0 ∷ b.0.0, b.0.1) (values, rest) b.2) (whole, both_true _ _ p.1 q.1)

pub listed_is : {A : Type 0} (f : List A → Form A) (before : List A) (n : ℕ) → ((before : List A) → IsForm (f before)) → IsForm (list_form f before n)
listed_is f before n F = record {
  again = λ values rest h. all_again f F before n values rest h;
  only = λ bytes values rest fits e. all_only f F before n bytes values rest fits e;
}

pub has_all_length : {A : Type 0} (f : List A → Form A) (before : List A) (n : ℕ) (values : List A) → has_all f before n values ≡ true → length values ≡ n
unfolding has_all
has_all_length f before zero [] h = refl
has_all_length f before zero (a ∷ values) h = absurd cc
has_all_length f before (suc n) [] h = absurd cc
has_all_length f before (suc n) (a ∷ values) h =
    ap suc (has_all_length f (before ++ a ∷ []) n values (second_true ((f before).has a) (has_all f (before ++ a ∷ []) n values) h))

pub counted_is : {A : Type 0} (few : ℕ → Bool) (f : List A → Form A) → ((before : List A) → IsForm (f before)) → IsForm (counted_list few f)
counted_is {A = A} few f F =
    made_is (λ (x : ℕ × List A). x.1) (λ values. (length values, values)) always (and_then (within few number) (list_form f []))
    (and_then_is (within few number) (list_form f []) (within_is few number number_is) (λ n h. listed_is f [] n F))
    (record {
      back = λ b p h. refl;
      again = λ x h. ap (λ (n : ℕ). (n, x.1)) (has_all_length f [] x.0 x.1 (second_true _ _ h));
      stays = λ x h. refl;
    })

-- a length, and so many bytes
pub measured_is : (few : ℕ → Bool) → IsForm (counted_bytes few)
measured_is few =
    made_is (λ (x : ℕ × List ℕ). x.1) (λ bytes. (length bytes, bytes)) always (and_then (within few number) plain)
    (and_then_is (within few number) plain (within_is few number number_is) (λ n h. plain_is n))
    (record {
      back = λ b p h. refl;
      again = λ x h. ap (λ (n : ℕ). (n, x.1)) (eqb-true (length x.1) x.0 (second_true ((within few number).has x.0) (eqb (length x.1) x.0) h));
      stays = λ x h. refl;
    })

-- ---- short forms of these

pub pair_is : {A B : Type 0} (f : Form A) (g : Form B) → IsForm f → IsForm g → IsForm (f ⨾ g)
pair_is f g F G = and_then_is f (λ a. g) F (λ a h. G)

pub numbers_are : (good : ℕ → Bool) → IsForm (within good number)
numbers_are good = within_is good number number_is

pub choose_is : {A : Type 0} (b : Bool) (f g : Form A) → IsForm f → IsForm g → IsForm (cond b f g)
choose_is true f g F G = F
choose_is false f g F G = G
