-- Encoding values one after another, as a loop does.
use Rattle.std.proofs.Common.{◌≡◌, ℕ, ◌+◌, suc, ◌^◌, ◌<◌, ◌≤◌, List, [], ◌∷◌, ◌++◌, length, get_or, take, refl, sym, ap, ◌∙◌, append_assoc, Bool, true}
use Rattle.std.proofs.lemmas.Bool.{lt-ltb}
use Rattle.std.proofs.lemmas.List.{append-nil, take_all, take_more}
use Rattle.std.proofs.lemmas.List.Folds.{list_all_more}
use Rattle.std.specs.List.{list_all}
use Rattle.snapshot_format.specs.Forms.{Form, is_word, encode_all}
use Rattle.snapshot_format.specs.Typed.{are_words}
use Rattle.snapshot_format.proofs.FormLaws.{both_true}

-- one value more is encoded
pub encoded_one : {A : Type 0} (f : List A → Form A) (before values : List A) (a : A) → encode_all f before (values ++ a ∷ []) ≡ encode_all f before values ++ (f (before ++ values)).encode a
unfolding encode_all
encoded_one f before [] a = rw (append-nil before, append-nil ((f before).encode a)) refl
encoded_one f before (x ∷ values) a =
    let rest = encoded_one f (before ++ x ∷ []) values a in
    rw (rest, append_assoc before (x ∷ []) values) (sym (append_assoc ((f before).encode x) (encode_all f (before ++ x ∷ []) values) ((f (before ++ (x ∷ values))).encode a)))

-- ---- a loop over values: before it, at a step, after it. The bytes before stand in front

pub nothing_yet : {A : Type 0} (f : List A → Form A) (front : List ℕ) → front ≡ front ++ encode_all f [] []
unfolding encode_all
nothing_yet f front = sym (append-nil front)

pub one_more : {A : Type 0} (d : A) (f : List A → Form A) (values : List A) (i : ℕ) (front out next : List ℕ) → i < length values
    → out ≡ front ++ encode_all f [] (take i values)
    → next ≡ out ++ (f (take i values)).encode (get_or values i d)
    → next ≡ front ++ encode_all f [] (take (i + 1) values)
one_more d f values i front out next lt so_far written =
    let grown : encode_all f [] (take (i + 1) values) ≡ encode_all f [] (take i values) ++ (f (take i values)).encode (get_or values i d) =
    ap (λ taken. encode_all f [] taken) (take_more values i d lt) ∙ encoded_one f [] (take i values) (get_or values i d) in
    written ∙ ap (λ bytes. bytes ++ (f (take i values)).encode (get_or values i d)) so_far
    ∙ append_assoc front (encode_all f [] (take i values)) ((f (take i values)).encode (get_or values i d))
    ∙ ap (λ bytes. front ++ bytes) (sym grown)

pub all_written : {A : Type 0} (f : List A → Form A) (values : List A) (i : ℕ) (front out : List ℕ) → length values ≤ i
    → out ≡ front ++ encode_all f [] (take i values) → out ≡ front ++ encode_all f [] values
all_written f values i front out le so_far = so_far ∙ ap (λ taken. front ++ encode_all f [] taken) (take_all i values le)

-- after the number of values
pub all_counted : {A : Type 0} (f : List A → Form A) (values : List A) (i : ℕ) (front count out : List ℕ) → length values ≤ i
    → out ≡ (front ++ count) ++ encode_all f [] (take i values) → out ≡ front ++ (count ++ encode_all f [] values)
all_counted f values i front count out le so_far = all_written f values i (front ++ count) out le so_far ∙ append_assoc front count (encode_all f [] values)

-- ---- the same loop, of a test that each value passes

pub one_more_typed : {A : Type 0} (d : A) (p : A → Bool) (values : List A) (i : ℕ) → i < length values
    → list_all p (take i values) ≡ true → p (get_or values i d) ≡ true → list_all p (take (i + 1) values) ≡ true
one_more_typed d p values i lt so_far one = list_all_more p values i d lt ∙ both_true (list_all p (take i values)) (p (get_or values i d)) so_far one

pub all_typed : {A : Type 0} (p : A → Bool) (values : List A) (i : ℕ) → length values ≤ i → list_all p (take i values) ≡ true → list_all p values ≡ true
all_typed p values i le so_far = ap (list_all p) (sym (take_all i values le)) ∙ so_far

-- ---- numbers of a type of 64 bits

pub words_in : (xs : List ℕ) → ((i : ℕ) → get_or xs i 0 < 2 ^ 64) → are_words xs ≡ true
words_in [] fits = refl
words_in (x ∷ xs) fits = both_true (is_word x) (are_words xs) (lt-ltb x (2 ^ 64) (fits 0)) (words_in xs (λ i. fits (suc i)))
