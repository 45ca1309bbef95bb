-- Whether two of a list pass a test that doesn't tell which of them comes first: the list's order doesn't matter.
use Rattle.std.proofs.Common.{◌≡◌, ℕ, ◌+◌, ◌*◌, Bool, true, false, cond, List, [], ◌∷◌, refl, ap, sym, ◌∙◌, arith}
use Rattle.std.specs.Prelude.{nat_lt, ◌||◌}
use Rattle.std.specs.List.{list_any, sum_by}
use Rattle.std.specs.List.Sorted.{IsPermutation}
use Rattle.std.proofs.lemmas.Bool.Decides.{nat_tests}
use Rattle.std.proofs.lemmas.List.Sums.{sum_by-cons}
use Rattle.std.proofs.lemmas.List.Sorted.{sum_by-IsPermutation}

abbrev pub some_pair : {X : Type 0} → (X → X → Bool) → List X → Bool
some_pair r [] = false
some_pair r (x ∷ xs) = list_any (r x) xs || some_pair r xs

abbrev one : {X : Type 0} → (X → X → Bool) → X → X → ℕ
one r x y = cond (r x y) 1 0

-- how many of a list pass with x
abbrev count : {X : Type 0} → (X → X → Bool) → X → List X → ℕ
count r x [] = 0
count r x (y ∷ ys) = one r x y + count r x ys

-- how many pairs pass
abbrev pairs : {X : Type 0} → (X → X → Bool) → List X → ℕ
pairs r [] = 0
pairs r (x ∷ xs) = count r x xs + pairs r xs

-- and how often an element of xs passes with one of ys
abbrev passes : {X : Type 0} → (X → X → Bool) → List X → List X → ℕ
passes r [] ys = 0
passes r (x ∷ xs) ys = count r x ys + passes r xs ys

-- those that pass with themselves
abbrev alone : {X : Type 0} → (X → X → Bool) → List X → ℕ
alone r [] = 0
alone r (x ∷ xs) = one r x x + alone r xs

one_more : {X : Type 0} (r : X → X → Bool) → ((x y : X) → r x y ≡ r y x) → (y : X) (xs ys : List X)
    → passes r xs (y ∷ ys) ≡ count r y xs + passes r xs ys
one_more r same y [] ys = refl
one_more r same y (x ∷ xs) ys =
    let e = one_more r same y xs ys in
    let f : one r x y ≡ one r y x = λ i. cond (same x y i) 1 0 in
    omega arith

-- each pair passes both ways
twice : {X : Type 0} (r : X → X → Bool) → ((x y : X) → r x y ≡ r y x) → (xs : List X) → passes r xs xs ≡ alone r xs + 2 * pairs r xs
twice r same [] = refl
twice r same (x ∷ xs) =
    let e = one_more r same x xs xs in
    let f = twice r same xs in
    omega arith

-- ---- sums don't depend on the order

count_sum : {X : Type 0} (r : X → X → Bool) (x : X) (ys : List X) → count r x ys ≡ sum_by (one r x) ys
count_sum r x [] = refl
count_sum r x (y ∷ ys) = let e = count_sum r x ys in omega (arith, sum_by-cons (one r x) y ys)

passes_sum : {X : Type 0} (r : X → X → Bool) (xs ys : List X) → passes r xs ys ≡ sum_by (λ x. count r x ys) xs
passes_sum r [] ys = refl
passes_sum r (x ∷ xs) ys = let e = passes_sum r xs ys in omega (arith, sum_by-cons (λ z. count r z ys) x xs)

alone_sum : {X : Type 0} (r : X → X → Bool) (xs : List X) → alone r xs ≡ sum_by (λ x. one r x x) xs
alone_sum r [] = refl
alone_sum r (x ∷ xs) = let e = alone_sum r xs in omega (arith, sum_by-cons (λ z. one r z z) x xs)

count-IsPermutation : {X : Type 0} (r : X → X → Bool) (x : X) (xs ys : List X) → IsPermutation xs ys → count r x ys ≡ count r x xs
count-IsPermutation r x xs ys h = count_sum r x ys ∙ sum_by-IsPermutation (one r x) xs ys h ∙ sym (count_sum r x xs)

columns : {X : Type 0} (r : X → X → Bool) (zs xs ys : List X) → IsPermutation xs ys → passes r zs ys ≡ passes r zs xs
columns r [] xs ys h = refl
columns r (z ∷ zs) xs ys h =
    let e = count-IsPermutation r z xs ys h in
    let f = columns r zs xs ys h in
    omega arith

rows : {X : Type 0} (r : X → X → Bool) (zs xs ys : List X) → IsPermutation xs ys → passes r ys zs ≡ passes r xs zs
rows r zs xs ys h = passes_sum r ys zs ∙ sum_by-IsPermutation (λ x. count r x zs) xs ys h ∙ sym (passes_sum r xs zs)

alone-IsPermutation : {X : Type 0} (r : X → X → Bool) (xs ys : List X) → IsPermutation xs ys → alone r ys ≡ alone r xs
alone-IsPermutation r xs ys h = alone_sum r ys ∙ sum_by-IsPermutation (λ x. one r x x) xs ys h ∙ sym (alone_sum r xs)

pairs-IsPermutation : {X : Type 0} (r : X → X → Bool) → ((x y : X) → r x y ≡ r y x) → (xs ys : List X) → IsPermutation xs ys → pairs r ys ≡ pairs r xs
pairs-IsPermutation r same xs ys h =
    let a = rows r ys xs ys h in
    let b = columns r xs xs ys h in
    let lone = alone-IsPermutation r xs ys h in
    let before = twice r same xs in
    let after = twice r same ys in
    omega arith

-- ---- some pair

either : (b c : Bool) (n : ℕ) → c ≡ nat_lt 0 n → (b || c) ≡ nat_lt 0 (cond b 1 0 + n)
either true c n e = grind (arith, nat_tests)
either false c n e = let f : 0 + n ≡ n = omega arith in rw f e

some_sum : (m n : ℕ) → (nat_lt 0 m || nat_lt 0 n) ≡ nat_lt 0 (m + n)
some_sum m n = grind (arith, nat_tests)

any_counted : {X : Type 0} (r : X → X → Bool) (x : X) (ys : List X) → list_any (r x) ys ≡ nat_lt 0 (count r x ys)
any_counted r x [] = refl
any_counted r x (y ∷ ys) = either (r x y) (list_any (r x) ys) (count r x ys) (any_counted r x ys)

counted : {X : Type 0} (r : X → X → Bool) (xs : List X) → some_pair r xs ≡ nat_lt 0 (pairs r xs)
counted r [] = refl
counted r (x ∷ xs) =
    let e = counted r xs in
    let f = any_counted r x xs in
    rw (e, f) (some_sum (count r x xs) (pairs r xs))

pub some_pair-IsPermutation : {X : Type 0} (r : X → X → Bool) → ((x y : X) → r x y ≡ r y x) → (xs ys : List X) → IsPermutation xs ys → some_pair r ys ≡ some_pair r xs
some_pair-IsPermutation r same xs ys h =
    counted r ys ∙ ap (λ (n : ℕ). nat_lt 0 n) (pairs-IsPermutation r same xs ys h) ∙ sym (counted r xs)
