-- The place of an address in two lists that go along with one another.
use Rattle.std.proofs.Common.{◌≡◌, ℕ, zero, suc, ◌+◌, ◌<◌, ◌≤◌, Bool, true, false, List, [], ◌∷◌, length, refl, ◌∙◌, ap, get_or, arith, add-one}
use Rattle.std.specs.Prelude.{Option, Some, None, ◌==◌, if◌then◌else◌, option_map}
use Rattle.std.proofs.lemmas.Bool.{eq-eqb}
use Rattle.spec_reference.specs.States.{place_of_entry}

-- an address isn't among the first n of a list
unfoldable pub is_not_among : List ℕ → (va n : ℕ) → Bool
is_not_among es va zero = true
is_not_among [] va (suc n) = true
is_not_among (e ∷ es) va (suc n) = if e == va then false else is_not_among es va n

step_missed : (b rest later : Bool) → (if b then false else rest) ≡ true → (rest ≡ true → later ≡ true) → (if b then false else later) ≡ true
step_missed true rest later before k = cc
step_missed false rest later before k = k before

step_found : (b rest : Bool) (place : Option ℕ) (i : ℕ) → (if b then false else rest) ≡ true → (rest ≡ true → place ≡ Some i)
    → (if b then Some 0 else option_map suc place) ≡ Some (suc i)
step_found true rest place i before k = cc
step_found false rest place i before k = ap (option_map suc) (k before)

step_none : (b rest : Bool) (place : Option ℕ) → (if b then false else rest) ≡ true → (rest ≡ true → place ≡ None)
    → (if b then Some 0 else option_map suc place) ≡ None
step_none true rest place before k = cc
step_none false rest place before k = ap (option_map suc) (k before)

missed_one : (es : List ℕ) (va i d : ℕ) → i < length es → is_not_among es va i ≡ true → (get_or es i d == va) ≡ false → is_not_among es va (suc i) ≡ true
unfolding is_not_among
missed_one [] va i d below before other = absurd (omega arith)
missed_one (e ∷ es) va zero d below before other = rw other refl
missed_one (e ∷ es) va (suc i) d below before other =
    step_missed (e == va) (is_not_among es va i) (is_not_among es va (suc i)) before (λ rest. missed_one es va i d (omega arith) rest other)

-- one more is missed
pub missed_more : (es : List ℕ) (va i d : ℕ) → i < length es → is_not_among es va i ≡ true → (get_or es i d == va) ≡ false → is_not_among es va (i + 1) ≡ true
missed_more es va i d below before other = ap (is_not_among es va) (add-one i) ∙ missed_one es va i d below before other

pub found_there : (es bound : List ℕ) (va i d : ℕ) → i < length es → i < length bound → is_not_among es va i ≡ true → get_or es i d ≡ va
    → place_of_entry es bound va ≡ Some i
unfolding place_of_entry is_not_among
found_there [] bound va i d below bound_below before is = absurd (omega arith)
found_there (e ∷ es) [] va i d below bound_below before is = absurd (omega arith)
found_there (e ∷ es) (gpa ∷ bound) va zero d below bound_below before is = let same : (e == va) ≡ true = eq-eqb e va is in rw same refl
found_there (e ∷ es) (gpa ∷ bound) va (suc i) d below bound_below before is =
    step_found (e == va) (is_not_among es va i) (place_of_entry es bound va) i before
    (λ rest. found_there es bound va i d (omega arith) (omega arith) rest is)

pub none_there : (es bound : List ℕ) (va n : ℕ) → length bound ≤ n → is_not_among es va n ≡ true → place_of_entry es bound va ≡ None
unfolding place_of_entry is_not_among
none_there [] bound va n all before = refl
none_there (e ∷ es) [] va n all before = refl
none_there (e ∷ es) (gpa ∷ bound) va zero all before = absurd (omega arith)
none_there (e ∷ es) (gpa ∷ bound) va (suc n) all before =
    step_none (e == va) (is_not_among es va n) (place_of_entry es bound va) before (λ rest. none_there es bound va n (omega arith) rest)
