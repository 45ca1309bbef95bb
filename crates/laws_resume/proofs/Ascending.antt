-- An ascending list is what a test for its numbers picks from all numbers.
use Rattle.std.proofs.Common.{◌≡◌, ℕ, zero, suc, ◌+◌, ◌<◌, ◌≤◌, List, [], ◌∷◌, filter, refl, sym, ◌∙◌, ap, subst, Bool, true, false, arith}
use Rattle.std.specs.Prelude.{◌==◌}
use Rattle.std.proofs.lemmas.Bool.{eq-eqb, eqb-true, ne_eqb}
use Rattle.sv_types.specs.ApprovedPages.{numbers_from}
use Rattle.spec_reference.specs.States.{has_number}
use Rattle.laws_resume.specs.Keepable.{AscendFrom}
use Rattle.laws_resume.proofs.TakenAgain.{not_below}
use Rattle.laws_resume.proofs.TakenPages.{AllBelow, head_below, tail_below}
use Rattle.laws_simulation.proofs.Lookups.{both, same_number}

-- ---- what a test picks

pub picked_same : (f g : ℕ → Bool) (first n : ℕ) → ((k : ℕ) → first ≤ k → k < first + n → f k ≡ g k) → filter f (numbers_from first n) ≡ filter g (numbers_from first n)
picked_same f g first zero same = refl
picked_same f g first (suc n) same =
    rw (same first (omega arith) (omega arith), picked_same f g (first + 1) n (λ k low high. same k (omega arith) (omega arith))) refl

picked_none : (first n : ℕ) → filter (has_number []) (numbers_from first n) ≡ []
picked_none first zero = refl
picked_none first (suc n) = picked_none (first + 1) n

-- ---- an ascending list

-- after its first number the others alone are met
rest_same : (page k : ℕ) (pages : List ℕ) → page + 1 ≤ k → has_number (page ∷ pages) k ≡ has_number pages k
rest_same page k pages past = rw (ne_eqb page k (λ same. omega (arith, same, past))) refl

-- the rest of an ascending list lies below the same end
-- the first number is taken where it is the list's, and passed over where it is before it
picked_here : (first n : ℕ) (pages : List ℕ) → filter (has_number pages) (numbers_from (first + 1) n) ≡ pages
    → filter (has_number (first ∷ pages)) (numbers_from first (suc n)) ≡ first ∷ pages
picked_here first n pages rest =
    rw (same_number first)
    (ap (◌∷◌ first) (picked_same (has_number (first ∷ pages)) (has_number pages) (first + 1) n (λ k low high. rest_same first k pages low) ∙ rest))

picked_later : (first n : ℕ) (pages : List ℕ) → has_number pages first ≡ false → filter (has_number pages) (numbers_from (first + 1) n) ≡ pages
    → filter (has_number pages) (numbers_from first (suc n)) ≡ pages
picked_later first n pages none rest = rw none rest

later : (first page : ℕ) (pages : List ℕ) → (page == first) ≡ false → first ≤ page → AscendFrom (page + 1) pages → AscendFrom (first + 1) (page ∷ pages)
later first page pages other least up =
    let differ : page ≡ first → ⊥ = λ same. both (page == first) (eq-eqb page first same) other in
    (omega (arith, differ, least), up)

-- the numbers from the next one on pick what is left
abbrev PicksNext : ℕ → ℕ → Type 0
PicksNext first n = (pages : List ℕ) → AscendFrom (first + 1) pages → AllBelow (first + 1 + n) pages → filter (has_number pages) (numbers_from (first + 1) n) ≡ pages

next_end : (first n k : ℕ) → k < first + suc n → k < first + 1 + n
next_end first n k less = omega (arith, less)

picked_by : (first n page : ℕ) (pages : List ℕ) (here : Bool) → (page == first) ≡ here → AscendFrom first (page ∷ pages) → AllBelow (first + suc n) (page ∷ pages)
    → PicksNext first n → filter (has_number (page ∷ pages)) (numbers_from first (suc n)) ≡ page ∷ pages
picked_by first n page pages true at up below next =
    let same : page ≡ first = eqb-true page first at in
    subst (λ (k : ℕ). filter (has_number (k ∷ pages)) (numbers_from first (suc n)) ≡ k ∷ pages) (sym same)
    (picked_here first n pages (next pages (subst (λ (k : ℕ). AscendFrom (k + 1) pages) same up.1)
    (λ k there. next_end first n k (tail_below (first + suc n) page pages below k there))))
picked_by first n page pages false at up below next =
    let up_here = later first page pages at up.0 up.1 in
    picked_later first n (page ∷ pages) (not_below (first + 1) first (page ∷ pages) up_here (omega arith))
    (next (page ∷ pages) up_here (λ k there. next_end first n k (below k there)))

pub picked : (first n : ℕ) (pages : List ℕ) → AscendFrom first pages → AllBelow (first + n) pages → filter (has_number pages) (numbers_from first n) ≡ pages
picked first n [] up below = picked_none first n
picked first zero (page ∷ pages) up below =
    let less : page < first + 0 = head_below (first + 0) page pages below in absurd (omega (arith, less, up.0))
picked first (suc n) (page ∷ pages) up below =
    picked_by first n page pages (page == first) refl up below (λ rest up_rest below_rest. picked (first + 1) n rest up_rest below_rest)
