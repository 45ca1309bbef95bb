-- Protections that are the due ones, page by page.
use Rattle.std.proofs.Common.{◌≡◌, ℕ, suc, ◌+◌, ◌<◌, List, [], ◌∷◌, length, map, refl, sym, ◌∙◌, ap, subst, Bool, true, false, arith}
use Rattle.sv_types.proofs.Sums.{plus_none}
use Rattle.std.specs.Prelude.{Option, Some, None}
use Rattle.sv_types.specs.ApprovedPages.{numbers_from}
use Rattle.sv_types.specs.declared.protection.Protection.{Protection}
use Rattle.sv_types.specs.declared.protection.Protection.TheVariants.{Free, Held, Approved}
use Rattle.sv_types.specs.Protections.{is_free}
use Rattle.spec_reference.specs.Protections.{protection_at}
use Rattle.spec_reference.specs.States.{protection_by}
use Rattle.sv_types.specs.Protections.{is_same}
use Rattle.snapshot_format.specs.Judgements.{are_same, protections_are_due}
use Rattle.snapshot_format.proofs.FormLaws.{first_true, second_true}
use Rattle.laws_resume.proofs.TakenPages.{either_one}

-- ---- the list that is due

one_same : (p q : Protection) → is_same p q ≡ true → p ≡ q
one_same Free Free e = refl
one_same Free Held e = absurd cc
one_same Free Approved e = absurd cc
one_same Held Free e = absurd cc
one_same Held Held e = refl
one_same Held Approved e = absurd cc
one_same Approved Free e = absurd cc
one_same Approved Held e = absurd cc
one_same Approved Approved e = refl

pub all_same : (ps qs : List Protection) → are_same ps qs ≡ true → ps ≡ qs
all_same [] [] e = refl
all_same [] (q ∷ qs) e = absurd cc
all_same (p ∷ ps) [] e = absurd cc
all_same (p ∷ ps) (q ∷ qs) e =
    ap (λ (x : Protection). x ∷ ps) (one_same p q (first_true (is_same p q) (are_same ps qs) e))
    ∙ ap (λ (rest : List Protection). q ∷ rest) (all_same ps qs (second_true (is_same p q) (are_same ps qs) e))

pub due_is : (x : Option (List Protection)) (ps : List Protection) → protections_are_due x ps ≡ true → x ≡ Some ps
due_is None ps e = absurd cc
due_is (Some guard) ps e = ap (λ (list : List Protection). Some list) (all_same guard ps e)

-- ---- a list by its elements

pub listed : (f : ℕ → Protection) (first : ℕ) (ps : List Protection) → ((i : ℕ) → i < length ps → protection_at ps i ≡ f (first + i))
    → map f (numbers_from first (length ps)) ≡ ps
listed f first [] each = refl
listed f first (p ∷ ps) each =
    ap (λ (x : Protection). x ∷ map f (numbers_from (first + 1) (length ps))) (ap f (plus_none first) ∙ sym (each 0 (omega arith)))
    ∙ ap (λ (rest : List Protection). p ∷ rest) (listed f (first + 1) ps (λ i below. each (suc i) (omega (arith, below)) ∙ ap f (plus_next first i)))
  where
    plus_next : (first i : ℕ) → first + suc i ≡ first + 1 + i
    plus_next first i = omega arith

-- ---- one page

-- pages are approved first, and then free ones are held
pub by_marks : (approved held : Bool) (p mid : Protection) → p ≡ either_one held Held mid → mid ≡ either_one approved Approved Free
    → (held ≡ true → is_free mid ≡ true) → p ≡ protection_by approved held
unfolding protection_by
by_marks true true p mid last first free = absurd (let taken : is_free Approved ≡ true = subst (λ (x : Protection). is_free x ≡ true) first (free refl) in cc)
by_marks true false p mid last first free = last ∙ first
by_marks false true p mid last first free = last
by_marks false false p mid last first free = last ∙ first
