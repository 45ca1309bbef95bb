-- Two lists of protections are the same where they are as long and each pair is the same.
use Rattle.std.proofs.Common.{◌≡◌, ℕ, suc, ◌+◌, ◌<◌, ◌≤◌, List, [], ◌∷◌, length, drop, get_or, zip, refl, sym, ◌∙◌, ap, arith, Bool, true, false, ◌&&◌}
use Rattle.std.specs.Prelude.{◌==◌}
use Rattle.std.specs.List.{list_all}
use Rattle.std.proofs.lemmas.Bool.{eqb-true, eqb-false, eq-eqb, ne_eqb}
use Rattle.std.proofs.lemmas.Bool.Decides.{nat_tests}
use Rattle.std.proofs.lemmas.List.{drop_all, drop_more}
use Rattle.sv_types.specs.declared.protection.Protection.{Protection}
use Rattle.sv_types.specs.Protections.{is_same}
use Rattle.snapshot_format.specs.Judgements.{are_same}
use Rattle.sv_types.proofs.TruthValues.{and_swap}

-- ---- by their lengths and pairs

abbrev pub same_pair : Protection × Protection → Bool
same_pair x = is_same x.0 x.1

one_more : (a b : ℕ) → (a == b) ≡ (suc a == suc b)
one_more a b = by (a == b) refl
  where
    by : (same : Bool) → (a == b) ≡ same → same ≡ (suc a == suc b)
    by true is = sym (eq-eqb (suc a) (suc b) (ap suc (eqb-true a b is)))
    by false is = sym (ne_eqb (suc a) (suc b) (λ e. eqb-false a b is (omega (arith, e))))

pub by_pairs : (ones others : List Protection) → are_same ones others ≡ (length ones == length others && list_all same_pair (zip ones others))
by_pairs [] [] = refl
by_pairs [] (q ∷ qs) = let apart : (0 == suc (length qs)) ≡ false = grind (arith, nat_tests) in ap (λ (b : Bool). b && true) (sym apart)
by_pairs (p ∷ ps) [] = let apart : (suc (length ps) == 0) ≡ false = grind (arith, nat_tests) in ap (λ (b : Bool). b && true) (sym apart)
by_pairs (p ∷ ps) (q ∷ qs) =
    ap (λ (b : Bool). is_same p q && b) (by_pairs ps qs)
    ∙ and_swap (is_same p q) (length ps == length qs) (list_all same_pair (zip ps qs))
    ∙ ap (λ (long : Bool). long && (is_same p q && list_all same_pair (zip ps qs))) (one_more (length ps) (length qs))

-- ---- pair by pair

same_step : (ones others : List Protection) (i : ℕ) (d e : Protection) → length ones ≡ length others → i < length ones
    → are_same (drop i ones) (drop i others) ≡ (is_same (get_or ones i d) (get_or others i e) && are_same (drop (i + 1) ones) (drop (i + 1) others))
same_step ones others i d e long within =
    ap (λ (ps : List Protection). are_same ps (drop i others)) (drop_more ones i d within)
    ∙ ap (are_same (get_or ones i d ∷ drop (i + 1) ones)) (drop_more others i e (omega (arith, long, within)))

pub pairs_go_on : (ones others : List Protection) (i : ℕ) (d e : Protection) (same all : Bool) → length ones ≡ length others → i < length ones → same ≡ true
    → same ≡ is_same (get_or ones i d) (get_or others i e) → all ≡ are_same (drop i ones) (drop i others) → all ≡ are_same (drop (i + 1) ones) (drop (i + 1) others)
pairs_go_on ones others i d e same all long within right is before =
    before ∙ same_step ones others i d e long within
    ∙ ap (λ (b : Bool). b && are_same (drop (i + 1) ones) (drop (i + 1) others)) (sym is ∙ right)

pub pairs_break : (ones others : List Protection) (i : ℕ) (d e : Protection) (same all : Bool) → length ones ≡ length others → i < length ones → same ≡ false
    → same ≡ is_same (get_or ones i d) (get_or others i e) → all ≡ are_same (drop i ones) (drop i others) → false ≡ all
pairs_break ones others i d e same all long within wrong is before =
    sym (before ∙ same_step ones others i d e long within ∙ ap (λ (b : Bool). b && are_same (drop (i + 1) ones) (drop (i + 1) others)) (sym is ∙ wrong))

pub pairs_end : (ones others : List Protection) (i : ℕ) (all : Bool) → length ones ≡ length others → length ones ≤ i → all ≡ are_same (drop i ones) (drop i others) → true ≡ all
pairs_end ones others i all long past before =
    let none : drop i ones ≡ [] = drop_all i ones past in
    let nor : drop i others ≡ [] = drop_all i others (omega (arith, long, past)) in
    sym (before ∙ ap (λ (ps : List Protection). are_same ps (drop i others)) none ∙ ap (are_same []) nor)
