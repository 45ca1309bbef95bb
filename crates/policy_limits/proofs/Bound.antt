-- Entries that are bound.
use Rattle.std.proofs.Common.{◌≡◌, ℕ, ◌∙◌, Bool, false, ◌&&◌, not, ◌==◌, List, [], ◌∷◌, ◌++◌, length, refl, ap, suc}
use Rattle.std.specs.List.{list_any}
use Rattle.std.proofs.lemmas.Bool.{and_right}
use Rattle.sv_types.specs.Policies.{all_bound, bound_fits}

-- two lists of different lengths aren't bound
pub unequal : (ram_pages : ℕ) (before entries bound : List ℕ) → ¬ (length entries ≡ length bound) → all_bound ram_pages before entries bound ≡ false
unequal ram_pages before [] [] other = absurd (other refl)
unequal ram_pages before [] (gpa ∷ bound) other = refl
unequal ram_pages before (entry ∷ entries) [] other = refl
unequal ram_pages before (entry ∷ entries) (gpa ∷ bound) other =
    ap (λ (b : Bool). bound_fits ram_pages entry gpa && not (list_any (λ e. e == entry) before) && b)
    (unequal ram_pages (before ++ entry ∷ []) entries bound (λ same. other (ap suc same)))
    ∙ and_right (bound_fits ram_pages entry gpa && not (list_any (λ e. e == entry) before)) false refl
