-- Lines that are held, and one more.
use Rattle.std.proofs.Common.{◌≡◌, ℕ, zero, suc, ◌+◌, ◌*◌, ◌/◌, ◌%◌, ◌<◌, inl, inr, List, length, get_or, set, replicate, refl, sym, ◌∙◌, ap, subst, arith}
use Rattle.spec_processor.specs.Bytes.{page_size}
use Rattle.std.specs.Prelude.{Option, Some, None}
use Rattle.std.proofs.lemmas.Option.{same_Some}
use Rattle.spec_processor.specs.Regions.{Region}
use Rattle.spec_processor.specs.declared.access.Access.{Access}
use Rattle.spec_processor.specs.declared.access.Access.TheVariants.{Fetch, Load, Store}
use Rattle.hw_tlb.specs.declared.line.Line.{Line}
use Rattle.hw_tlb.specs.Kept.{lines_of_reach, no_lines, line_place, AreThere, LineAgrees, ReachAgrees, IsKept, leads_under}
use Rattle.hw_tlb.proofs.GstageCacheLines.{set_at}

-- ---- what a line answers

pub line_leads : (r : Region) (line : Line) (va : ℕ) → LineAgrees r.tables line → AreThere r line.entries → line.page ≡ va / page_size
    → leads_under r line.regime line.access va ≡ Some (line.host + va % page_size)
line_leads r line va agrees there same =
    let place : page_size * line.page + va % page_size ≡ va = omega arith in
    let small : va % page_size < page_size = omega arith in
    ap (λ (a : ℕ). leads_under r line.regime line.access a) (sym place) ∙ agrees.leads r refl there (va % page_size) small

-- ---- one line more

place_inside : (access : Access) (page : ℕ) → line_place access page < lines_of_reach
place_inside Fetch page = omega arith
place_inside Load page = omega arith
place_inside Store page = omega arith

pub kept_agrees : (tables : List ℕ) (before after : List (Option Line)) (line : Line) → IsKept before after line → LineAgrees tables line
    → ReachAgrees tables before → ReachAgrees tables after
kept_agrees tables before after line kept agrees all = record {
  held = λ j found e.
      let i : ℕ = line_place line.access line.page in
      let fits : i < length before = subst (λ (n : ℕ). i < n) (sym kept.size) (place_inside line.access line.page) in
      let at : get_or (set before i (Some line)) j None ≡ Some found = ap (λ (lines : List (Option Line)). get_or lines j None) (sym kept.is) ∙ e in
      elim (set_at before i j (Some line) fits) [
        | inl same ↦ subst (λ (l : Line). LineAgrees tables l) (same_Some line found (sym same.1 ∙ at)) agrees
        | inr other ↦ all.held j found (sym other.1 ∙ at)
      ];
}

-- ---- empty lines

none_at : (n i : ℕ) → get_or (replicate {A = Option Line} n None) i None ≡ None
none_at zero i = refl
none_at (suc n) zero = refl
none_at (suc n) (suc i) = none_at n i

-- lines of which none is held agree with every table
pub none_agrees : (tables : List ℕ) → ReachAgrees tables no_lines
none_agrees tables = record { held = λ i line e. let none = none_at lines_of_reach i in absurd (cc) }
