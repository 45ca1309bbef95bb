-- What an answer leaves of the tables, and the answer to an exit of a hart that is there.
use Rattle.std.proofs.Common.{◌≡◌, ℕ, zero, suc, ◌<◌, List, [], ◌∷◌, length, refl, sym, ◌∙◌, ap, subst, arith}
use Rattle.std.specs.Prelude.{Some, slice_get}
use Rattle.sv_types.specs.Policies.{Rules}
use Rattle.sv_types.specs.Views.{AreViews}
use Rattle.spec_processor.specs.Regions.{Region}
use Rattle.spec_processor.specs.declared.exit.Exit.{Exit}
use Rattle.sv_types.specs.declared.protection.Protection.{Protection}
use Rattle.spec_reference.specs.Protections.{protection_at}
use Rattle.spec_hardware.specs.HwExits.{hw_exit, served_exit, served_by}
use Rattle.spec_hardware.specs.Machine.{Machine, HwHart, update}
use Rattle.spec_hardware.specs.StandsFor.{bound_pages}
use Rattle.spec_hardware.specs.Steps.{WithTables}
use Rattle.spec_hardware.specs.declared.exits.ExitAnswer.{ExitAnswer}
use Rattle.page_guard.specs.Guarded.{Guarded, TablesMatchGuard}
use Rattle.hw_platform.specs.Attempts.{hart_in}
use Rattle.secvisor_core.specs.Serving.{HasPagesOf, answered_exit, asked_of}

-- the guard's tables show every view, where they are drawn for the pages that the policy binds its entries to
pub views_shown : (rules : Rules) (region : Region) (guard : Guarded) → TablesMatchGuard region guard → length guard.pages ≡ rules.ram_pages → guard.bound ≡ bound_pages rules
    → AreViews region.tables rules.ram_pages (bound_pages rules) (protection_at guard.pages)
views_shown rules region guard tables_match pages places =
    subst (λ (bound : List ℕ). AreViews region.tables rules.ram_pages bound (protection_at guard.pages)) places
    (subst (λ (n : ℕ). AreViews region.tables n guard.bound (protection_at guard.pages)) pages tables_match.views)

-- where memory and protections stay, the tables may stay
pub stays : (m served after : Machine) → HasPagesOf m after → after ≡ served
    → AreViews m.region.tables m.rules.ram_pages (bound_pages m.rules) (protection_at m.protections) → WithTables m served after
stays m served after has e shown = record {
  tables = m.region.tables;
  are = record {
    size = refl;
    views = subst (λ (guard : List Protection). AreViews m.region.tables m.rules.ram_pages (bound_pages m.rules) (protection_at guard)) (sym has.protections ∙ ap (λ (x : Machine). x.protections) e)
        shown;
  };
  same = e ∙ sym (ap (λ (r : Region). record served { region = record served.region { tables = r.tables } }) (sym has.region ∙ ap (λ (x : Machine). x.region) e));
}

pub hart_there : (harts : List HwHart) (h : ℕ) → h < length harts → slice_get harts h ≡ Some (hart_in harts h)
hart_there [] h below = absurd (omega arith)
hart_there (x ∷ harts) zero below = refl
hart_there (x ∷ harts) (suc h) below = hart_there harts h (omega arith)

-- the answer to an exit of a hart that is there
pub served_there : (m : Machine) (h : ℕ) (exit : Exit) → h < length m.harts
    → served_exit m h exit ≡ hw_exit m h (hart_in m.harts h) (hart_in m.harts h).core.hregs.mode exit
unfolding served_exit served_by
served_there m h exit below = ap (served_by m h exit) (hart_there m.harts h below)

pub length_update : (harts : List HwHart) (h : ℕ) (change : HwHart → HwHart) → length (update harts h change) ≡ length harts
unfolding update
length_update [] h change = refl
length_update (x ∷ harts) zero change = refl
length_update (x ∷ harts) (suc h) change = ap (λ (n : ℕ). suc n) (length_update harts h change)

-- an answer that is done is the exit's
pub carried : (m after : Machine) (h : ℕ) (exit : Exit) (answer : ExitAnswer) → h < length m.harts → answer ≡ asked_of m h exit
    → WithTables m (answered_exit m h answer) after → WithTables m (served_exit m h exit) after
unfolding hw_exit
carried m after h exit answer below is done =
    subst (λ (x : Machine). WithTables m x after) (ap (λ (a : ExitAnswer). answered_exit m h a) is ∙ sym (served_there m h exit below)) done
