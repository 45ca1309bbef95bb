-- The turns of a load, from what the load itself does.
use Rattle.std.proofs.Common.{◌≡◌, ℕ, suc, ◌+◌, ◌-◌, ◌≤◌, List, length, refl, sym, ◌∙◌, ap, arith, slice_get}
use Rattle.std.specs.Prelude.{Option, Some, None, option_map}
use Rattle.spec_processor.specs.Bytes.{page_of, page_bytes}
use Rattle.sv_types.specs.Policies.{Rules, ModuleRule}
use Rattle.spec_processor.specs.Regions.{Region}
use Rattle.sv_types.specs.declared.saved.ModulePlacement.{ModulePlacement}
use Rattle.sv_types.specs.declared.protection.Protection.{Protection}
use Rattle.spec_reference.specs.ModuleCalls.{load_decision}
use Rattle.spec_reference.specs.States.{pages_in_rule}
use Rattle.spec_hardware.specs.HwCalls.{hw_given}
use Rattle.spec_hardware.specs.HwExits.{hw_is_good, hw_decide, hw_load_step, load_counted, load_served, page_counted, served_load_turn}
use Rattle.spec_hardware.specs.Machine.{Machine, HwLoad}
use Rattle.module_gate.specs.Gates.{Records, Progress, hw_load, next_counted, with_digests}
use Rattle.module_gate.specs.Conditions.{AreJoined, TakesItsPages}
use Rattle.module_gate.specs.Parts.{with_modules, load_of}
use Rattle.module_gate.specs.declared.modules.Modules.{Modules}
use Rattle.module_gate.specs.declared.modules.PendingLoad.{PendingLoad}

-- ---- a page

pub counted_is : (rules : Rules) (ram : List ℕ) (load : HwLoad) (left pages : ℕ) (found : Option ModuleRule) (bytes : List ℕ) → pages_in_rule found ≡ pages → load.left ≤ pages
    → load.left ≡ suc left → bytes ≡ page_bytes ram (page_of load.about.gpa + (pages - load.left)) → next_counted rules bytes load found ≡ load_counted rules ram load left found
unfolding next_counted load_counted
counted_is rules ram load left pages None bytes all few same read = absurd (omega (arith, all, few, same))
counted_is rules ram load left pages (Some rule) bytes all few same read =
    let less : suc left - 1 ≡ left = omega arith in
    ap (λ (b : List ℕ). page_counted rules rule load (rule.pages - load.left) b (load.left - 1)) read
    ∙ ap (λ (k : ℕ). page_counted rules rule load (rule.pages - load.left) (page_bytes ram (page_of load.about.gpa + (k - load.left))) (load.left - 1)) (sym all)
    ∙ ap (λ (k : ℕ). page_counted rules rule load (rule.pages - k) (page_bytes ram (page_of load.about.gpa + (rule.pages - k))) (k - 1)) same
    ∙ ap (λ (k : ℕ). page_counted rules rule load (rule.pages - suc left) (page_bytes ram (page_of load.about.gpa + (rule.pages - suc left))) k) less

-- a page that is counted leaves the load's arguments
same_about : (rules : Rules) (ram : List ℕ) (load : HwLoad) (left : ℕ) (found : Option ModuleRule) → (load_counted rules ram load left found).about ≡ load.about
unfolding load_counted page_counted
same_about rules ram load left None = refl
same_about rules ram load left (Some rule) = refl

-- ---- a turn

served_is : (m : Machine) (h : ℕ) (load : HwLoad) → m.loading ≡ Some load → served_load_turn m h ≡ hw_load_step m h load load.left
unfolding served_load_turn load_served
served_is m h load e = ap (load_served m h) e

module _ (m : Machine) (rules : Rules) (region : Region) (h : ℕ) (guard : List Protection) (modules : Modules) where
  abbrev old : Machine
  old = with_modules m rules region guard modules

  pub turn_counts : (u : PendingLoad) (left : ℕ) (gate : Records) (after : Progress) → modules.loading ≡ Some u → u.load.left ≡ suc left → gate ≡ record modules.gate { digests = gate.digests }
      → hw_load u.hart (with_digests gate.digests after) ≡ load_counted rules region.ram (load_of modules.gate u) left (slice_get rules.modules u.load.about.id)
      → with_modules m rules region guard (record { gate = gate; loading = Some (record { hart = u.hart; load = after }) }) ≡ served_load_turn old h
  unfolding hw_load_step
  turn_counts u left gate after there some kept counts =
      ap (λ (g : Records). record old { loaded = g.loaded; loading = Some (hw_load u.hart (with_digests gate.digests after)); retired = g.retired }) kept
      ∙ ap (λ (load : HwLoad). record old { loading = Some load }) counts
      ∙ sym (served_is old h (load_of modules.gate u) (ap (option_map (load_of modules.gate)) there) ∙ ap (hw_load_step old h (load_of modules.gate u)) some)

  pub turn_decides : (u : PendingLoad) → modules.loading ≡ Some u → u.load.left ≡ 0
      → served_load_turn old h ≡ hw_given old h (load_decision (hw_is_good (load_of modules.gate u) (slice_get rules.modules u.load.about.id)) u.load.about)
  unfolding hw_load_step hw_decide
  turn_decides u there none = served_is old h (load_of modules.gate u) (ap (option_map (load_of modules.gate)) there) ∙ ap (hw_load_step old h (load_of modules.gate u)) none

  -- without a load nothing changes
  pub turn_stays : modules.loading ≡ None → old ≡ served_load_turn old h
  unfolding served_load_turn load_served
  turn_stays none = sym (ap (load_served old h) (ap (option_map (load_of modules.gate)) none))

-- the load that goes on takes the pages that the policy says, each of which is left or its digest kept
pub goes_on_joined : (rules : Rules) (ram : List ℕ) (before after : Records) (u : PendingLoad) (left : ℕ) (load : Progress) → TakesItsPages rules u
    → hw_load u.hart (with_digests after.digests load) ≡ load_counted rules ram (load_of before u) left (slice_get rules.modules u.load.about.id) → load.pages ≡ u.load.pages
    → length after.digests + load.left ≡ load.pages → AreJoined rules (record { gate = after; loading = Some (record { hart = u.hart; load = load }) })
goes_on_joined rules ram before after u left load takes counts pages tallied =
    let about : load.about ≡ u.load.about = ap (λ (load : HwLoad). load.about) counts ∙ same_about rules ram (load_of before u) left (slice_get rules.modules u.load.about.id) in record {
      digests = tallied;
      pages = ap (λ (a : ModulePlacement). pages_in_rule (slice_get rules.modules a.id)) about ∙ takes ∙ sym pages;
    }
