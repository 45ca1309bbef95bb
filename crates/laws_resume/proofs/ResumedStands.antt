-- The machine that goes on from a snapshot stands for the state that the snapshot says.
use Rattle.std.proofs.Common.{◌≡◌, ℕ, List, length, replicate, refl, sym, ◌∙◌, subst, arith}
use Rattle.std.specs.Prelude.{Option, Some, None, option_map}
use Rattle.std.proofs.lemmas.List.{length-map, length-replicate}
use Rattle.spec_processor.specs.HypervisorRegisters.{registers_at_boot}
use Rattle.sv_types.specs.Policies.{Rules}
use Rattle.sv_types.specs.Views.{AreViews}
use Rattle.sv_types.specs.declared.protection.Protection.{Protection}
use Rattle.spec_reference.specs.Protections.{protection_at}
use Rattle.spec_reference.specs.States.{State, protection_in, protections_of}
use Rattle.spec_hardware.specs.Machine.{Machine}
use Rattle.spec_hardware.specs.Reaches.{IsNew}
use Rattle.spec_hardware.specs.StandsFor.{Unseen, IsRightFor, bound_pages, load_kept, machine_of}
use Rattle.spec_reference.specs.declared.saved_machine.whole.SavedLoad.{SavedLoad}
use Rattle.snapshot_format.specs.Snapshots.{Contents}
use Rattle.snapshot_format.specs.ResumedStates.{resumed_hart, resumed_load, resumed_state}
use Rattle.laws_resume.specs.ResumedSound.{IsResumable}
use Rattle.laws_resume.proofs.FormParts.{HasParts, parts_of}
use Rattle.laws_resume.proofs.ResumedSoundHolds.{resumed_sound_law}
use Rattle.laws_simulation.proofs.ProtectionsChange.{views_from}
use Rattle.laws_resume.specs.Starts.{IsGuarded}
use Rattle.laws_resume.specs.Resuming.{ResumedStartLaw, load_resumed, resumed_machine}
use Rattle.laws_resume.proofs.ResumedHw.{hw_harts_are}
use Rattle.laws_simulation.proofs.Lookups.{length_pages}

abbrev unseen_resumed : List ℕ → Contents → Unseen
unseen_resumed tables s = record { tables = tables; exits = replicate (length s.harts) registers_at_boot; cleared = 0; attempts = 0 }

loads_are : (rules : Rules) (ram : List ℕ) (x : Option SavedLoad) → option_map (load_resumed rules ram) x ≡ option_map (load_kept rules ram) (option_map resumed_load x)
loads_are rules ram None = refl
loads_are rules ram (Some load) = refl

-- the protections are the snapshot's
protections_are : (rules : Rules) (s : Contents) → IsResumable rules s → protections_of (resumed_state rules s) ≡ s.protection
protections_are rules s k = k.protections

machine_is : (tables : List ℕ) (rules : Rules) (s : Contents) → HasParts s → IsResumable rules s
    → resumed_machine tables rules s ≡ machine_of (unseen_resumed tables s) (resumed_state rules s)
unfolding resumed_machine machine_of resumed_state
machine_is tables rules s parts k =
    rw (hw_harts_are (length tables) (length s.protection) s.harts parts.harts, protections_are rules s k, loads_are rules s.ram s.loading) refl

-- the views are those of the protections that follow
views_for : (tables : List ℕ) (rules : Rules) (s : Contents) → IsResumable rules s
    → AreViews tables (length s.protection) (bound_pages rules) (protection_at s.protection)
    → AreViews tables rules.ram_pages (bound_pages rules) (protection_at (protections_of (resumed_state rules s)))
unfolding resumed_state
views_for tables rules s k views =
    let r : State = resumed_state rules s in
    let every : length (protections_of r) ≡ rules.ram_pages = length_pages (protection_in r.approved r.held) 0 rules.ram_pages in
    subst (λ (n : ℕ). AreViews tables n (bound_pages rules) (protection_at (protections_of r))) every
    (subst (λ (guard : List Protection). AreViews tables (length guard) (bound_pages rules) (protection_at guard)) (sym (protections_are rules s k)) views)

right_for : (tables : List ℕ) (rules : Rules) (s : Contents) → IsResumable rules s → IsGuarded (resumed_machine tables rules s)
    → IsRightFor (unseen_resumed tables s) (resumed_state rules s)
unfolding resumed_machine resumed_state
right_for tables rules s k guarded = record {
  views = views_from tables (resumed_state rules s) (views_for tables rules s k guarded.views);
  region = guarded.region;
  exits = length-replicate (length s.harts) registers_at_boot ∙ sym (length-map s.harts resumed_hart);
  cleared = omega arith;
}

resumed_new : (tables : List ℕ) (rules : Rules) (s : Contents) → HasParts s → IsResumable rules s → IsGuarded (resumed_machine tables rules s)
    → IsNew (resumed_machine tables rules s) (resumed_state rules s)
unfolding resumed_machine
resumed_new tables rules s parts k guarded = record {
  stands = record {
    unseen = unseen_resumed tables s;
    same = machine_is tables rules s parts k;
    unseen_is_right = right_for tables rules s k guarded;
    sound = k.sound;
  };
  attempts = refl;
  cleared = refl;
}

pub resumed_start_law : ResumedStartLaw
resumed_start_law m rules s within words has accepted guarded same =
    subst (λ (x : Machine). IsNew x (resumed_state rules s)) (sym same)
    (resumed_new m.region.tables rules s (parts_of s has) (resumed_sound_law rules s within words has accepted) (subst IsGuarded same guarded))
