-- An answer on one hart is the machine's.
use Rattle.std.proofs.Common.{◌≡◌, ℕ, ◌<◌, ◌≤◌, ◌%◌, List, length, length-set, refl, sym, ◌∙◌, ap, subst}
use Rattle.std.specs.Prelude.{slice_index_or, slice_set}
use Rattle.std.specs.Vec.{with_item}
use Rattle.sv_types.specs.Policies.{Rules, rules_of}
use Rattle.spec_processor.specs.declared.exit.Exit.{Exit}
use Rattle.spec_processor.specs.declared.mode.Mode.{Mode}
use Rattle.spec_reference.specs.States.{Devices, Journal}
use Rattle.spec_hardware.specs.HwHarts.{hw_outside, hw_seen, with_hw}
use Rattle.spec_hardware.specs.Machine.{Machine, HwHart}
use Rattle.spec_hardware.specs.Served.{exit_answer}
use Rattle.spec_hardware.specs.Steps.{WithTables}
use Rattle.spec_hardware.specs.declared.exits.ExitAnswer.{ExitAnswer}
use Rattle.page_guard.specs.Privileges.{entry_of, mode_of}
use Rattle.monitor_exits.proofs.HwOfSlots.{hw_harts_length, hw_harts_set, hw_harts_same}
use Rattle.monitor_exits.specs.HwOfSlots.{hw_at, hw_harts_of}
use Rattle.monitor_exits.specs.declared.slots.HartSlot.{HartSlot}
use Rattle.monitor_exits.specs.Accessed.{with_devices}
use Rattle.monitor_exits.specs.Answered.{with_hart}
use Rattle.monitor_exits.specs.Possible.{IsPossible}
use Rattle.hw_platform.proofs.HwOfSlots.{hw_there}
use Rattle.hw_platform.specs.Attempts.{hart_in}
use Rattle.hw_platform.specs.declared.hardware.Hardware.{Hardware}
use Rattle.secvisor_core.proofs.Served.{stays, views_shown}
use Rattle.secvisor_core.specs.Serving.{HasPagesOf, left_entry}
use Rattle.secvisor_core.specs.Visors.{IsJoined, machine_of}
use Rattle.secvisor_core.specs.declared.visor.Visor.{Visor}
use Rattle.spec_hardware.proofs.Privileges.{same_mode}

-- a hart that is changed in its slot goes with SecVisor and the rest of the hardware as before
pub slot_set : (v : Visor) (w : Hardware) (h : ℕ) (new : HartSlot) (devices : Devices) → IsJoined v w
    → IsJoined v (record w { slots = with_item w.slots h new; devices = devices })
slot_set v w h new devices joined =
    let number = length-set w.slots.items h new in
    record {
      entries = joined.entries;
      bound = joined.bound;
      places = joined.places;
      tables_match = joined.tables_match;
      pages = joined.pages;
      modules = joined.modules;
      whole = record {
        few = subst (λ (n : ℕ). n ≤ 4) (sym number) joined.whole.few;
        caches = joined.whole.caches ∙ sym number;
        usable = joined.whole.usable;
      };
    }

module _ (w : Hardware) (h : ℕ) (old : HartSlot) (is : old ≡ slice_index_or w.slots.items h old) where
  mine : h < length (hw_harts_of w.slots.items) → hw_at old ≡ hart_in (hw_harts_of w.slots.items) h
  mine below = ap hw_at is ∙ sym (hw_there w.slots.items h old (subst (λ (n : ℕ). h < n) (hw_harts_length w.slots.items) below))

  -- it stands at an instruction's address
  pub aligned_there : h < length (hw_harts_of w.slots.items) → (hart_in (hw_harts_of w.slots.items) h).core.pc % 4 ≡ 0 → old.hart.core.pc % 4 ≡ 0
  aligned_there below aligned = subst (λ (hw : HwHart). hw.core.pc % 4 ≡ 0) (sym (mine below)) aligned

  -- its mode is its privilege view's
  pub privilege_there : h < length (hw_harts_of w.slots.items) → (mode_of old.privilege) ≡ (hart_in (hw_harts_of w.slots.items) h).core.hregs.mode
  privilege_there below = sym (same_mode (mode_of old.privilege) (entry_of old.privilege)) ∙ ap (λ (hw : HwHart). hw.core.hregs.mode) (mine below)

  -- what its exit is answered
  pub seen_there : (rules : Rules) (exit : Exit) (answer : ExitAnswer) → h < length (hw_harts_of w.slots.items)
      → answer ≡ exit_answer (hw_seen w.mem.ram rules (hw_at old) (mode_of old.privilege) exit) exit
      → answer ≡ exit_answer (hw_seen w.mem.ram rules (hart_in (hw_harts_of w.slots.items) h) (hart_in (hw_harts_of w.slots.items) h).core.hregs.mode exit) exit
  seen_there rules exit answer below made =
      made
      ∙ ap (λ (mode : Mode). exit_answer (hw_seen w.mem.ram rules (hw_at old) mode exit) exit) (privilege_there below)
      ∙ ap (λ (hw : HwHart). exit_answer (hw_seen w.mem.ram rules hw (hart_in (hw_harts_of w.slots.items) h).core.hregs.mode exit) exit) (mine below)

  pub possible_there : (answer : ExitAnswer) → h < length (hw_harts_of w.slots.items) → IsPossible (mode_of old.privilege) answer
      → IsPossible (hart_in (hw_harts_of w.slots.items) h).core.hregs.mode answer
  possible_there answer below = subst (λ (mode : Mode). IsPossible mode answer) (privilege_there below)

module _ (v : Visor) (w : Hardware) (j : Journal) (h : ℕ) (old : HartSlot) (is : old ≡ slice_index_or w.slots.items h old) where
  abbrev whole : Machine
  whole = machine_of v w j

  -- the hart that was there
  put_back : with_hart whole h (hw_at old) j ≡ whole
  put_back =
      ap (λ (harts : List HwHart). record whole { harts = harts })
      (subst (λ (s : HartSlot). slice_set (hw_harts_of w.slots.items) h (hw_at s) ≡ hw_harts_of w.slots.items) (sym is) (hw_harts_same w.slots.items h old))

  -- what an answer on the hart makes of the machine, whose tables stay
  behind : (f : Machine → HwHart → Mode → Machine) (after : Machine) → h < length (hw_harts_of w.slots.items) → IsJoined v w
      → HasPagesOf whole after → after ≡ f (with_hart whole h (hw_at old) j) (hw_at old) (mode_of old.privilege)
      → WithTables whole (f whole (hart_in whole.harts h) (hart_in whole.harts h).core.hregs.mode) after
  behind f after below joined has made =
      stays whole (f whole (hart_in whole.harts h) (hart_in whole.harts h).core.hregs.mode) after has
      (made
      ∙ ap (λ (m : Machine). f m (hw_at old) (mode_of old.privilege)) put_back
      ∙ ap (f whole (hw_at old)) (privilege_there w h old is below)
      ∙ ap (λ (hw : HwHart). f whole hw (hart_in whole.harts h).core.hregs.mode) (mine w h old is below))
      (views_shown (rules_of v.policy) w.mem v.guard joined.tables_match joined.pages joined.places)

  pub answers : (f : Machine → HwHart → Mode → Machine) (new : HartSlot) (devices : Devices) (journal : Journal) → h < length (hw_harts_of w.slots.items)
      → IsJoined v w → with_devices whole h (hw_at new) devices journal ≡ f (with_hart whole h (hw_at old) j) (hw_at old) (mode_of old.privilege)
      → WithTables whole (f whole (hart_in whole.harts h) (hart_in whole.harts h).core.hregs.mode)
      (record whole { harts = hw_harts_of (slice_set w.slots.items h new); devices = devices; journal = journal })
  answers f new devices journal below joined made =
      behind f (record whole { harts = hw_harts_of (slice_set w.slots.items h new); devices = devices; journal = journal }) below joined
      (record { region = refl; protections = refl })
      (ap (λ (harts : List HwHart). record whole { harts = harts; devices = devices; journal = journal }) (sym (hw_harts_set w.slots.items h new)) ∙ made)

  -- an answer that leaves the hart as it is
  pub journal_answers : (f : Machine → HwHart → Mode → Machine) (journal : Journal) → h < length (hw_harts_of w.slots.items) → IsJoined v w
      → with_hart whole h (hw_at old) journal ≡ f (with_hart whole h (hw_at old) j) (hw_at old) (mode_of old.privilege)
      → WithTables whole (f whole (hart_in whole.harts h) (hart_in whole.harts h).core.hregs.mode) (record whole { journal = journal })
  journal_answers f journal below joined made =
      behind f (record whole { journal = journal }) below joined (record { region = refl; protections = refl })
      (ap (λ (m : Machine). record m { journal = journal }) (sym put_back) ∙ made)

  -- the hart alone leaves its entry
  pub leaves : (new : HartSlot) → with_hart whole h (hw_at new) j ≡ with_hw (with_hart whole h (hw_at old) j) h hw_outside
      → record whole { harts = hw_harts_of (slice_set w.slots.items h new) } ≡ left_entry whole h
  leaves new made =
      ap (λ (harts : List HwHart). record whole { harts = harts }) (sym (hw_harts_set w.slots.items h new))
      ∙ made
      ∙ ap (λ (m : Machine). with_hw m h hw_outside) put_back
