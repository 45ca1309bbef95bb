-- What plain data keeps of a machine is the state that the machine stands for.
use Rattle.std.proofs.Common.{◌≡◌, ℕ, zero, suc, ◌+◌, ◌-◌, ◌*◌, ◌<◌, List, drop, get_or, drop-cons, add-one, [], ◌∷◌, ◌++◌, length, refl}
use Rattle.std.proofs.Common.{sym, ◌∙◌, ap, subst, Bool, true, false, arith, append_assoc, append-nil}
use Rattle.std.specs.Prelude.{IfOk, Option, Some, None, option_map, Result, Ok, Err, slice_get}
use Rattle.spec_processor.specs.Bits.{flag}
use Rattle.sv_types.specs.Clock.{Clock, timer_of}
use Rattle.spec_processor.specs.HypervisorRegisters.{HypervisorRegisters, at_guest_places, virtual_software_bit}
use Rattle.sv_types.specs.Policies.{Rules, ModuleRule}
use Rattle.spec_reference.specs.States.{State, Hart, Loading}
use Rattle.spec_hardware.specs.Machine.{Machine, HwHart}
use Rattle.spec_hardware.specs.StandsFor.{StandsFor, Unseen, IsRightFor, machine_of, hw_hart, hw_harts, hw_reservation, load_kept, load_kept_by}
use Rattle.spec_reference.specs.SavedStates.{gpa_at, saved_hart, saved_harts, saved_load, IsSaved}
use Rattle.spec_reference.specs.declared.saved_machine.harts.SavedHart.{SavedHart}
use Rattle.spec_reference.specs.declared.saved_machine.whole.Saved.{Saved}
use Rattle.monitor_exits.specs.HwOfSlots.{hw_at, hw_harts_of}
use Rattle.monitor_exits.specs.declared.slots.HartSlot.{HartSlot}
use Rattle.machine.specs.Machines.{HasAddress, HaveAddresses}
use Rattle.hw_platform.proofs.HwOfSlots.{hw_there}
use Rattle.machine.specs.Keeping.{AreKeepable, IsKeepable, gpa_after, kept_hart, kept_harts, kept_load, IsKept}
use Rattle.spec_hardware.proofs.Privileges.{same_mode}

-- ---- harts

enabled_kept : (sie : ℕ) → at_guest_places (2 * sie) ≡ sie
enabled_kept sie = omega arith

software_kept : (set : Bool) → at_guest_places (virtual_software_bit * flag set) ≡ 2 * flag set
software_kept true = refl
software_kept false = refl

reservation_kept : (tables : ℕ) (reservation : Option ℕ) → option_map (gpa_after tables) (hw_reservation tables reservation) ≡ option_map gpa_at reservation
reservation_kept tables None = refl
reservation_kept tables (Some place) = let same : tables + place - tables ≡ place = omega arith in ap (λ (p : ℕ). Some (gpa_at p)) same

pub hart_kept : (tables : ℕ) (exits : HypervisorRegisters) (clock : Clock) (h : ℕ) (hart : Hart)
    → kept_hart tables (timer_of clock h) (hw_hart tables exits hart) ≡ saved_hart clock h hart
hart_kept tables exits clock h hart =
    rw (same_mode hart.mode hart.entry, enabled_kept hart.supervisor.sie, software_kept hart.supervisor.software, reservation_kept tables hart.reservation) refl

harts_kept : (tables : ℕ) (exits : List HypervisorRegisters) (clock : Clock) (h : ℕ) (harts : List Hart) → length exits ≡ length harts
    → kept_harts tables clock h (hw_harts tables exits harts) ≡ saved_harts clock h harts
unfolding hw_harts kept_harts saved_harts
harts_kept tables [] clock h [] size = refl
harts_kept tables [] clock h (y ∷ harts) size = cc
harts_kept tables (x ∷ exits) clock h [] size = cc
harts_kept tables (x ∷ exits) clock h (y ∷ harts) size =
    rw (hart_kept tables x clock h y, harts_kept tables exits clock (h + 1) harts (cc)) refl

-- ---- harts, one after another

pub next_kept : (tables : ℕ) (clock : Clock) (slots : List HartSlot) (h : ℕ) (slot : HartSlot) (hart : SavedHart) (before whole : List SavedHart) → h < length slots
    → slot ≡ get_or slots h slot → hart ≡ kept_hart tables (timer_of clock h) (hw_at slot)
    → before ++ kept_harts tables clock h (hw_harts_of (drop h slots)) ≡ whole
    → (before ++ hart ∷ []) ++ kept_harts tables clock (h + 1) (hw_harts_of (drop (h + 1) slots)) ≡ whole
unfolding kept_harts
next_kept tables clock slots h slot hart before whole below is made so_far =
    let later : List HartSlot = drop (suc h) slots in
    let split : drop h slots ≡ slot ∷ later = drop-cons slots h slot below ∙ ap (λ (s : HartSlot). s ∷ later) (sym is) in
    let rest : List SavedHart = kept_harts tables clock (h + 1) (hw_harts_of later) in
    let joined : (before ++ hart ∷ []) ++ rest ≡ before ++ hart ∷ rest = append_assoc before (hart ∷ []) rest in
    let placed : before ++ hart ∷ rest ≡ before ++ kept_hart tables (timer_of clock h) (hw_at slot) ∷ rest = ap (λ (x : SavedHart). before ++ x ∷ rest) made in
    let back : before ++ kept_harts tables clock h (hw_harts_of (slot ∷ later)) ≡ before ++ kept_harts tables clock h (hw_harts_of (drop h slots)) =
    ap (λ (xs : List HartSlot). before ++ kept_harts tables clock h (hw_harts_of xs)) (sym split) in
    subst (λ (k : ℕ). (before ++ hart ∷ []) ++ kept_harts tables clock (h + 1) (hw_harts_of (drop k slots)) ≡ whole) (sym (add-one h)) (joined ∙ placed ∙ back ∙ so_far)

none_after : (slots : List HartSlot) → drop (length slots) slots ≡ []
none_after [] = refl
none_after (slot ∷ slots) = none_after slots

pub all_kept : (tables : ℕ) (clock : Clock) (slots : List HartSlot) (h : ℕ) (harts whole : List SavedHart) → h ≡ length slots
    → harts ++ kept_harts tables clock h (hw_harts_of (drop h slots)) ≡ whole → harts ≡ whole
unfolding kept_harts
all_kept tables clock slots h harts whole end e =
    let none : drop h slots ≡ [] = ap (λ (k : ℕ). drop k slots) end ∙ none_after slots in
    let last : harts ++ kept_harts tables clock h (hw_harts_of (drop h slots)) ≡ harts ++ [] =
    ap (λ (xs : List HartSlot). harts ++ kept_harts tables clock h (hw_harts_of xs)) none in
    sym (append-nil harts) ∙ sym last ∙ e

-- ---- reservations

reservation_keepable : (tables : ℕ) (reservation : Option ℕ) → HasAddress reservation → IsKeepable tables (hw_reservation tables reservation)
reservation_keepable tables None has = tt
reservation_keepable tables (Some place) has = record { behind = omega arith; small = omega (arith, has) }

hw_harts_keepable : (tables : ℕ) (exits : List HypervisorRegisters) (harts : List Hart) → HaveAddresses harts → AreKeepable tables (hw_harts tables exits harts)
unfolding hw_harts
hw_harts_keepable tables [] harts have h = tt
hw_harts_keepable tables (x ∷ exits) [] have h = tt
hw_harts_keepable tables (x ∷ exits) (y ∷ harts) have zero = reservation_keepable tables y.reservation have.0
hw_harts_keepable tables (x ∷ exits) (y ∷ harts) have (suc h) = hw_harts_keepable tables exits harts have.1 h

abbrev IsMachineKeepable : Machine → Type 0
IsMachineKeepable m = AreKeepable (length m.region.tables) m.harts

of_state : (o : Unseen) (r : State) → HaveAddresses r.harts → IsMachineKeepable (machine_of o r)
unfolding machine_of
of_state o r have = hw_harts_keepable (length o.tables) o.exits r.harts have

pub machine_keepable : (m : Machine) (r : State) → StandsFor m r → HaveAddresses r.harts → AreKeepable (length m.region.tables) m.harts
machine_keepable m r stands have = subst IsMachineKeepable (sym stands.same) (of_state stands.unseen r have)

pub slot_keepable : (tables : ℕ) (slots : List HartSlot) (h : ℕ) (slot : HartSlot) → h < length slots → slot ≡ get_or slots h slot → AreKeepable tables (hw_harts_of slots)
    → IsKeepable tables slot.hart.core.reservation
slot_keepable tables slots h slot below is are =
    subst (λ (x : HwHart). IsKeepable tables x.core.reservation) (hw_there slots h slot below ∙ ap hw_at (sym is)) (are h)

-- ---- a load under way

about_kept : (rules : Rules) (ram : List ℕ) (load : Loading) (rule : Option ModuleRule) → kept_load (load_kept_by rules ram load rule) ≡ saved_load load
unfolding load_kept_by
about_kept rules ram load None = refl
about_kept rules ram load (Some rule) = refl

pub loading_kept : (rules : Rules) (ram : List ℕ) (loading : Option Loading) → option_map kept_load (option_map (load_kept rules ram) loading) ≡ option_map saved_load loading
loading_kept rules ram None = refl
loading_kept rules ram (Some load) = ap Some (about_kept rules ram load (slice_get rules.modules load.about.id))

-- ---- the whole

state_kept : (o : Unseen) (r : State) (s : Saved) → IsRightFor o r → IsKept (machine_of o r) s → IsSaved r s
unfolding machine_of
state_kept o r s right kept = record {
  harts = kept.harts ∙ harts_kept (length o.tables) o.exits r.devices.clock 0 r.harts right.exits;
  ram = kept.ram;
  protection = kept.protection;
  modules = kept.modules;
  retired = kept.retired;
  loading = kept.loading ∙ loading_kept r.rules r.ram r.loading;
  console = kept.console;
  disk = kept.disk;
  time = kept.time;
  counts = kept.counts;
  notes = kept.notes;
  verdict = kept.verdict;
}

kept_saved : (m : Machine) (r : State) (s : Saved) → StandsFor m r → IsKept m s → IsSaved r s
kept_saved m r s stands kept = state_kept stands.unseen r s stands.unseen_is_right (subst (λ (x : Machine). IsKept x s) stands.same kept)

pub kept_states : {E : Type 0} (m : Machine) (saved : Result Saved E) → IfOk saved (IsKept m) → IfOk saved (λ s. (r : State) → StandsFor m r → IsSaved r s)
kept_states m (Ok s) kept = λ r stands. kept_saved m r s stands kept
kept_states m (Err e) kept = kept
