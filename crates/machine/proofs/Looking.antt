-- What is seen of a machine is the state that it stands for.
use Rattle.std.proofs.Common.{◌≡◌, ℕ, zero, suc, ◌<◌, ◌≤◌, List, [], ◌∷◌, length, refl, sym, ◌∙◌, ap, arith}
use Rattle.std.specs.Prelude.{Option, Some, None, if◌then◌else◌, option_and_then, option_map, slice_get, slice_index_or}
use Rattle.sv_types.specs.Clock.{Clock, timer_of}
use Rattle.spec_processor.specs.HypervisorRegisters.{HypervisorRegisters}
use Rattle.spec_processor.specs.declared.lines.Lines.{Lines}
use Rattle.spec_reference.specs.Devices.{lines_at}
use Rattle.spec_reference.specs.States.{State, Hart, Devices, protections_of}
use Rattle.spec_hardware.specs.Machine.{Machine, HwHart}
use Rattle.spec_hardware.specs.StandsFor.{StandsFor, Unseen, machine_of, hw_harts}
use Rattle.spec_reference.specs.SavedStates.{saved_hart}
use Rattle.spec_reference.specs.declared.saved_machine.harts.SavedHart.{SavedHart}
use Rattle.monitor_exits.specs.HwOfSlots.{hw_at, hw_harts_of}
use Rattle.monitor_exits.specs.declared.slots.HartSlot.{HartSlot}
use Rattle.machine.specs.Fetching.{fetch_place, hw_fetch_place}
use Rattle.machine.specs.Keeping.{kept_hart}
use Rattle.machine.proofs.Kept.{hart_kept}

-- ---- RAM

ram_of_state : (o : Unseen) (r : State) → (machine_of o r).region.ram ≡ r.ram
unfolding machine_of
ram_of_state o r = refl

pub ram_seen : (m : Machine) (r : State) → StandsFor m r → m.region.ram ≡ r.ram
ram_seen m r stands = ap (λ (x : Machine). x.region.ram) stands.same ∙ ram_of_state stands.unseen r

-- ---- the number of harts

harts_counted : (tables : ℕ) (exits : List HypervisorRegisters) (harts : List Hart) → length exits ≡ length harts → length (hw_harts tables exits harts) ≡ length harts
unfolding hw_harts
harts_counted tables [] [] size = refl
harts_counted tables [] (y ∷ harts) size = cc
harts_counted tables (x ∷ exits) [] size = cc
harts_counted tables (x ∷ exits) (y ∷ harts) size = ap suc (harts_counted tables exits harts (cc))

count_of_state : (o : Unseen) (r : State) → length o.exits ≡ length r.harts → length (machine_of o r).harts ≡ length r.harts
unfolding machine_of
count_of_state o r size = harts_counted (length o.tables) o.exits r.harts size

pub count_seen : (m : Machine) (r : State) → StandsFor m r → length m.harts ≡ length r.harts
count_seen m r stands = ap (λ (x : Machine). length x.harts) stands.same ∙ count_of_state stands.unseen r stands.unseen_is_right.exits

-- ---- a hart

slot_seen : (f : HwHart → SavedHart) (slots : List HartSlot) (h : ℕ) (d : HartSlot) → h < length slots →
    option_map f (slice_get (hw_harts_of slots) h) ≡ Some (f (hw_at (slice_index_or slots h d)))
slot_seen f [] h d below = absurd (omega (arith, below))
slot_seen f (x ∷ slots) zero d below = refl
slot_seen f (x ∷ slots) (suc h) d below = slot_seen f slots h d (omega (arith, below))

pub hart_there : (tables timer : ℕ) (slots : List HartSlot) (h : ℕ) (slot : HartSlot) → h < length slots → slot ≡ slice_index_or slots h slot →
    Some (kept_hart tables timer (hw_at slot)) ≡ option_map (kept_hart tables timer) (slice_get (hw_harts_of slots) h)
hart_there tables timer slots h slot below is =
    ap (λ s. Some (kept_hart tables timer (hw_at s))) is ∙ sym (slot_seen (kept_hart tables timer) slots h slot below)

pub none_there : (f : HwHart → SavedHart) (slots : List HartSlot) (h : ℕ) → length slots ≤ h → None ≡ option_map f (slice_get (hw_harts_of slots) h)
none_there f [] h above = refl
none_there f (x ∷ slots) zero above = absurd (omega (arith, above))
none_there f (x ∷ slots) (suc h) above = none_there f slots h (omega (arith, above))

hart_in_state : (tables : ℕ) (exits : List HypervisorRegisters) (harts : List Hart) (clock : Clock) (k h : ℕ) → length exits ≡ length harts →
    option_map (kept_hart tables (timer_of clock k)) (slice_get (hw_harts tables exits harts) h) ≡ option_map (saved_hart clock k) (slice_get harts h)
unfolding hw_harts
hart_in_state tables [] [] clock k h size = refl
hart_in_state tables [] (y ∷ harts) clock k h size = absurd (cc)
hart_in_state tables (x ∷ exits) [] clock k h size = absurd (cc)
hart_in_state tables (x ∷ exits) (y ∷ harts) clock k zero size = ap Some (hart_kept tables x clock k y)
hart_in_state tables (x ∷ exits) (y ∷ harts) clock k (suc h) size = hart_in_state tables exits harts clock k h (cc)

abbrev kept_of : Machine → ℕ → Option SavedHart
kept_of m h = option_map (kept_hart (length m.region.tables) (timer_of m.devices.clock h)) (slice_get m.harts h)

hart_of_state : (o : Unseen) (r : State) (h : ℕ) → length o.exits ≡ length r.harts → kept_of (machine_of o r) h ≡ option_map (saved_hart r.devices.clock h) (slice_get r.harts h)
unfolding machine_of
hart_of_state o r h size = hart_in_state (length o.tables) o.exits r.harts r.devices.clock h h size

pub hart_seen : (m : Machine) (r : State) (h : ℕ) → StandsFor m r →
    option_map (kept_hart (length m.region.tables) (timer_of m.devices.clock h)) (slice_get m.harts h) ≡ option_map (saved_hart r.devices.clock h) (slice_get r.harts h)
hart_seen m r h stands = ap (λ x. kept_of x h) stands.same ∙ hart_of_state stands.unseen r h stands.unseen_is_right.exits

-- ---- where a hart is about to fetch

abbrev saved_place : SavedHart → Option ℕ
saved_place s = if s.started then Some s.pc else None

place_by_kept : (tables timer : ℕ) (hw : Option HwHart) → option_and_then hw_fetch_place hw ≡ option_and_then saved_place (option_map (kept_hart tables timer) hw)
place_by_kept tables timer None = refl
place_by_kept tables timer (Some hw) = refl

place_by_saved : (clock : Clock) (h : ℕ) (hart : Option Hart) → option_and_then saved_place (option_map (saved_hart clock h) hart) ≡ option_and_then fetch_place hart
place_by_saved clock h None = refl
place_by_saved clock h (Some hart) = refl

pub place_seen : (m : Machine) (r : State) (h : ℕ) → StandsFor m r → option_and_then hw_fetch_place (slice_get m.harts h) ≡ option_and_then fetch_place (slice_get r.harts h)
place_seen m r h stands =
    place_by_kept (length m.region.tables) (timer_of m.devices.clock h) (slice_get m.harts h)
    ∙ ap (λ (s : Option SavedHart). option_and_then saved_place s) (hart_seen m r h stands)
    ∙ place_by_saved r.devices.clock h (slice_get r.harts h)

place_in_slots : (slots : List HartSlot) (h : ℕ) (d : HartSlot) → h < length slots →
    option_and_then hw_fetch_place (slice_get (hw_harts_of slots) h) ≡ hw_fetch_place (hw_at (slice_index_or slots h d))
place_in_slots [] h d below = absurd (omega (arith, below))
place_in_slots (x ∷ slots) zero d below = refl
place_in_slots (x ∷ slots) (suc h) d below = place_in_slots slots h d (omega (arith, below))

pub place_there : (slots : List HartSlot) (h : ℕ) (slot : HartSlot) → h < length slots → slot ≡ slice_index_or slots h slot →
    hw_fetch_place (hw_at slot) ≡ option_and_then hw_fetch_place (slice_get (hw_harts_of slots) h)
place_there slots h slot below is = ap (λ s. hw_fetch_place (hw_at s)) is ∙ sym (place_in_slots slots h slot below)

-- ---- wires

same_by_kept : {A : Type 0} (a : A) (tables timer : ℕ) (hw : Option HwHart) → option_map (λ _. a) hw ≡ option_map (λ (s : SavedHart). a) (option_map (kept_hart tables timer) hw)
same_by_kept a tables timer None = refl
same_by_kept a tables timer (Some hw) = refl

same_by_saved : {A : Type 0} (a : A) (clock : Clock) (h : ℕ) (hart : Option Hart) → option_map (λ (s : SavedHart). a) (option_map (saved_hart clock h) hart) ≡ option_map (λ _. a) hart
same_by_saved a clock h None = refl
same_by_saved a clock h (Some hart) = refl

devices_of_state : (o : Unseen) (r : State) → (machine_of o r).devices ≡ r.devices
unfolding machine_of
devices_of_state o r = refl

lines_by : (m : Machine) (r : State) (h : ℕ) (lines : Lines) → StandsFor m r → option_map (λ _. lines) (slice_get m.harts h) ≡ option_map (λ _. lines) (slice_get r.harts h)
lines_by m r h lines stands =
    same_by_kept lines (length m.region.tables) (timer_of m.devices.clock h) (slice_get m.harts h)
    ∙ ap (λ (s : Option SavedHart). option_map (λ (x : SavedHart). lines) s) (hart_seen m r h stands)
    ∙ same_by_saved lines r.devices.clock h (slice_get r.harts h)

pub lines_seen : (m : Machine) (r : State) (h : ℕ) → StandsFor m r →
    option_map (λ _. lines_at m.devices h) (slice_get m.harts h) ≡ option_map (λ _. lines_at r.devices h) (slice_get r.harts h)
lines_seen m r h stands =
    let same : m.devices ≡ r.devices = ap (λ (x : Machine). x.devices) stands.same ∙ devices_of_state stands.unseen r in
    lines_by m r h (lines_at m.devices h) stands ∙ ap (λ (d : Devices). option_map (λ _. lines_at d h) (slice_get r.harts h)) same

pub lines_there : (slots : List HartSlot) (h : ℕ) (lines : Lines) → h < length slots → Some lines ≡ option_map (λ _. lines) (slice_get (hw_harts_of slots) h)
lines_there [] h lines below = absurd (omega (arith, below))
lines_there (x ∷ slots) zero lines below = refl
lines_there (x ∷ slots) (suc h) lines below = lines_there slots h lines (omega (arith, below))

-- ---- how pages are guarded

protections_of_state : (o : Unseen) (r : State) → (machine_of o r).protections ≡ protections_of r
unfolding machine_of
protections_of_state o r = refl

pub protections_seen : (m : Machine) (r : State) → StandsFor m r → m.protections ≡ protections_of r
protections_seen m r stands = ap (λ (x : Machine). x.protections) stands.same ∙ protections_of_state stands.unseen r
