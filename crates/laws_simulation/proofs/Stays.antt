-- Attempts that write no memory, and those that do: the machine after them.
use Rattle.std.proofs.Common.{◌≡◌, ℕ, zero, suc, ◌+◌, ◌≤◌, List, [], ◌∷◌, length, map, refl, sym, ◌∙◌, ap, Bool, true, slice_set}
use Rattle.std.specs.Prelude.{Option, Some, None, option_map, if◌then◌else◌, false}
use Rattle.spec_processor.specs.declared.mode.Mode.TheVariants.{Kernel}
use Rattle.spec_processor.specs.Bytes.{low_bytes, write_word}
use Rattle.spec_processor.specs.HypervisorRegisters.{HypervisorRegisters}
use Rattle.spec_processor.specs.Requests.{after_write, touches}
use Rattle.sv_types.specs.Views.{with_ram}
use Rattle.sv_types.specs.declared.event.Counts.{Counts}
use Rattle.spec_processor.specs.declared.outcome.Outcome.{Outcome}
use Rattle.laws_processor.proofs.ByteLemmas.{length_low_bytes, length_write_word}
use Rattle.spec_processor.specs.Regions.{IsRegion}
use Rattle.spec_reference.specs.States.{State, Hart, with_hart}
use Rattle.spec_reference.specs.Counting.{count, count_retired, count_trap}
use Rattle.spec_reference.specs.Devices.{with_bytes, hart_after_write}
use Rattle.spec_reference.specs.Requests.{carried_out, carried_out_writing}
use Rattle.spec_hardware.specs.Machine.{update, with_core, after_quiet_attempt, all_forget, forgets}
use Rattle.spec_hardware.specs.StandsFor.{Unseen, IsRightFor, machine_of, hw_core, hw_hart, hw_harts, load_kept}
use Rattle.laws_simulation.specs.Agree.{IsAt, QuietTo, region_at, core_at, one_attempt_more}
use Rattle.laws_simulation.proofs.HwOfSlots.{hw_harts_update, hw_harts_forget}

-- the hart is started, and in the same entry as before
abbrev pub GoesOn : Hart → Hart → Type 0
GoesOn hart next = (next.started ≡ hart.started) × (next.entry ≡ hart.entry)

core_set : (t : ℕ) (c : HypervisorRegisters) (hart next : Hart) → GoesOn hart next → with_core (hw_core t c next) (hw_hart t c hart) ≡ hw_hart t c next
core_set t c hart next e =
    ap (λ (b : Bool). record { core = hw_core t c next; started = b; entry = hart.entry }) (sym e.0)
    ∙ ap (λ (i : Option ℕ). record { core = hw_core t c next; started = next.started; entry = i }) (sym e.1)

set_core : (o : Unseen) (r : State) (h : ℕ) (hart next : Hart) (c : HypervisorRegisters) → IsAt o r h hart c → GoesOn hart next
    → update (hw_harts (length o.tables) o.exits r.harts) h (with_core (core_at o c next)) ≡ hw_harts (length o.tables) o.exits (slice_set r.harts h next)
set_core o r h hart next c at e =
    hw_harts_update (length o.tables) o.exits r.harts h c hart next (with_core (core_at o c next)) at.exits at.found (core_set (length o.tables) c hart next e)

pub length_set : {X : Type 0} (xs : List X) (i : ℕ) (x : X) → length (slice_set xs i x) ≡ length xs
length_set [] i x = refl
length_set (y ∷ xs) zero x = refl
length_set (y ∷ xs) (suc i) x = ap suc (length_set xs i x)

pub length_map : (f : Hart → Hart) (harts : List Hart) → length (map f harts) ≡ length harts
length_map f [] = refl
length_map f (x ∷ harts) = ap suc (length_map f harts)

open_set : (o : Unseen) (r : State) (h : ℕ) (next : Hart) (f : Counts → Counts) → IsRightFor o r → IsRightFor (one_attempt_more o) (count (with_hart r h next) f)
open_set o r h next f p = record { views = p.views; region = p.region; exits = p.exits ∙ sym (length_set r.harts h next); cleared = p.cleared }

-- nothing was written
stays_same : (o : Unseen) (r : State) (h : ℕ) (hart next : Hart) (c : HypervisorRegisters) → IsAt o r h hart c → GoesOn hart next
    → after_quiet_attempt (machine_of o r) h (record { region = region_at o r; core = core_at o c next; outcome = Outcome.Retired None })
    ≡ machine_of (one_attempt_more o) (carried_out r h next)
unfolding machine_of all_forget
stays_same o r h hart next c at e = rw (set_core o r h hart next c at e) refl

pub stays : (o : Unseen) (r : State) (h : ℕ) (hart next : Hart) (c : HypervisorRegisters) → IsAt o r h hart c → GoesOn hart next
    → QuietTo o r h (record { region = region_at o r; core = core_at o c next; outcome = Outcome.Retired None }) (carried_out r h next)
stays o r h hart next c at e = record { same = stays_same o r h hart next c at e; right = open_set o r h next count_retired at.right }

traps_same : (o : Unseen) (r : State) (h : ℕ) (hart next : Hart) (c : HypervisorRegisters) → IsAt o r h hart c → GoesOn hart next
    → after_quiet_attempt (machine_of o r) h (record { region = region_at o r; core = core_at o c next; outcome = Outcome.GuestTrap })
    ≡ machine_of (one_attempt_more o) (count (with_hart r h next) (count_trap Kernel))
unfolding machine_of all_forget
traps_same o r h hart next c at e = rw (set_core o r h hart next c at e) refl

pub traps : (o : Unseen) (r : State) (h : ℕ) (hart next : Hart) (c : HypervisorRegisters) → IsAt o r h hart c → GoesOn hart next
    → QuietTo o r h (record { region = region_at o r; core = core_at o c next; outcome = Outcome.GuestTrap }) (count (with_hart r h next) (count_trap Kernel))
traps o r h hart next c at e = record { same = traps_same o r h hart next c at e; right = open_set o r h next (count_trap Kernel) at.right }

-- a hart that forgot already forgets nothing more
twice_by : (place width reserved : ℕ) (b : Bool) → touches reserved place width ≡ b
    → after_write place width (if b then None else Some reserved) ≡ (if b then None else Some reserved)
unfolding after_write
twice_by place width reserved true e = refl
twice_by place width reserved false e = rw e refl

forgets_twice : (place width : ℕ) (reservation : Option ℕ) → after_write place width (after_write place width reservation) ≡ after_write place width reservation
unfolding after_write
forgets_twice place width None = refl
forgets_twice place width (Some reserved) = twice_by place width reserved (touches reserved place width) refl

-- what is kept of a load under way doesn't change by these bytes
abbrev pub KeepsLoad : State → List ℕ → Type 0
KeepsLoad r ram = option_map (load_kept r.rules r.ram) r.loading ≡ option_map (load_kept r.rules ram) r.loading

map_set : (f : Hart → Hart) (harts : List Hart) (h : ℕ) (x : Hart) → f (f x) ≡ f x → map f (slice_set harts h (f x)) ≡ map f (slice_set harts h x)
map_set f [] h x e = refl
map_set f (y ∷ harts) zero x e = rw e refl
map_set f (y ∷ harts) (suc h) x e = ap (◌∷◌ (f y)) (map_set f harts h x e)

after_twice : (place width : ℕ) (hart : Hart) → hart_after_write place width (hart_after_write place width hart) ≡ hart_after_write place width hart
after_twice place width hart = rw (forgets_twice place width hart.reservation) refl

written_hw_harts : (o : Unseen) (r : State) (h : ℕ) (hart next : Hart) (c : HypervisorRegisters) (place width : ℕ) → IsAt o r h hart c → GoesOn hart next
    → map (forgets (length o.tables + place) width)
    (update (hw_harts (length o.tables) o.exits r.harts) h (with_core (core_at o c (hart_after_write place width next))))
    ≡ hw_harts (length o.tables) o.exits (map (hart_after_write place width) (slice_set r.harts h next))
written_hw_harts o r h hart next c place width at e =
    ap (map (forgets (length o.tables + place) width)) (set_core o r h hart (hart_after_write place width next) c at e)
    ∙ hw_harts_forget (length o.tables) o.exits (slice_set r.harts h (hart_after_write place width next)) place width
    ∙ ap (hw_harts (length o.tables) o.exits) (map_set (hart_after_write place width) r.harts h next (after_twice place width next))

-- bytes were written at a place in RAM, after which the hart stands as `next` but for a reservation that they touch
writes_same : (o : Unseen) (r : State) (h : ℕ) (hart next : Hart) (c : HypervisorRegisters) (place width value : ℕ) → IsAt o r h hart c → GoesOn hart next
    → KeepsLoad r (write_word r.ram place width value)
    → after_quiet_attempt (machine_of o r) h (record {
      region = with_ram o.tables (write_word r.ram place width value);
      core = core_at o c (hart_after_write place width next);
      outcome = Outcome.Retired (Some (record { hpa = length o.tables + place; width = width }));
    })
    ≡ machine_of (one_attempt_more o) (carried_out_writing r h next place (low_bytes width value))
unfolding machine_of all_forget with_bytes
writes_same o r h hart next c place width value at e kept =
    rw (written_hw_harts o r h hart next c place width at e, kept, length_low_bytes width value) refl

-- the bytes lie in RAM, and are none of those that a load under way keeps something of
abbrev pub CanWrite : State → (place width value : ℕ) → Type 0
CanWrite r place width value = (place + width ≤ length r.ram) × KeepsLoad r (write_word r.ram place width value)

region_written : (tables ram : List ℕ) (place width value : ℕ) → place + width ≤ length ram → IsRegion (with_ram tables ram) → IsRegion (with_ram tables (write_word ram place width value))
region_written tables ram place width value inside p =
    let same : length (write_word ram place width value) ≡ length ram = length_write_word ram place width value inside in
    record { tables = p.tables; ram = rw same p.ram; most = rw same p.most; small = rw same p.small }

pub writes : (o : Unseen) (r : State) (h : ℕ) (hart next : Hart) (c : HypervisorRegisters) (place width value : ℕ) → IsAt o r h hart c → GoesOn hart next
    → CanWrite r place width value
    → QuietTo o r h (record {
      region = with_ram o.tables (write_word r.ram place width value);
      core = core_at o c (hart_after_write place width next);
      outcome = Outcome.Retired (Some (record { hpa = length o.tables + place; width = width }));
    }) (carried_out_writing r h next place (low_bytes width value))
unfolding with_bytes
writes o r h hart next c place width value at e can = record {
  same = writes_same o r h hart next c place width value at e can.1;
  right = record {
    views = at.right.views;
    region = region_written o.tables r.ram place width value can.0 at.right.region;
    exits = at.right.exits ∙ sym (length_map (hart_after_write place (length (low_bytes width value))) (slice_set r.harts h next) ∙ length_set r.harts h next);
    cleared = at.right.cleared;
  };
}
