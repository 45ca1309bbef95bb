-- Where no hart gets a reservation.
use Rattle.std.proofs.Common.{◌≡◌, ℕ, zero, suc, ◌+◌, Bool, true, false, ◌&&◌, List, [], ◌∷◌, length, refl, sym, ◌∙◌, ap, subst, slice_get}
use Rattle.std.specs.Prelude.{Option, Some, None, not, if◌then◌else◌}
use Rattle.spec_processor.specs.Bytes.{ram_offset}
use Rattle.spec_processor.specs.Traps.{trap_target}
use Rattle.spec_processor.specs.declared.mode.Mode.{Mode}
use Rattle.sv_types.specs.declared.event.Event.{Event}
use Rattle.sv_types.specs.declared.event.Event.TheVariants.{Turn, Beat, Key, Tick, Poke}
use Rattle.sv_types.specs.declared.event.Rule.TheVariants.{Entry}
use Rattle.sv_types.specs.declared.event.Verdict.{Verdict}
use Rattle.sv_types.specs.declared.event.Verdict.TheVariants.{Running, Shutdown, Stopped}
use Rattle.spec_reference.specs.Attacker.{poke_move}
use Rattle.spec_reference.specs.Disk.{disk_beat, is_writable}
use Rattle.spec_reference.specs.Move.{Move, Idle, FromRam, IntoRam, DeniedAt, OutsideRam}
use Rattle.spec_hardware.specs.HwEvents.{after_hw_move, beat_served, event_served, poke_served, key_served, tick_served, with_hw_disk}
use Rattle.sv_types.specs.Policies.{Rules}
use Rattle.spec_reference.specs.Counting.{count_beat, count_trap, count_turn, with_count, machine_ended}
use Rattle.spec_reference.specs.Trapping.{may_enter}
use Rattle.spec_hardware.specs.HwExits.{hw_exit_answered}
use Rattle.spec_hardware.specs.HwHarts.{hw_at_return, hw_at_trap}
use Rattle.spec_hardware.specs.Machine.{HwHart, Machine, with_count_raised, update}
use Rattle.spec_hardware.specs.Steps.{HartServed, IsStep, IsTurn, Steps, StepsUnder, TurnServed}
use Rattle.spec_hardware.specs.declared.exits.ExitAnswer.{ExitAnswer}
use Rattle.hw_fast_path.specs.declared.leaving.Leaving.{Leaving}
use Rattle.hw_fast_path.specs.declared.leaving.Leaving.TheVariants.{Stays, Calls, Returns}
use Rattle.hw_platform.proofs.Batches.{changed_free, map_none}
use Rattle.hw_platform.specs.Attempts.{hart_in}
use Rattle.machine.specs.Batches.{AnswersLeaving, AreFreeWhere, call_answer, counted_leaving, reserves_nothing}
use Rattle.hw_platform.specs.Batches.{AreFree}

moved_free : (m : Machine) (move : Move) → AreFree m.harts → AreFree (after_hw_move m move).harts
unfolding after_hw_move
moved_free m Idle free = free
moved_free m (FromRam gpa) free = free
moved_free m (IntoRam gpa bytes) free = subst AreFree (sym (map_none (length m.region.tables + ram_offset gpa) (length bytes) m.harts free)) free
moved_free m (DeniedAt gpa) free = free
moved_free m OutsideRam free = free

-- an event that isn't a turn
dma_step_free : (m : Machine) → AreFree m.harts → AreFree (beat_served m).harts
unfolding beat_served
dma_step_free m free =
    let b = disk_beat m.devices.disk m.region.ram (is_writable m.dma) in
    moved_free (with_hw_disk m b.disk) b.move free

poked_free : (m : Machine) (gpa value : ℕ) → AreFree m.harts → AreFree (poke_served m gpa value).harts
unfolding poke_served
poked_free m gpa value free = moved_free m (poke_move m.region.ram (is_writable m.dma) gpa value) free

-- a turn of a hart that is stopped, or isn't there
hart_by : (harts : List HwHart) (h : ℕ) (hw : HwHart) → slice_get harts h ≡ Some hw → hart_in harts h ≡ hw
hart_by [] h hw e = absurd (cc)
hart_by (x ∷ harts) zero hw e = cc
hart_by (x ∷ harts) (suc h) hw e = hart_by harts h hw e

pub stopped_turn : (m after : Machine) (h : ℕ) (x : Option HwHart) → slice_get m.harts h ≡ x → (hart_in m.harts h).started ≡ false
    → TurnServed (with_count_raised m count_turn) h x after → after ≡ with_count_raised m count_turn
stopped_turn m after h None e stopped served = served
stopped_turn m after h (Some hw) e stopped served =
    let off : hw.started ≡ false = ap (λ (k : HwHart). k.started) (sym (hart_by m.harts h hw e)) ∙ stopped in
    subst (λ (b : Bool). HartServed b (with_count_raised m count_turn) h hw after) off served

turn_free : (started : Bool) (m after : Machine) (h : ℕ) → (hart_in m.harts h).started ≡ started → AreFree m.harts → IsTurn m h after
    → AreFreeWhere (not started) after.harts
turn_free true m after h is free turn = tt
turn_free false m after h is free turn = subst (λ (x : Machine). AreFree x.harts) (sym (stopped_turn m after h (slice_get m.harts h) refl is turn)) free

-- where none has one, that may be noted or not
pub free_where : (known : Bool) (harts : List HwHart) → AreFree harts → AreFreeWhere known harts
free_where false harts free = tt
free_where true harts free = free

event_free : (known : Bool) (m after : Machine) (e : Event) → AreFreeWhere known m.harts → Steps m e after → AreFreeWhere (known && reserves_nothing m e) after.harts
unfolding event_served key_served tick_served
event_free false m after e free steps = tt
event_free true m after (Turn h) free steps = turn_free (hart_in m.harts h).started m after h refl free steps
event_free true m after Beat free steps = subst (λ (x : Machine). AreFree x.harts) (sym steps) (dma_step_free (with_count_raised m count_beat) free)
event_free true m after (Key byte) free steps = subst (λ (x : Machine). AreFree x.harts) (sym steps) free
event_free true m after (Tick n) free steps = subst (λ (x : Machine). AreFree x.harts) (sym steps) free
event_free true m after (Poke gpa value) free steps = subst (λ (x : Machine). AreFree x.harts) (sym steps) (poked_free (with_count_raised m count_beat) gpa value free)

-- a machine that stays as it is
stays_free : (known : Bool) (m after : Machine) (e : Event) → AreFreeWhere known m.harts → after ≡ m → AreFreeWhere (known && reserves_nothing m e) after.harts
stays_free false m after e free same = tt
stays_free true m after e free same = free_where (reserves_nothing m e) after.harts (subst (λ (x : Machine). AreFree x.harts) (sym same) free)

under_free : (verdict : Verdict) (known : Bool) (m after : Machine) (e : Event) → AreFreeWhere known m.harts → StepsUnder verdict m e after
    → AreFreeWhere (known && reserves_nothing m e) after.harts
under_free Running known m after e free steps = event_free known m after e free steps
under_free Shutdown known m after e free same = stays_free known m after e free same
under_free (Stopped rule hart at) known m after e free same = stays_free known m after e free same

-- where no hart had one, none has one after an event by which none gets one
pub step_free : (known : Bool) (m after : Machine) (e : Event) → AreFreeWhere known m.harts → IsStep m e after → AreFreeWhere (known && reserves_nothing m e) after.harts
unfolding IsStep
step_free known m after e free steps = under_free m.journal.verdict known m after e free steps

-- ---- the answer to an exit after a row, which takes the hart's own away

trap_free : (rules : Rules) (interrupt : Bool) (cause tval : ℕ) (x : HwHart) → (hw_at_trap rules interrupt cause tval x).core.reservation ≡ None
unfolding hw_at_trap
trap_free rules interrupt cause tval x = refl

return_free : (x : HwHart) → (hw_at_return x).core.reservation ≡ None
unfolding hw_at_return
return_free x = refl

either_free : (b : Bool) (x y : Machine) → AreFree x.harts → AreFree y.harts → AreFree (if b then x else y).harts
either_free true x y e f = e
either_free false x y e f = f

called_free : (m : Machine) (h : ℕ) (hw : HwHart) (mode : Mode) → AreFree m.harts → AreFree (hw_exit_answered m h hw mode call_answer).harts
unfolding hw_exit_answered
called_free m h hw mode free =
    either_free (may_enter m.rules mode (trap_target hw.core.csrs.vstvec false 8))
    (record m { harts = update m.harts h (hw_at_trap m.rules false 8 0); journal = with_count (count_trap mode) m.journal })
    (record m { journal = machine_ended (Stopped (Entry (trap_target hw.core.csrs.vstvec false 8)) h m.journal.counts.turns) m.journal })
    (changed_free m.harts h (hw_at_trap m.rules false 8 0) (trap_free m.rules false 8 0) free) free

returned_free : (m : Machine) (h : ℕ) (hw : HwHart) (mode : Mode) → AreFree m.harts → AreFree (hw_exit_answered m h hw mode ExitAnswer.Returns).harts
unfolding hw_exit_answered
returned_free m h hw mode free = changed_free m.harts h hw_at_return return_free free

pub leaving_free : (left : Leaving) (m : Machine) (h : ℕ) (after : Machine) → AreFree m.harts → AnswersLeaving left m h after → AreFree after.harts
leaving_free Stays m h after free same = subst (λ (x : Machine). AreFree x.harts) (sym same) free
leaving_free Calls m h after free answers =
    subst (λ (x : Machine). AreFree x.harts) (sym answers.same)
    (called_free (counted_leaving m) h (hart_in m.harts h) (hart_in m.harts h).core.hregs.mode free)
leaving_free Returns m h after free answers =
    subst (λ (x : Machine). AreFree x.harts) (sym answers.same)
    (returned_free (counted_leaving m) h (hart_in m.harts h) (hart_in m.harts h).core.hregs.mode free)
