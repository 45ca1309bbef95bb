-- A step of the machine: what it stands for, and how far its own counts move.
use Rattle.std.proofs.Common.{◌≡◌, ℕ, ◌+◌, ◌*◌, ◌≤◌, List, length, drop, refl, sym, ◌∙◌, ap, subst, arith, Bool, true, false}
use Rattle.std.specs.Prelude.{Option, Some, None, slice_get, if◌then◌else◌}
use Rattle.std.proofs.lemmas.List.{length-drop}
use Rattle.sv_types.specs.Console.{has_room}
use Rattle.sv_types.specs.declared.event.Event.{Event}
use Rattle.sv_types.specs.declared.event.Event.TheVariants.{Turn, Beat, Key, Tick, Poke}
use Rattle.sv_types.specs.declared.event.Verdict.{Verdict}
use Rattle.sv_types.specs.declared.event.Verdict.TheVariants.{Running, Shutdown, Stopped}
use Rattle.spec_processor.specs.declared.outcome.Outcome.{Outcome}
use Rattle.spec_reference.specs.Counting.{count, with_count, count_turn, count_beat, count_key, count_tick, count_dropped}
use Rattle.spec_reference.specs.Attacker.{poke_move}
use Rattle.spec_reference.specs.Disk.{disk_beat, is_writable, DmaStep}
use Rattle.spec_reference.specs.Move.{Move, Idle, FromRam, IntoRam, DeniedAt, OutsideRam}
use Rattle.spec_reference.specs.Run.{step}
use Rattle.spec_reference.specs.States.{State, Journal}
use Rattle.spec_reference.specs.Turn.{turn}
use Rattle.laws_simulation.proofs.Growth.{Gains}
use Rattle.spec_hardware.specs.HardwareEvent.{IsEvent, HappensUnder, TurnOf, HartTurn, StartedTurn, OneOrTwo, AfterOutcome, attempt_of, hart_again, is_loading, sent_again}
use Rattle.spec_hardware.specs.HwHarts.{asks_again}
use Rattle.spec_hardware.specs.HwEvents.{event_served, beat_served, poke_served, key_served, tick_served, after_hw_move, with_hw_disk}
use Rattle.spec_hardware.specs.Machine.{Machine, HwHart, with_count_raised}
use Rattle.spec_hardware.specs.StandsFor.{StandsFor, Unseen, IsRightFor, machine_of}
use Rattle.spec_hardware.specs.Steps.{IsStep, StepsUnder}
use Rattle.spec_hardware.specs.Reaches.{without_first_printed}
use Rattle.laws_simulation.proofs.RunsReach.{clear_law}
use Rattle.laws_simulation.proofs.TurnsServed.{step_law}
use Rattle.laws_simulation.proofs.StepsGrow.{turn_gains}
use Rattle.laws_simulation.proofs.EntriesHold.{running}

-- ---- the two laws of a step

pub step_stands : (m after : Machine) (e : Event) → IsStep m e after → (r : State) → StandsFor m r → StandsFor after (step r e)
step_stands m after e steps r stands = (step_law m after r e stands steps).0

pub step_happens : (m after : Machine) (r : State) (e : Event) → StandsFor m r → IsStep m e after → IsEvent m e after
step_happens m after r e stands steps = (step_law m after r e stands steps).1

-- ---- attempts: two at most in a turn

outcome_attempts : (m after : Machine) (h : ℕ) (hw : HwHart) (o : Outcome) → AfterOutcome o m h (attempt_of m h hw) after → after.attempts ≤ m.attempts + 1
outcome_attempts m after h hw (Outcome.Retired wrote) k = let same : after.attempts ≡ m.attempts + 1 = ap (λ (x : Machine). x.attempts) k.same in omega (arith, same)
outcome_attempts m after h hw Outcome.GuestTrap k = let same : after.attempts ≡ m.attempts + 1 = ap (λ (x : Machine). x.attempts) k.same in omega (arith, same)
outcome_attempts m after h hw (Outcome.Exit exit) k = let same : after.attempts ≡ m.attempts + 1 = ap (λ (x : Machine). x.attempts) k.same in omega (arith, same)

two_attempts : (m after : Machine) (h : ℕ) (hw : HwHart) (again : Bool) → OneOrTwo again m h hw after → after.attempts ≤ m.attempts + 2
two_attempts m after h hw false k = let one = outcome_attempts m after h hw (attempt_of m h hw).outcome k in omega (arith, one)
two_attempts m after h hw true k =
    let one : after.attempts ≤ m.attempts + 1 + 1 =
    outcome_attempts (sent_again m h hw) after h (hart_again m h hw) (attempt_of (sent_again m h hw) h (hart_again m h hw)).outcome k in
    omega (arith, one)

started_attempts : (m after : Machine) (h : ℕ) (hw : HwHart) (loads : Bool) → StartedTurn loads m h hw after → after.attempts ≤ m.attempts + 2
started_attempts m after h hw true k = let same : after.attempts ≡ m.attempts = ap (λ (x : Machine). x.attempts) k.same in omega (arith, same)
started_attempts m after h hw false k = two_attempts m after h hw (asks_again m.region.ram m.rules hw (attempt_of m h hw).outcome) k

hart_attempts : (m after : Machine) (h : ℕ) (hw : HwHart) (started : Bool) → HartTurn started m h hw after → after.attempts ≤ m.attempts + 2
hart_attempts m after h hw true k = started_attempts m after h hw (is_loading m.loading h) k
hart_attempts m after h hw false k = let same : after.attempts ≡ m.attempts = ap (λ (x : Machine). x.attempts) k.same in omega (arith, same)

turn_attempts : (m after : Machine) (h : ℕ) (x : Option HwHart) → TurnOf m h x after → after.attempts ≤ m.attempts + 2
turn_attempts m after h None k = let same : after.attempts ≡ m.attempts = ap (λ (x : Machine). x.attempts) k.same in omega (arith, same)
turn_attempts m after h (Some hw) k = hart_attempts m after h hw hw.started k

-- ---- what the invariant says of two machines

pub record Bounded (m : Machine) : Type 0 where
  pub attempts : m.attempts ≤ 2 * m.journal.counts.turns
  pub printed : m.cleared + length m.journal.printed ≤ m.journal.counts.turns

-- beats, pokes, keys and time leave these as they are
pub record LeavesCounts (before after : Machine) : Type 0 where
  pub attempts : after.attempts ≡ before.attempts
  pub turns : after.journal.counts.turns ≡ before.journal.counts.turns
  pub cleared : after.cleared ≡ before.cleared
  pub printed : after.journal.printed ≡ before.journal.printed

move_leaves : (m : Machine) (x : Move) → LeavesCounts m (after_hw_move m x)
unfolding after_hw_move
move_leaves m Idle = record { attempts = refl; turns = refl; cleared = refl; printed = refl }
move_leaves m (FromRam gpa) = record { attempts = refl; turns = refl; cleared = refl; printed = refl }
move_leaves m (IntoRam gpa bytes) = record { attempts = refl; turns = refl; cleared = refl; printed = refl }
move_leaves m (DeniedAt gpa) = record { attempts = refl; turns = refl; cleared = refl; printed = refl }
move_leaves m OutsideRam = record { attempts = refl; turns = refl; cleared = refl; printed = refl }

beat_leaves : (m : Machine) → LeavesCounts m (beat_served m)
unfolding beat_served
beat_leaves m =
    let b : DmaStep = disk_beat m.devices.disk m.region.ram (is_writable m.dma) in
    let k = move_leaves (with_hw_disk m b.disk) b.move in
    record { attempts = k.attempts; turns = k.turns; cleared = k.cleared; printed = k.printed }

poke_leaves : (m : Machine) (gpa value : ℕ) → LeavesCounts m (poke_served m gpa value)
unfolding poke_served
poke_leaves m gpa value = move_leaves m (poke_move m.region.ram (is_writable m.dma) gpa value)

abbrev pub JournalLeft : Journal → Journal → Type 0
JournalLeft old new = (new.counts.turns ≡ old.counts.turns) × (new.printed ≡ old.printed)

room_leaves : (j : Journal) (room : Bool) → JournalLeft j (if room then j else with_count count_dropped j)
room_leaves j true = (refl, refl)
room_leaves j false = (refl, refl)

key_leaves : (m : Machine) (byte : ℕ) → LeavesCounts m (key_served m byte)
unfolding key_served
key_leaves m byte = let k = room_leaves m.journal (has_room m.devices.console) in record { attempts = refl; turns = k.0; cleared = refl; printed = k.1 }

tick_leaves : (m : Machine) (n : ℕ) → LeavesCounts m (tick_served m n)
unfolding tick_served
tick_leaves m n = record { attempts = refl; turns = refl; cleared = refl; printed = refl }

left_bounded : (m after : Machine) → LeavesCounts m after → Bounded m → Bounded after
left_bounded m after k b = record {
  attempts = subst (λ (n : ℕ). n ≤ 2 * after.journal.counts.turns) (sym k.attempts) (subst (λ (n : ℕ). m.attempts ≤ 2 * n) (sym k.turns) b.attempts);
  printed = subst (λ (n : ℕ). n + length after.journal.printed ≤ after.journal.counts.turns) (sym k.cleared)
      (subst (λ (xs : List ℕ). m.cleared + length xs ≤ after.journal.counts.turns) (sym k.printed) (subst (λ (n : ℕ). m.cleared + length m.journal.printed ≤ n) (sym k.turns) b.printed));
}

-- ---- a turn

counts_of : (m : Machine) (r : State) → StandsFor m r → m.journal.counts.turns ≡ r.journal.counts.turns
unfolding machine_of
counts_of m r stands = ap (λ (x : Machine). x.journal.counts.turns) stands.same

printed_by : (o : Unseen) (r : State) → IsRightFor o r → (machine_of o r).cleared + length (machine_of o r).journal.printed ≡ length r.journal.printed
unfolding machine_of
printed_by o r p = let n = length-drop o.cleared r.journal.printed in let below = p.cleared in omega (arith, n, below)

printed_of : (m : Machine) (r : State) → StandsFor m r → m.cleared + length m.journal.printed ≡ length r.journal.printed
printed_of m r stands =
    subst (λ (x : Machine). x.cleared + length x.journal.printed ≡ length r.journal.printed) (sym stands.same) (printed_by stands.unseen r stands.unseen_is_right)

turn_bounded : (m after : Machine) (r : State) (h : ℕ) → StandsFor m r → m.journal.verdict ≡ Running → StandsFor after (step r (Turn h)) → IsEvent m (Turn h) after
    → Bounded m → Bounded after
unfolding IsEvent machine_of
turn_bounded m after r h stands on behind event b =
    let verdict : r.journal.verdict ≡ Running = sym (ap (λ (x : Machine). x.journal.verdict) stands.same) ∙ on in
    let next : StandsFor after (turn (count r count_turn) h) = subst (StandsFor after) (running r h verdict) behind in
    let gains : Gains (count r count_turn) (turn (count r count_turn) h) = turn_gains (count r count_turn) h in
    let turns : after.journal.counts.turns ≡ m.journal.counts.turns + 1 =
    counts_of after (turn (count r count_turn) h) next ∙ gains.rises.turns ∙ ap (λ (n : ℕ). n + 1) (sym (counts_of m r stands)) in
    let two : after.attempts ≤ m.attempts + 2 = turn_attempts m after h (slice_get m.harts h) (subst (λ (v : Verdict). HappensUnder v m (Turn h) after) on event) in
    let old = printed_of m r stands in
    let new = printed_of after (turn (count r count_turn) h) next in
    let more = gains.prints.console in
    let a = b.attempts in
    let p = b.printed in
    record { attempts = omega (arith, turns, two, a); printed = omega (arith, turns, old, new, more, p) }

-- ---- each event

bounded_by : (m after : Machine) (r : State) (e : Event) (v : Verdict) → m.journal.verdict ≡ v → StandsFor m r → StandsFor after (step r e) → IsEvent m e after
    → StepsUnder v m e after → Bounded m → Bounded after
unfolding event_served
bounded_by m after r (Turn h) Running on stands behind event steps b = turn_bounded m after r h stands on behind event b
bounded_by m after r Beat Running on stands behind event steps b =
    subst Bounded (sym steps) (left_bounded (with_count_raised m count_beat) (beat_served (with_count_raised m count_beat)) (beat_leaves (with_count_raised m count_beat))
    (record { attempts = b.attempts; printed = b.printed }))
bounded_by m after r (Key byte) Running on stands behind event steps b =
    subst Bounded (sym steps) (left_bounded (with_count_raised m count_key) (key_served (with_count_raised m count_key) byte) (key_leaves (with_count_raised m count_key) byte)
    (record { attempts = b.attempts; printed = b.printed }))
bounded_by m after r (Tick n) Running on stands behind event steps b =
    subst Bounded (sym steps) (left_bounded (with_count_raised m count_tick) (tick_served (with_count_raised m count_tick) n) (tick_leaves (with_count_raised m count_tick) n)
    (record { attempts = b.attempts; printed = b.printed }))
bounded_by m after r (Poke gpa value) Running on stands behind event steps b =
    subst Bounded (sym steps) (left_bounded (with_count_raised m count_beat) (poke_served (with_count_raised m count_beat) gpa value)
    (poke_leaves (with_count_raised m count_beat) gpa value) (record { attempts = b.attempts; printed = b.printed }))
bounded_by m after r e Shutdown on stands behind event steps b = subst Bounded (sym steps) b
bounded_by m after r e (Stopped rule hart at) on stands behind event steps b = subst Bounded (sym steps) b

pub step_bounded : (m after : Machine) (r : State) (e : Event) → StandsFor m r → IsStep m e after → Bounded m → Bounded after
unfolding IsStep
step_bounded m after r e stands steps b =
    bounded_by m after r e m.journal.verdict refl stands (step_law m after r e stands steps).0 (step_law m after r e stands steps).1 steps b

-- ---- printed bytes that are taken away

abbrev pub all_cleared : Machine → Machine
all_cleared m = without_first_printed m (length m.journal.printed)

pub cleared_stands : (m : Machine) (r : State) → StandsFor m r → StandsFor (all_cleared m) r
cleared_stands m r stands = clear_law m (all_cleared m) r stands (record { taken = length m.journal.printed; there = omega arith; same = refl })

none_left : (xs : List ℕ) → length (drop (length xs) xs) ≡ 0
none_left xs = let n = length-drop (length xs) xs in omega (arith, n)

pub cleared_bounded : (m : Machine) → Bounded m → Bounded (all_cleared m)
cleared_bounded m b = let p = b.printed in let none = none_left m.journal.printed in record { attempts = b.attempts; printed = omega (arith, p, none) }
