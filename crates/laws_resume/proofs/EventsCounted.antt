-- How many events were made, by the counts.
use Rattle.std.proofs.Common.{◌≡◌, ℕ, suc, ◌+◌, List, [], ◌∷◌, Bool, true, false, not, arith, refl, ◌∙◌, ap, subst, sym, if◌then◌else◌}
use Rattle.sv_types.specs.Console.{has_room}
use Rattle.sv_types.specs.declared.event.Event.{Event}
use Rattle.sv_types.specs.declared.event.Event.TheVariants.{Turn, Beat, Key, Tick, Poke}
use Rattle.sv_types.specs.declared.event.Verdict.{Verdict}
use Rattle.sv_types.specs.declared.event.Verdict.TheVariants.{Running, Shutdown, Stopped}
use Rattle.spec_reference.specs.Counting.{with_count, count, count_turn, count_beat, count_key, count_tick, count_dropped}
use Rattle.spec_reference.specs.Attacker.{poke_move}
use Rattle.spec_reference.specs.Devices.{with_disk, with_bytes, after_move, may_move_to, beat, poke, key, tick}
use Rattle.spec_reference.specs.Disk.{DmaStep, disk_beat}
use Rattle.spec_reference.specs.Move.{Move, Idle, FromRam, IntoRam, DeniedAt, OutsideRam}
use Rattle.spec_reference.specs.Run.{happen, happen_under, step, run, HasEnded}
use Rattle.spec_reference.specs.States.{State, Journal, is_protected}
use Rattle.spec_reference.specs.Turn.{turn}
use Rattle.spec_reference.proofs.Runs.{ended_stays}
use Rattle.laws_resume.specs.Continues.{drawn_under, draw_count}
use Rattle.laws_simulation.proofs.Growth.{Rises}
use Rattle.laws_simulation.proofs.StepsGrow.{turn_gains}
use Rattle.laws_resume.specs.EventCounts.{events_counted, CountedLaw}

-- ---- one event

rises_none : (old new : Journal) → Rises old new → events_counted new.counts ≡ events_counted old.counts
rises_none old new r = omega (arith, r.turns, r.beats, r.keys, r.ticks)

move_none : (r : State) (x : Move) → events_counted (after_move r x).journal.counts ≡ events_counted r.journal.counts
unfolding after_move with_bytes
move_none r Idle = refl
move_none r (FromRam gpa) = refl
move_none r (IntoRam gpa bytes) = refl
move_none r (DeniedAt gpa) = refl
move_none r OutsideRam = refl

beat_none : (r : State) → events_counted (beat r).journal.counts ≡ events_counted r.journal.counts
unfolding beat
beat_none r =
    let b : DmaStep = disk_beat r.devices.disk r.ram (λ page. not (is_protected r page)) in
    move_none (with_disk r b.disk) b.move

poke_none : (r : State) (gpa value : ℕ) → events_counted (poke r gpa value).journal.counts ≡ events_counted r.journal.counts
unfolding poke
poke_none r gpa value = move_none r (poke_move r.ram (λ page. may_move_to r page) gpa value)

room_none : (j : Journal) (room : Bool) → events_counted (if room then j else with_count count_dropped j).counts ≡ events_counted j.counts
room_none j true = refl
room_none j false = refl

key_none : (r : State) (byte : ℕ) → events_counted (key r byte).journal.counts ≡ events_counted r.journal.counts
unfolding key
key_none r byte = room_none r.journal (has_room r.devices.console)

tick_none : (r : State) (n : ℕ) → events_counted (tick r n).journal.counts ≡ events_counted r.journal.counts
unfolding tick
tick_none r n = refl

happen_one : (r : State) (e : Event) → events_counted (happen r e).journal.counts ≡ events_counted r.journal.counts + 1
unfolding happen
happen_one r (Turn h) = let same = rises_none (count r count_turn).journal (turn (count r count_turn) h).journal (turn_gains (count r count_turn) h).rises in omega (arith, same)
happen_one r Beat = let same = beat_none (count r count_beat) in omega (arith, same)
happen_one r (Key byte) = let same = key_none (count r count_key) byte in omega (arith, same)
happen_one r (Tick n) = let same = tick_none (count r count_tick) n in omega (arith, same)
happen_one r (Poke gpa value) = let same = poke_none (count r count_beat) gpa value in omega (arith, same)

-- ---- while the machine runs, and after its end

runs_by : (verdict : Verdict) (r : State) (e : Event) → verdict ≡ Running → happen_under verdict r e ≡ happen r e
unfolding happen_under
runs_by Running r e is = refl
runs_by Shutdown r e is = absurd (cc is)
runs_by (Stopped rule h at) r e is = absurd (cc is)

abbrev counted_in : State → ℕ
counted_in r = events_counted r.journal.counts

ended_none : (r : State) (e : Event) (events : List Event) → HasEnded r.journal.verdict → counted_in (run (step r e) events) ≡ counted_in r + 0
ended_none r e events ended =
    let same : run (step r e) events ≡ r = ended_stays r (e ∷ events) ended in
    let counts : counted_in (run (step r e) events) ≡ counted_in r = ap counted_in same in
    omega (arith, counts)

step_one : (r : State) (e : Event) → r.journal.verdict ≡ Running → counted_in (step r e) ≡ counted_in r + 1
unfolding step
step_one r e is = ap counted_in (runs_by r.journal.verdict r e is) ∙ happen_one r e

under_counted : (verdict : Verdict) (r : State) (e : Event) (events : List Event) (later : ℕ) → r.journal.verdict ≡ verdict
    → counted_in (run (step r e) events) ≡ counted_in (step r e) + later
    → counted_in (run (step r e) events) ≡ counted_in r + drawn_under verdict suc later
unfolding drawn_under
under_counted Running r e events later is rest = let one = step_one r e is in omega (arith, one, rest)
under_counted Shutdown r e events later is rest = ended_none r e events (subst HasEnded (sym is) tt)
under_counted (Stopped rule h at) r e events later is rest = ended_none r e events (subst HasEnded (sym is) tt)

pub counted_law : CountedLaw
unfolding draw_count
counted_law s [] = let same : counted_in s ≡ counted_in s + 0 = omega arith in same
counted_law s (e ∷ events) = under_counted s.journal.verdict s e events (draw_count (step s e) events) refl (counted_law (step s e) events)
