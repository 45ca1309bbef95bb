-- The laws of attempts.
use Rattle.std.proofs.Common.{◌≡◌, ℕ, ◌+◌, length, refl, sym, ◌∙◌, ap, subst, true, false, slice_get, slice_set}
use Rattle.std.specs.Prelude.{Option, Some, None, ◌==◌}
use Rattle.spec_processor.specs.Hardware.{Attempted, leave, with_region}
use Rattle.spec_processor.specs.HypervisorRegisters.{HypervisorRegisters, registers_at_exit}
use Rattle.spec_processor.specs.declared.outcome.Outcome.{Outcome}
use Rattle.spec_processor.specs.declared.exit.Exit.{Exit}
use Rattle.spec_reference.specs.States.{State, Hart}
use Rattle.spec_hardware.specs.Machine.{Machine, HwHart, with_count_raised, after_attempt, after_quiet_attempt, all_forget, with_core}
use Rattle.spec_hardware.specs.HwHarts.{with_hw, hw_outside, hw_seen}
use Rattle.spec_hardware.specs.declared.exits.ExitAnswer.{ExitAnswer}
use Rattle.spec_hardware.specs.declared.exits.ExitAnswer.TheVariants.{Traps, Returns, Demotes, LeavesEntry, StopsAtWrite, LoadsDevice, StoresDevice, Calls}
use Rattle.laws_simulation.proofs.HartsMirrored.{mirror_outside}
use Rattle.spec_hardware.specs.StandsFor.{StandsFor, Unseen, IsRightFor, machine_of, hw_hart, hw_harts}
use Rattle.spec_reference.specs.Soundness.{IsSound}
use Rattle.spec_hardware.specs.Served.{seen_of, exit_answer, exit_answered, serve_exit, is_again}
use Rattle.spec_reference.specs.Turn.{turn, outside_entry, leave_entry}
use Rattle.spec_reference.specs.Counting.{count, count_turn}
use Rattle.laws_simulation.specs.Agree.{IsAt, AgreesBy, IsNotLoading, region_at, core_at, one_attempt_more}
use Rattle.laws_simulation.specs.Laws.{MakesAttempt, IsQuiet, QuietLaw, ExitLaw}
use Rattle.spec_hardware.specs.HardwareEvent.{attempt_of}
use Rattle.laws_simulation.proofs.HwOfSlots.{hw_harts_get, hw_harts_exit, hw_harts_update}
use Rattle.laws_simulation.proofs.Stays.{length_set}
use Rattle.laws_simulation.proofs.AttemptLawHolds.{attempt_law}
use Rattle.laws_simulation.proofs.StepsSound.{turn_goes, counted_sound, leave_goes}
use Rattle.spec_hardware.proofs.Privileges.{same_mode}
use Rattle.laws_simulation.proofs.EntriesHold.{running}

quiet_by : (o : Unseen) (r : State) (h : ℕ) (hart : Hart) (c : HypervisorRegisters) (a : Attempted) (x : Outcome) → IsAt o r h hart c
    → AgreesBy x o r h hart c a (turn r h) → IsQuiet x → StandsFor (after_quiet_attempt (machine_of o r) h a) (turn r h)
quiet_by o r h hart c a (Outcome.Retired wrote) at agrees quiet =
    record { unseen = one_attempt_more o; same = agrees.same; unseen_is_right = agrees.right; sound = (turn_goes r h at.sound).sound }
quiet_by o r h hart c a Outcome.GuestTrap at agrees quiet =
    record { unseen = one_attempt_more o; same = agrees.same; unseen_is_right = agrees.right; sound = (turn_goes r h at.sound).sound }
quiet_by o r h hart c a (Outcome.Exit exit) at agrees quiet = absurd quiet

same_hw : (x : Option HwHart) (a b : HwHart) → x ≡ Some a → x ≡ Some b → a ≡ b
same_hw x a b e f = cc

quiet_at : (o : Unseen) (r : State) (h : ℕ) (hart : Hart) (c : HypervisorRegisters) (hw : HwHart) → IsAt o r h hart c → IsNotLoading h r.loading
    → hw ≡ hw_hart (length o.tables) c hart → IsQuiet (attempt_of (machine_of o r) h hw).outcome
    → StandsFor (after_quiet_attempt (machine_of o r) h (attempt_of (machine_of o r) h hw)) (turn r h)
unfolding machine_of
quiet_at o r h hart c hw at other e =
    subst (λ (x : HwHart). IsQuiet (attempt_of (machine_of o r) h x).outcome → StandsFor (after_quiet_attempt (machine_of o r) h (attempt_of (machine_of o r) h x)) (turn r h))
    (sym e)
    (λ quiet. quiet_by o r h hart c (attempt_of (machine_of o r) h (hw_hart (length o.tables) c hart)) (attempt_of (machine_of o r) h (hw_hart (length o.tables) c hart)).outcome
    at (attempt_law o r h hart c at other) quiet)

quiet_same : (m : Machine) (r : State) (h : ℕ) (hw : HwHart) (hart : Hart) (o : Unseen) → m ≡ machine_of o r → IsRightFor o r → IsSound r
    → slice_get m.harts h ≡ Some hw → slice_get r.harts h ≡ Some hart → hart.started ≡ true → IsNotLoading h r.loading
    → IsQuiet (attempt_of m h hw).outcome → StandsFor (after_quiet_attempt m h (attempt_of m h hw)) (turn r h)
unfolding machine_of
quiet_same m r h hw hart o same parts sound hw_is hart_is started other =
    let c = hw_harts_get (length o.tables) o.exits r.harts h hart parts.exits hart_is in
    let there : slice_get (machine_of o r).harts h ≡ Some hw = subst (λ (x : Machine). slice_get x.harts h ≡ Some hw) same hw_is in
    let e : hw ≡ hw_hart (length o.tables) c.0 hart = same_hw (slice_get (machine_of o r).harts h) hw (hw_hart (length o.tables) c.0 hart) there c.1.1 in
    subst (λ (x : Machine). IsQuiet (attempt_of x h hw).outcome → StandsFor (after_quiet_attempt x h (attempt_of x h hw)) (turn r h)) (sym same)
    (quiet_at o r h hart c.0 hw (record { right = parts; sound = sound; found = hart_is; exits = c.1.0; started = started }) other e)

-- over a turn whose count was raised already
pub quiet_turn : (m : Machine) (r : State) (h : ℕ) (hw : HwHart) (hart : Hart) → MakesAttempt m r h hw hart
    → IsQuiet (attempt_of m h hw).outcome → StandsFor (after_quiet_attempt m h (attempt_of m h hw)) (turn r h)
quiet_turn m r h hw hart makes quiet =
    quiet_same m r h hw hart makes.stands.unseen makes.stands.same makes.stands.unseen_is_right makes.stands.sound makes.hw_is makes.hart_is makes.started
    makes.free quiet

-- ---- exits

left : (o : Unseen) (r : State) (h : ℕ) (hart : Hart) (c : HypervisorRegisters) (exit : Exit) → IsAt o r h hart c
    → after_attempt (machine_of o r) h (with_region (region_at o r) (leave (core_at o c hart) exit))
    ≡ machine_of (record o { exits = slice_set o.exits h (registers_at_exit c exit); attempts = o.attempts + 1 }) r
unfolding machine_of all_forget leave registers_at_exit
left o r h hart c exit at =
    let d : HypervisorRegisters = registers_at_exit c exit in
    rw (hw_harts_exit (length o.tables) o.exits r.harts h c d hart (with_core (core_at o d hart)) at.exits at.found refl) refl

exit_by : (o : Unseen) (r : State) (h : ℕ) (hart : Hart) (c : HypervisorRegisters) (a : Attempted) (x : Outcome) (exit : Exit) → IsAt o r h hart c
    → AgreesBy x o r h hart c a (turn r h) → x ≡ Outcome.Exit exit
    → StandsFor (after_attempt (machine_of o r) h a) r × (turn r h ≡ serve_exit r h hart exit)
exit_by o r h hart c a (Outcome.Retired wrote) exit at agrees e = cc
exit_by o r h hart c a Outcome.GuestTrap exit at agrees e = cc
exit_by o r h hart c a (Outcome.Exit other) exit at agrees e =
    let same : other ≡ exit = cc in (
      record {
        unseen = record o { exits = slice_set o.exits h (registers_at_exit c other); attempts = o.attempts + 1 };
        same = ap (after_attempt (machine_of o r) h) agrees.0 ∙ left o r h hart c other at;
        unseen_is_right = record {
          views = at.right.views;
          region = at.right.region;
          exits = length_set o.exits h (registers_at_exit c other) ∙ at.right.exits;
          cleared = at.right.cleared;
        };
        sound = at.sound;
      },
      agrees.1 ∙ ap (serve_exit r h hart) same,
    )

exit_at : (o : Unseen) (r : State) (h : ℕ) (hart : Hart) (c : HypervisorRegisters) (hw : HwHart) (exit : Exit) → IsAt o r h hart c → IsNotLoading h r.loading
    → hw ≡ hw_hart (length o.tables) c hart → (attempt_of (machine_of o r) h hw).outcome ≡ Outcome.Exit exit
    → StandsFor (after_attempt (machine_of o r) h (attempt_of (machine_of o r) h hw)) r × (turn r h ≡ serve_exit r h hart exit)
unfolding machine_of
exit_at o r h hart c hw exit at other e =
    subst (λ (x : HwHart). (attempt_of (machine_of o r) h x).outcome ≡ Outcome.Exit exit
    → StandsFor (after_attempt (machine_of o r) h (attempt_of (machine_of o r) h x)) r × (turn r h ≡ serve_exit r h hart exit))
    (sym e)
    (λ left_by. exit_by o r h hart c (attempt_of (machine_of o r) h (hw_hart (length o.tables) c hart)) (attempt_of (machine_of o r) h (hw_hart (length o.tables) c hart)).outcome exit
    at (attempt_law o r h hart c at other) left_by)

exit_same : (m : Machine) (r : State) (h : ℕ) (hw : HwHart) (hart : Hart) (exit : Exit) (o : Unseen) → m ≡ machine_of o r → IsRightFor o r → IsSound r
    → slice_get m.harts h ≡ Some hw → slice_get r.harts h ≡ Some hart → hart.started ≡ true → IsNotLoading h r.loading
    → (attempt_of m h hw).outcome ≡ Outcome.Exit exit → StandsFor (after_attempt m h (attempt_of m h hw)) r × (turn r h ≡ serve_exit r h hart exit)
unfolding machine_of
exit_same m r h hw hart exit o same parts sound hw_is hart_is started other =
    let c = hw_harts_get (length o.tables) o.exits r.harts h hart parts.exits hart_is in
    let there : slice_get (machine_of o r).harts h ≡ Some hw = subst (λ (x : Machine). slice_get x.harts h ≡ Some hw) same hw_is in
    let e : hw ≡ hw_hart (length o.tables) c.0 hart = same_hw (slice_get (machine_of o r).harts h) hw (hw_hart (length o.tables) c.0 hart) there c.1.1 in
    subst (λ (x : Machine). (attempt_of x h hw).outcome ≡ Outcome.Exit exit → StandsFor (after_attempt x h (attempt_of x h hw)) r × (turn r h ≡ serve_exit r h hart exit)) (sym same)
    (exit_at o r h hart c.0 hw exit (record { right = parts; sound = sound; found = hart_is; exits = c.1.0; started = started }) other e)

pub exit_turn : (m : Machine) (r : State) (h : ℕ) (hw : HwHart) (hart : Hart) (exit : Exit) → MakesAttempt m r h hw hart
    → (attempt_of m h hw).outcome ≡ Outcome.Exit exit → StandsFor (after_attempt m h (attempt_of m h hw)) r × (turn r h ≡ serve_exit r h hart exit)
exit_turn m r h hw hart exit makes left_by =
    exit_same m r h hw hart exit makes.stands.unseen makes.stands.same makes.stands.unseen_is_right makes.stands.sound makes.hw_is makes.hart_is makes.started
    makes.free left_by

-- ---- a second attempt

outside_at : (o : Unseen) (r : State) (h : ℕ) (hart : Hart) → IsRightFor o r → IsSound r → slice_get r.harts h ≡ Some hart
    → StandsFor (with_hw (machine_of o r) h hw_outside) (leave_entry r h hart)
unfolding machine_of
outside_at o r h hart p s found =
    let c = hw_harts_get (length o.tables) o.exits r.harts h hart p.exits found in
    record {
      unseen = o;
      same = rw (hw_harts_update (length o.tables) o.exits r.harts h c.0 hart (outside_entry hart) hw_outside c.1.0 found (mirror_outside (length o.tables) c.0 hart)) refl;
      unseen_is_right = record { views = p.views; region = p.region; exits = p.exits ∙ sym (length_set r.harts h (outside_entry hart)); cleared = p.cleared };
      sound = (leave_goes r h hart s (s.harts h hart found)).sound;
    }

-- a machine whose hart has left its entry stands for the state where it has
pub outside_stands : (m : Machine) (r : State) (h : ℕ) (hart : Hart) → StandsFor m r → slice_get r.harts h ≡ Some hart
    → StandsFor (with_hw m h hw_outside) (leave_entry r h hart)
outside_stands m r h hart stands found =
    subst (λ (x : Machine). StandsFor (with_hw x h hw_outside) (leave_entry r h hart)) (sym stands.same)
    (outside_at stands.unseen r h hart stands.unseen_is_right stands.sound found)

harts_of : (o : Unseen) (r : State) (h : ℕ) (x : Option HwHart) → slice_get (hw_harts (length o.tables) o.exits r.harts) h ≡ x → slice_get (machine_of o r).harts h ≡ x
unfolding machine_of
harts_of o r h x e = e

-- what SecVisor answers
abbrev pub answer_at_exit : Machine → HwHart → Exit → ExitAnswer
answer_at_exit m hw exit = exit_answer (hw_seen m.region.ram m.rules hw hw.core.hregs.mode exit) exit

asked_at : (o : Unseen) (r : State) (c : HypervisorRegisters) (hart : Hart) (exit : Exit)
    → answer_at_exit (machine_of o r) (hw_hart (length o.tables) c hart) exit ≡ exit_answer (seen_of r hart exit) exit
unfolding machine_of
asked_at o r c hart exit = rw (same_mode hart.mode hart.entry) refl

-- it's what the state tells
pub asked_same : (m : Machine) (r : State) (h : ℕ) (hw : HwHart) (hart : Hart) (exit : Exit) → MakesAttempt m r h hw hart
    → answer_at_exit m hw exit ≡ exit_answer (seen_of r hart exit) exit
asked_same m r h hw hart exit makes =
    let o = makes.stands.unseen in
    let c = hw_harts_get (length o.tables) o.exits r.harts h hart makes.stands.unseen_is_right.exits makes.hart_is in
    let there : slice_get (machine_of o r).harts h ≡ Some hw = subst (λ (x : Machine). slice_get x.harts h ≡ Some hw) makes.stands.same makes.hw_is in
    let same : hw ≡ hw_hart (length o.tables) c.0 hart =
    same_hw (slice_get (machine_of o r).harts h) hw (hw_hart (length o.tables) c.0 hart) there (harts_of o r h _ c.1.1) in
    subst (λ (x : Machine). answer_at_exit x hw exit ≡ exit_answer (seen_of r hart exit) exit) (sym makes.stands.same)
    (subst (λ (x : HwHart). answer_at_exit (machine_of o r) x exit ≡ exit_answer (seen_of r hart exit) exit) (sym same) (asked_at o r c.0 hart exit))

again_by : (r : State) (h : ℕ) (hart : Hart) (a : ExitAnswer) → is_again a ≡ true → exit_answered r h hart a ≡ turn (leave_entry r h hart) h
unfolding is_again exit_answered
again_by r h hart (Traps cause tval) again = absurd (cc)
again_by r h hart Returns again = absurd (cc)
again_by r h hart (Demotes gpa) again = absurd (cc)
again_by r h hart LeavesEntry again = refl
again_by r h hart (StopsAtWrite gpa) again = absurd (cc)
again_by r h hart (LoadsDevice load) again = absurd (cc)
again_by r h hart (StoresDevice store) again = absurd (cc)
again_by r h hart Calls again = absurd (cc)

-- the turn in which a hart is sent to attempt again is the turn of the state where it has left its entry
pub again_turn : (m : Machine) (r : State) (h : ℕ) (hw : HwHart) (hart : Hart) (exit : Exit) → MakesAttempt m r h hw hart
    → (attempt_of m h hw).outcome ≡ Outcome.Exit exit → is_again (answer_at_exit m hw exit) ≡ true → turn r h ≡ turn (leave_entry r h hart) h
unfolding serve_exit
again_turn m r h hw hart exit makes left again =
    (exit_turn m r h hw hart exit makes left).1
    ∙ again_by r h hart (exit_answer (seen_of r hart exit) exit)
    (subst (λ (a : ExitAnswer). is_again a ≡ true) (asked_same m r h hw hart exit makes) again)

-- ---- over a step

pub raised_at : (o : Unseen) (r : State) → IsRightFor o r → IsSound r → StandsFor (with_count_raised (machine_of o r) count_turn) (count r count_turn)
unfolding machine_of
raised_at o r p s = record {
  unseen = o;
  same = refl;
  unseen_is_right = record { views = p.views; region = p.region; exits = p.exits; cleared = p.cleared };
  sound = (counted_sound r count_turn s).sound;
}

-- the count of turns raised on both sides
pub raised_stands : (m : Machine) (r : State) → StandsFor m r → StandsFor (with_count_raised m count_turn) (count r count_turn)
raised_stands m r stands =
    subst (λ (x : Machine). StandsFor (with_count_raised x count_turn) (count r count_turn)) (sym stands.same) (raised_at stands.unseen r stands.unseen_is_right stands.sound)

pub makes_raised : (m : Machine) (r : State) (h : ℕ) (hw : HwHart) (hart : Hart) → MakesAttempt m r h hw hart
    → MakesAttempt (with_count_raised m count_turn) (count r count_turn) h hw hart
makes_raised m r h hw hart k = record {
  stands = raised_stands m r k.stands;
  hw_is = k.hw_is;
  hart_is = k.hart_is;
  started = k.started;
  free = k.free;
}

pub quiet_law : QuietLaw
quiet_law m r h hw hart makes on quiet =
    subst (StandsFor (after_quiet_attempt (with_count_raised m count_turn) h (attempt_of m h hw))) (sym (running r h on))
    (quiet_turn (with_count_raised m count_turn) (count r count_turn) h hw hart (makes_raised m r h hw hart makes) quiet)

pub exit_law : ExitLaw
exit_law m r h hw hart exit makes on gave = (
  (exit_turn m r h hw hart exit makes gave).0,
  running r h on ∙ (exit_turn (with_count_raised m count_turn) (count r count_turn) h hw hart exit (makes_raised m r h hw hart makes) gave).1,
)
