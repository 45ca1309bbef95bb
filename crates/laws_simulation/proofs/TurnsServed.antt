-- The whole turn of a machine: it stands for the state after the turn, and no more was changed than a turn may change.
use Rattle.sv_types.specs.Policies.{Rules}
use Rattle.spec_processor.specs.declared.cause.Cause.{Cause}
use Rattle.spec_processor.specs.declared.exit.Exit.{Exit}
use Rattle.spec_processor.specs.declared.exit.ExitCause.{ExitCause}
use Rattle.std.proofs.Common.{◌≡◌, ℕ, List, length, refl, sym, ◌∙◌, ap, subst, Bool, true, false, slice_get}
use Rattle.std.specs.Prelude.{Option, Some, None, option_map, if◌then◌else◌, ◌==◌}
use Rattle.sv_types.specs.declared.event.Event.{Event}
use Rattle.sv_types.specs.declared.event.Event.TheVariants.{Turn, Beat, Key, Tick, Poke}
use Rattle.spec_processor.specs.declared.outcome.Outcome.{Outcome}
use Rattle.sv_types.specs.declared.event.Verdict.{Verdict}
use Rattle.sv_types.specs.declared.event.Verdict.TheVariants.{Running, Shutdown, Stopped}
use Rattle.laws_simulation.specs.Laws.{StepLaw, AgainLaw}
use Rattle.spec_hardware.specs.Steps.{OutcomeServed, AttemptsServed, StartedServed, HartServed, TurnServed, IsTurn, StepsUnder, IsStep}
use Rattle.spec_reference.specs.Counting.{count, count_turn}
use Rattle.spec_hardware.specs.HardwareEvent.{left_by, sent_again, hart_again, OneOrTwo, Answers, IsEvent, HappensUnder, is_loading, TurnOf, HartTurn, StartedTurn, AfterOutcome, SameButForCounts}
use Rattle.laws_simulation.specs.Laws.{MakesAttempt, IsQuiet}
use Rattle.spec_hardware.specs.HardwareEvent.{attempt_of}
use Rattle.spec_hardware.specs.Machine.{Machine, HwHart, HwLoad, update, all_forget, with_core, after_attempt, after_quiet_attempt, with_count_raised}
use Rattle.spec_hardware.specs.HwHarts.{hw_outside, hw_seen, asks_again}
use Rattle.spec_hardware.specs.Served.{Seen, is_implicit, exit_gpa, is_sret_word, fetch_answer, load_answer, store_answer, write_answer}
use Rattle.spec_hardware.specs.Served.{virtual_answer, answer_by, plain_answer, answer_in, exit_answer, is_again}
use Rattle.spec_hardware.specs.declared.exits.ExitAnswer.{ExitAnswer}
use Rattle.spec_processor.specs.Bytes.{in_ram}
use Rattle.spec_processor.specs.declared.effect.Effect.{Effect}
use Rattle.spec_processor.specs.declared.mode.Mode.{Mode}
use Rattle.spec_processor.specs.declared.mode.Mode.TheVariants.{Kernel, User}
use Rattle.spec_hardware.specs.HwEvents.{event_served}
use Rattle.spec_reference.specs.States.{State, Hart, Binding, Loading}
use Rattle.spec_reference.specs.Run.{step, happen_under}
use Rattle.spec_hardware.specs.StandsFor.{StandsFor, Unseen, IsRightFor, machine_of, hw_hart, hw_harts, load_kept, load_kept_by}
use Rattle.spec_reference.specs.Soundness.{IsSound}
use Rattle.spec_reference.specs.Turn.{turn, outside_entry, leave_entry, bound_entry}
use Rattle.laws_simulation.proofs.CallsMirrored.{none_hw}
use Rattle.laws_simulation.proofs.EventsAgree.{IsNoTurn, event_law, verdict_of}
use Rattle.laws_simulation.proofs.ExitsMirrored.{served_turn}
use Rattle.laws_simulation.proofs.HwOfSlots.{hw_harts_get}
use Rattle.laws_simulation.specs.Agree.{IsNotLoading}
use Rattle.laws_simulation.proofs.AttemptsAgree.{get_back, turn_none, turn_stopped}
use Rattle.laws_simulation.proofs.LawsHold.{answer_at_exit, quiet_turn, raised_at, makes_raised, exit_turn, outside_stands, again_turn}
use Rattle.laws_simulation.proofs.LoadsMirrored.{load_turn}
use Rattle.laws_simulation.proofs.EntriesHold.{running}
use Rattle.spec_hardware.proofs.Frames.{get_own}

-- ---- the frame, with the count of turns left aside

answers_raised : (m after : Machine) (h : ℕ) → Answers (with_count_raised m count_turn) h after → Answers m h after
answers_raised m after h a = record { answer = a.answer; size = a.size; may = a.may; same = a.same }

left_raised : (m after : Machine) (h : ℕ) (hw : HwHart) → Answers (left_by (with_count_raised m count_turn) h hw) h after → Answers (left_by m h hw) h after
left_raised m after h hw a = record { answer = a.answer; size = a.size; may = a.may; same = a.same }

-- ---- the state of a turn that does nothing, of a load and of an attempt

-- what is known after a turn, before its count is put in
abbrev pub Turned : Machine → State → ℕ → Option HwHart → Machine → Type 0
Turned m r h hw after = StandsFor after (turn (count r count_turn) h) × TurnOf m h hw after

still : (m r : _) (h : ℕ) → StandsFor (with_count_raised m count_turn) (count r count_turn) → turn (count r count_turn) h ≡ count r count_turn
    → StandsFor (with_count_raised m count_turn) (turn (count r count_turn) h)
still m r h stands same = subst (StandsFor (with_count_raised m count_turn)) (sym same) stands

recorded_turn : (m : Machine) → SameButForCounts m (with_count_raised m count_turn)
recorded_turn m = record { new = record { counts = count_turn m.journal.counts; notes = m.journal.notes }; same = refl }

-- the frame of a machine that is equal
same_frame : (m served after : Machine) → after ≡ served → SameButForCounts m served → SameButForCounts m after
same_frame m served after e k = record { new = k.new; same = e ∙ k.same }

quiet_frame : (m : Machine) (h : ℕ) (hw : HwHart) (x : Outcome) → (attempt_of m h hw).outcome ≡ x → IsQuiet x
    → SameButForCounts (after_attempt m h (attempt_of m h hw)) (after_quiet_attempt (with_count_raised m count_turn) h (attempt_of m h hw))
quiet_frame m h hw x e quiet = record {
  new = record { counts = (after_quiet_attempt (with_count_raised m count_turn) h (attempt_of m h hw)).journal.counts; notes = m.journal.notes };
  same = refl;
}

exit_once : (m : Machine) (hw : HwHart) (exit : Exit) → asks_again m.region.ram m.rules hw (Outcome.Exit exit) ≡ false → is_again (answer_at_exit m hw exit) ≡ false
unfolding asks_again
exit_once m hw exit once = once

outcome_served : (m after : Machine) (r : State) (h : ℕ) (hw : HwHart) (hart : Hart) (x : Outcome) → MakesAttempt (with_count_raised m count_turn) (count r count_turn) h hw hart
    → (attempt_of m h hw).outcome ≡ x → asks_again m.region.ram m.rules hw x ≡ false → OutcomeServed x (with_count_raised m count_turn) h hw after
    → StandsFor after (turn (count r count_turn) h) × AfterOutcome x m h (attempt_of m h hw) after
outcome_served m after r h hw hart (Outcome.Retired wrote) makes e once served =
    let k = quiet_frame m h hw (Outcome.Retired wrote) e tt in (
      subst (λ (n : Machine). StandsFor n (turn (count r count_turn) h)) (sym served) (quiet_turn (with_count_raised m count_turn) (count r count_turn) h hw hart makes (subst IsQuiet (sym e) tt)),
      same_frame (after_attempt m h (attempt_of m h hw)) (after_quiet_attempt (with_count_raised m count_turn) h (attempt_of m h hw)) after served k,
    )
outcome_served m after r h hw hart Outcome.GuestTrap makes e once served =
    let k = quiet_frame m h hw Outcome.GuestTrap e tt in (
      subst (λ (n : Machine). StandsFor n (turn (count r count_turn) h)) (sym served) (quiet_turn (with_count_raised m count_turn) (count r count_turn) h hw hart makes (subst IsQuiet (sym e) tt)),
      same_frame (after_attempt m h (attempt_of m h hw)) (after_quiet_attempt (with_count_raised m count_turn) h (attempt_of m h hw)) after served k,
    )
outcome_served m after r h hw hart (Outcome.Exit exit) makes e once served =
    let k = served_turn (with_count_raised m count_turn) (count r count_turn) h hw hart exit served.tables makes e (exit_once m hw exit once) served.are in (
      subst (λ (n : Machine). StandsFor n (turn (count r count_turn) h)) (sym served.same) k.0,
      left_raised m after h hw (subst (λ (n : Machine). Answers (left_by (with_count_raised m count_turn) h hw) h n) (sym served.same) k.1),
    )

-- ---- one attempt, or two

pub forgets_none : (x : Outcome) (exit : Exit) (harts : List HwHart) → x ≡ Outcome.Exit exit → all_forget x harts ≡ harts
unfolding all_forget
forgets_none (Outcome.Retired wrote) exit harts e = cc
forgets_none Outcome.GuestTrap exit harts e = cc
forgets_none (Outcome.Exit other) exit harts e = refl

-- the hart that attempts again
again_there : (m : Machine) (h : ℕ) (hw : HwHart) (exit : Exit) → slice_get m.harts h ≡ Some hw → (attempt_of m h hw).outcome ≡ Outcome.Exit exit
    → slice_get (sent_again m h hw).harts h ≡ Some (hart_again m h hw)
again_there m h hw exit there left =
    get_own (left_by m h hw).harts h hw_outside (with_core (attempt_of m h hw).core hw)
    (ap (λ (l : List HwHart). slice_get l h) (forgets_none (attempt_of m h hw).outcome exit (update m.harts h (with_core (attempt_of m h hw).core)) left)
    ∙ get_own m.harts h (with_core (attempt_of m h hw).core) hw there)

makes_again : (m : Machine) (r : State) (h : ℕ) (hw : HwHart) (hart : Hart) (exit : Exit) → MakesAttempt m r h hw hart
    → (attempt_of m h hw).outcome ≡ Outcome.Exit exit → MakesAttempt (sent_again m h hw) (leave_entry r h hart) h (hart_again m h hw) (outside_entry hart)
makes_again m r h hw hart exit makes left = record {
  stands = outside_stands (left_by m h hw) r h hart (exit_turn m r h hw hart exit makes left).0 makes.hart_is;
  hw_is = again_there m h hw exit makes.hw_is left;
  hart_is = get_back r.harts h hart (outside_entry hart) makes.hart_is;
  started = makes.started;
  free = makes.free;
}

choose_once : (b : Bool) (x y : ExitAnswer) → is_again x ≡ false → is_again y ≡ false → is_again (if b then x else y) ≡ false
choose_once true x y s t = s
choose_once false x y s t = t

fetch_once : (ram : List ℕ) (mode : Mode) (exit : Exit) → is_again (fetch_answer ram mode exit) ≡ false
unfolding fetch_answer is_again
fetch_once ram User exit = refl
fetch_once ram Kernel exit = choose_once (is_implicit exit) _ _ refl (choose_once (in_ram ram (exit_gpa exit) 4) _ _ refl refl)

load_once : (exit : Exit) (effect : Option Effect) → is_again (load_answer exit effect) ≡ false
unfolding load_answer is_again
load_once exit (Some (Effect.Load rd address width signed)) = refl
load_once exit _ = refl

store_once : (exit : Exit) (effect : Option Effect) → is_again (store_answer exit effect) ≡ false
unfolding store_answer is_again
store_once exit (Some (Effect.Store address width value)) = refl
store_once exit _ = refl

write_once : (ram : List ℕ) (exit : Exit) (effect : Option Effect) → is_again (write_answer ram exit effect) ≡ false
unfolding write_answer is_again
write_once ram exit effect = choose_once (is_implicit exit) _ _ refl (choose_once (in_ram ram (exit_gpa exit) 1) _ _ refl (store_once exit effect))

virtual_once : (mode : Mode) (exit : Exit) → is_again (virtual_answer mode exit) ≡ false
unfolding virtual_answer is_again
virtual_once Kernel exit = choose_once (is_sret_word exit.stval) _ _ refl refl
virtual_once User exit = refl

answer_once : (cause : ExitCause) (seen : Seen) (exit : Exit) → is_again (answer_by cause seen exit) ≡ false
unfolding is_again
answer_once (ExitCause.Interrupt interrupt) seen exit = refl
answer_once (ExitCause.Exception Cause.GuestFetch) seen exit = fetch_once seen.ram seen.mode exit
answer_once (ExitCause.Exception Cause.GuestLoad) seen exit = load_once exit seen.effect
answer_once (ExitCause.Exception Cause.Virtual) seen exit = virtual_once seen.mode exit
answer_once (ExitCause.Exception Cause.GuestStore) seen exit = write_once seen.ram exit seen.effect
answer_once (ExitCause.Exception cause) seen exit = refl

plain_once : (seen : Seen) (exit : Exit) → is_again (plain_answer seen exit) ≡ false
unfolding plain_answer
plain_once seen exit = answer_once exit.cause seen exit

once_in : (seen : Seen) (exit : Exit) (x : Option Binding) → x ≡ None → is_again (answer_in seen exit x) ≡ false
unfolding answer_in
once_in seen exit None none = plain_once seen exit
once_in seen exit (Some entry) none = absurd (cc)

none_bound : (rules : Rules) (x : Option ℕ) → x ≡ None → bound_entry rules x ≡ None
unfolding bound_entry
none_bound rules None none = refl
none_bound rules (Some i) none = absurd (cc)

-- outside of an entry nothing is attempted again
pub once_outside : (ram : List ℕ) (rules : Rules) (hw : HwHart) (x : Outcome) → hw.entry ≡ None → asks_again ram rules hw x ≡ false
unfolding asks_again exit_answer
once_outside ram rules hw (Outcome.Retired wrote) none = refl
once_outside ram rules hw Outcome.GuestTrap none = refl
once_outside ram rules hw (Outcome.Exit exit) none =
    once_in (hw_seen ram rules hw hw.core.hregs.mode exit) exit (bound_entry rules hw.entry) (none_bound rules hw.entry none)

left_entry : (m : Machine) (h : ℕ) (hw : HwHart) → (hart_again m h hw).entry ≡ None
unfolding hw_outside
left_entry m h hw = refl

again_exit : (m : Machine) (hw : HwHart) (x : Outcome) → asks_again m.region.ram m.rules hw x ≡ true
    → (exit : Exit) × ((x ≡ Outcome.Exit exit) × (is_again (answer_at_exit m hw exit) ≡ true))
unfolding asks_again
again_exit m hw (Outcome.Retired wrote) again = cc
again_exit m hw Outcome.GuestTrap again = cc
again_exit m hw (Outcome.Exit exit) again = (exit, (refl, again))

attempts_served : (m after : Machine) (r : State) (h : ℕ) (hw : HwHart) (hart : Hart) (again : Bool) → MakesAttempt (with_count_raised m count_turn) (count r count_turn) h hw hart
    → asks_again m.region.ram m.rules hw (attempt_of m h hw).outcome ≡ again → AttemptsServed again (with_count_raised m count_turn) h hw after
    → StandsFor after (turn (count r count_turn) h) × OneOrTwo again m h hw after
attempts_served m after r h hw hart false makes once served = outcome_served m after r h hw hart (attempt_of m h hw).outcome makes refl once served
attempts_served m after r h hw hart true makes again served =
    let left = again_exit m hw (attempt_of m h hw).outcome again in
    let k = outcome_served (sent_again m h hw) after (leave_entry r h hart) h (hart_again m h hw) (outside_entry hart) (attempt_of (sent_again m h hw) h (hart_again m h hw)).outcome
    (makes_again (with_count_raised m count_turn) (count r count_turn) h hw hart left.0 makes left.1.0) refl
    (once_outside (sent_again m h hw).region.ram m.rules (hart_again m h hw) (attempt_of (sent_again m h hw) h (hart_again m h hw)).outcome (left_entry m h hw)) served in
    (subst (StandsFor after) (sym (again_turn (with_count_raised m count_turn) (count r count_turn) h hw hart left.0 makes left.1.0 left.1.1)) k.0, k.1)

pub again_law : AgainLaw
again_law m r h hw hart makes on again =
    let left = again_exit m hw (attempt_of m h hw).outcome again in (
      makes_again m r h hw hart left.0 makes left.1.0,
      running r h on
          ∙ again_turn (with_count_raised m count_turn) (count r count_turn) h hw hart left.0 (makes_raised m r h hw hart makes) left.1.0 left.1.1
          ∙ sym (running (leave_entry r h hart) h on),
    )

-- whose load it is
pub loading_by : (o : Unseen) (r : State) → (machine_of o r).loading ≡ option_map (load_kept r.rules r.ram) r.loading
unfolding machine_of
loading_by o r = refl

hart_of : (r : State) (load : Loading) (x : Option _) → (load_kept_by r.rules r.ram load x).hart ≡ load.hart
unfolding load_kept_by
hart_of r load None = refl
hart_of r load (Some rule) = refl

-- no load is, one of another hart's, or this one's
its_by : (r : State) (h : ℕ) (x : Option Loading) (b : Bool) → is_loading (option_map (load_kept r.rules r.ram) x) h ≡ b → b ≡ true → (load : Loading) × ((x ≡ Some load) × ((load.hart == h) ≡ true))
its_by r h None b e on = absurd (cc)
its_by r h (Some load) b e on = (load, (refl, ap (λ (n : ℕ). n == h) (sym (hart_of r load (slice_get r.rules.modules load.about.id))) ∙ e ∙ on))

pub not_its : (r : State) (h : ℕ) (x : Option Loading) → is_loading (option_map (load_kept r.rules r.ram) x) h ≡ false → IsNotLoading h x
not_its r h None off = tt
not_its r h (Some load) off = ap (λ (n : ℕ). n == h) (sym (hart_of r load (slice_get r.rules.modules load.about.id))) ∙ off

started_served : (m after : Machine) (r : State) (h : ℕ) (hw : HwHart) (hart : Hart) (b : Bool) → StandsFor (with_count_raised m count_turn) (count r count_turn)
    → slice_get m.harts h ≡ Some hw → slice_get r.harts h ≡ Some hart → hart.started ≡ true
    → m.loading ≡ option_map (load_kept r.rules r.ram) r.loading → is_loading m.loading h ≡ b → StartedServed b (with_count_raised m count_turn) h hw after
    → StandsFor after (turn (count r count_turn) h) × StartedTurn b m h hw after
started_served m after r h hw hart true stands hw_is hart_is on loading e served =
    let its = its_by r h r.loading true (ap (λ (x : Option HwLoad). is_loading x h) (sym loading) ∙ e) refl in
    let k = load_turn (with_count_raised m count_turn) (count r count_turn) h hart its.0 served.tables
    (record { stands = stands; hart_is = hart_is; started = on; under_way = its.1.0; its = its.1.1 }) served.are in (
      subst (λ (n : Machine). StandsFor n (turn (count r count_turn) h)) (sym served.same) k.0,
      answers_raised m after h (subst (λ (n : Machine). Answers (with_count_raised m count_turn) h n) (sym served.same) k.1),
    )
started_served m after r h hw hart false stands hw_is hart_is on loading e served =
    attempts_served m after r h hw hart (asks_again m.region.ram m.rules hw (attempt_of m h hw).outcome)
    (record {
      stands = stands;
      hw_is = hw_is;
      hart_is = hart_is;
      started = on;
      free = not_its r h r.loading (ap (λ (x : Option HwLoad). is_loading x h) (sym loading) ∙ e);
    }) refl served

-- ---- harts

hart_served : (m after : Machine) (r : State) (h : ℕ) (hw : HwHart) (hart : Hart) (b : Bool) → StandsFor (with_count_raised m count_turn) (count r count_turn)
    → slice_get m.harts h ≡ Some hw → slice_get r.harts h ≡ Some hart → hart.started ≡ b
    → m.loading ≡ option_map (load_kept r.rules r.ram) r.loading → HartServed b (with_count_raised m count_turn) h hw after
    → StandsFor after (turn (count r count_turn) h) × HartTurn b m h hw after
hart_served m after r h hw hart true stands hw_is hart_is on loading served =
    started_served m after r h hw hart (is_loading m.loading h) stands hw_is hart_is on loading refl served
hart_served m after r h hw hart false stands hw_is hart_is off loading served = (
  subst (λ (n : Machine). StandsFor n (turn (count r count_turn) h)) (sym served) (still m r h stands (turn_stopped (count r count_turn) h hart hart_is off)),
  same_frame m (with_count_raised m count_turn) after served (recorded_turn m),
)

harts_by : (o : Unseen) (r : State) → (machine_of o r).harts ≡ hw_harts (length o.tables) o.exits r.harts
unfolding machine_of
harts_by o r = refl

turned_by : (o : Unseen) (r : State) (after : Machine) (h : ℕ) (x : Option Hart) → IsRightFor o r → IsSound r → slice_get r.harts h ≡ x
    → TurnServed (with_count_raised (machine_of o r) count_turn) h (slice_get (machine_of o r).harts h) after
    → Turned (machine_of o r) r h (slice_get (machine_of o r).harts h) after
turned_by o r after h None p s e =
    let none : slice_get (machine_of o r).harts h ≡ None = ap (λ (l : List HwHart). slice_get l h) (harts_by o r) ∙ none_hw (length o.tables) o.exits r.harts h p.exits e in
    subst (λ (y : Option HwHart). TurnServed (with_count_raised (machine_of o r) count_turn) h y after → Turned (machine_of o r) r h y after) (sym none)
    (λ served. (
      subst (λ (n : Machine). StandsFor n (turn (count r count_turn) h)) (sym served) (still (machine_of o r) r h (raised_at o r p s) (turn_none (count r count_turn) h e)),
      same_frame (machine_of o r) (with_count_raised (machine_of o r) count_turn) after served (recorded_turn (machine_of o r)),
    ))
turned_by o r after h (Some hart) p s e =
    let c = hw_harts_get (length o.tables) o.exits r.harts h hart p.exits e in
    let there : slice_get (machine_of o r).harts h ≡ Some (hw_hart (length o.tables) c.0 hart) = ap (λ (l : List HwHart). slice_get l h) (harts_by o r) ∙ c.1.1 in
    subst (λ (y : Option HwHart). TurnServed (with_count_raised (machine_of o r) count_turn) h y after → Turned (machine_of o r) r h y after) (sym there)
    (λ served. hart_served (machine_of o r) after r h (hw_hart (length o.tables) c.0 hart) hart hart.started (raised_at o r p s) there e refl (loading_by o r) served)

-- ---- the law

event_of : (m after : Machine) (h : ℕ) → m.journal.verdict ≡ Running → TurnOf m h (slice_get m.harts h) after → IsEvent m (Turn h) after
unfolding IsEvent
event_of m after h on happens = subst (λ (v : Verdict). HappensUnder v m (Turn h) after) (sym on) happens

turn_at : (o : Unseen) (r : State) (after : Machine) (h : ℕ) → IsRightFor o r → IsSound r → r.journal.verdict ≡ Running → IsTurn (machine_of o r) h after
    → StandsFor after (step r (Turn h)) × IsEvent (machine_of o r) (Turn h) after
turn_at o r after h p s on served =
    let k = turned_by o r after h (slice_get r.harts h) p s refl served in
    (subst (StandsFor after) (sym (running r h on)) k.0, event_of (machine_of o r) after h (verdict_of o r ∙ on) k.1)

-- the turn of a machine that stands for a state
turn_law : (m after : Machine) (r : State) (h : ℕ) → StandsFor m r → r.journal.verdict ≡ Running → IsTurn m h after
    → StandsFor after (step r (Turn h)) × IsEvent m (Turn h) after
turn_law m after r h stands on =
    subst (λ (x : Machine). IsTurn x h after → StandsFor after (step r (Turn h)) × IsEvent x (Turn h) after) (sym stands.same)
    (turn_at stands.unseen r after h stands.unseen_is_right stands.sound on)

-- ---- every event

by_event : (m after : Machine) (r : State) (e : Event) → StandsFor m r → r.journal.verdict ≡ Running → IsNoTurn e → after ≡ event_served m e
    → StandsFor after (step r e) × IsEvent m e after
by_event m after r e stands on no_turn same =
    subst (λ (n : Machine). StandsFor n (step r e) × IsEvent m e n) (sym same) (event_law m r e stands on no_turn)

by_verdict : (m after : Machine) (r : State) (e : Event) (v : Verdict) → StandsFor m r → r.journal.verdict ≡ v → m.journal.verdict ≡ v → StepsUnder v m e after
    → StandsFor after (step r e) × IsEvent m e after
unfolding step happen_under IsEvent
by_verdict m after r (Turn h) Running stands on same steps = turn_law m after r h stands on steps
by_verdict m after r Beat Running stands on same steps = by_event m after r Beat stands on tt steps
by_verdict m after r (Key byte) Running stands on same steps = by_event m after r (Key byte) stands on tt steps
by_verdict m after r (Tick n) Running stands on same steps = by_event m after r (Tick n) stands on tt steps
by_verdict m after r (Poke gpa value) Running stands on same steps = by_event m after r (Poke gpa value) stands on tt steps
by_verdict m after r e Shutdown stands on same steps = (
  subst (λ (v : Verdict). StandsFor after (happen_under v r e)) (sym on) (subst (λ (n : Machine). StandsFor n r) (sym steps) stands),
  subst (λ (v : Verdict). HappensUnder v m e after) (sym same) steps,
)
by_verdict m after r e (Stopped rule hart at) stands on same steps = (
  subst (λ (v : Verdict). StandsFor after (happen_under v r e)) (sym on) (subst (λ (n : Machine). StandsFor n r) (sym steps) stands),
  subst (λ (v : Verdict). HappensUnder v m e after) (sym same) steps,
)

pub step_law : StepLaw
unfolding IsStep
step_law m after r e stands steps =
    let same : m.journal.verdict ≡ r.journal.verdict = ap (λ (x : Machine). x.journal.verdict) stands.same ∙ verdict_of stands.unseen r in
    by_verdict m after r e r.journal.verdict stands refl same (subst (λ (v : Verdict). StepsUnder v m e after) same steps)
