-- A machine's survey with its console, while it goes on. This project's own.
use Rattle.std.specs.Prelude.{◌≡◌, ℕ, List, [], ◌∷◌, ◌++◌, length, nat_lt, Bool, true, false, ◌&&◌, not, is_some, None, Result, Ok, Err}
use Rattle.sv_types.specs.Limits.{max_notes}
use Rattle.sv_types.specs.declared.event.Event.{Event}
use Rattle.sv_types.specs.declared.event.Event.TheVariants.{Turn, Beat, Key, Tick, Poke}
use Rattle.sv_types.specs.declared.event.Verdict.{Verdict}
use Rattle.sv_types.specs.declared.event.Verdict.TheVariants.{Running, Shutdown, Stopped}
use Rattle.spec_reference.specs.States.{State}
use Rattle.spec_reference.specs.Start.{IsStart}
use Rattle.spec_hardware.specs.Machine.{Machine}
use Rattle.spec_hardware.specs.Reaches.{IsNew}
use Rattle.laws_simulation.specs.Passing.{passed_over, survey}
use Rattle.laws_simulation.specs.Passes.{Pass, pass_of, passes}
use Rattle.laws_simulation.specs.SurveyLaws.{IsNoWrite}
use Rattle.host_io.specs.Outside.{SinkState, after_taking, BreaksOff}
use Rattle.host_io.specs.declared.trouble.Trouble.{Trouble}
use Rattle.host_io.specs.declared.trouble.Trouble.TheVariants.{Write, Memory}
use Rattle.machine.specs.Console.{MayRun}
use Rattle.machine.specs.Standing.{Stands}
use Rattle.report.specs.Findings.{PassedWrites, no_loads, no_writes, with_write}
use Rattle.report.specs.Views.{loads_view, writes_view}
use Rattle.report.specs.declared.findings.findings.Occurrence.{Occurrence}
use Rattle.report.specs.declared.findings.found.Found.{Found}
use Rattle.cli_survey.specs.Noted.{Tells, noted}
use Rattle.cli_survey.specs.Refusals.{loads_in}

-- ---- what was passed over

abbrev pub occurrence_of : Pass → Occurrence
occurrence_of p = record { key = p.pc; address = p.gpa; hart = p.hart; turn = p.turn }

abbrev pub with_passes : PassedWrites → List Pass → PassedWrites
with_passes w [] = w
with_passes w (p ∷ ps) = with_passes (with_write w (occurrence_of p)) ps

-- the writes that a survey of these events passes over
abbrev pub writes_in : State → List Event → PassedWrites
writes_in start events = with_passes no_writes (passes start events)

abbrev pub is_running : Verdict → Bool
is_running Running = true
is_running Shutdown = false
is_running (Stopped rule h turn) = false

-- the machine would keep one note more
abbrev pub has_room : Machine → Bool
has_room m = nat_lt (length m.journal.notes) max_notes

-- the machine runs, and no load is under way
abbrev pub is_clear : Machine → Bool
is_clear m = is_running m.journal.verdict && not (is_some m.loading)

-- an event is a hart's turn: no other prints, ends the run or begins a load
abbrev pub is_turn : Event → Bool
is_turn (Turn hart) = true
is_turn Beat = false
is_turn (Key byte) = false
is_turn (Tick n) = false
is_turn (Poke gpa value) = false

-- ---- a survey so far

-- The machine stands where the survey is after these events, but for console bytes that the sink took, the writes are those that
-- it passed over, the loads those that it saw refused, and all its notes are told.
pub record HasSurveyed (start : State) (done : List Event) (machine : Machine) (found : Found) (old new : SinkState) : Type 0 where
  pub cleared : List ℕ
  pub stands : Stands machine cleared (survey start done)
  pub writes_are : writes_view found.writes ≡ writes_in start done
  pub loads_are : loads_view found.loads ≡ loads_in start done
  pub told : Tells found.noted machine.journal.notes (noted start done)
  pub taken : new ≡ after_taking old cleared

-- The same in front of a pass, with the events that are left: a write that stopped the machine in the last of the events that were
-- made is still to be passed over, and to be kept.
pub record SurveysUp (start : State) (all left : List Event) (machine : Machine) (found : Found) (old new : SinkState) : Type 0 where
  pub done : List Event
  pub split : done ++ left ≡ all
  -- the state before the pass
  pub before : State
  pub passed : survey start done ≡ passed_over before
  pub cleared : List ℕ
  pub stands : Stands machine cleared before
  pub writes_are : with_passes (writes_view found.writes) (pass_of before.journal.verdict) ≡ writes_in start done
  pub loads_are : loads_view found.loads ≡ loads_in start done
  pub told : Tells found.noted machine.journal.notes (noted start done)
  pub taken : new ≡ after_taking old cleared
  -- no write stopped the machine that isn't passed over
  pub calm : IsNoWrite (survey start done).journal.verdict

-- the machine stands where the survey is after some of these events, and console bytes were taken before
pub record StandsAmong (start : State) (events : List Event) (machine : Machine) : Type 0 where
  pub done : List Event
  pub left : List Event
  pub split : done ++ left ≡ events
  pub cleared : List ℕ
  pub stands : Stands machine cleared (survey start done)

-- a write of the console failed after some of these events
pub record SurveyBroke (start : State) (events : List Event) (machine : Machine) (old new : SinkState) : Type 0 where
  pub among : StandsAmong start events machine
  pub broke : BreaksOff (after_taking old among.cleared) new machine.journal.printed

-- memory ran out after some of these events, and nothing was written since then
pub record SurveyWants (start : State) (events : List Event) (machine : Machine) (old new : SinkState) : Type 0 where
  pub among : StandsAmong start events machine
  pub taken : new ≡ after_taking old among.cleared

abbrev pub Surveyed : State → List Event → Machine → Found → SinkState → SinkState → Result (Unit {0}) Trouble → Type 0
Surveyed start events machine found old new (Ok _) = HasSurveyed start events machine found old new
Surveyed start events machine found old new (Err Write) = SurveyBroke start events machine old new
Surveyed start events machine found old new (Err Memory) = SurveyWants start events machine old new

-- from every start that the first machine is new for
abbrev pub SurveyedFromStart : Machine → List Event → Machine → Found → SinkState → SinkState → Result (Unit {0}) Trouble → Type 0
SurveyedFromStart first events machine found old new result =
    (start : State) → IsNew first start → IsStart start → Surveyed start events machine found old new result

-- a running machine may be surveyed over so many events, and nothing was found yet
pub record MaySurvey (machine : Machine) (events : ℕ) (found : Found) (to : SinkState) : Type 0 where
  pub run : MayRun machine events to
  pub running : machine.journal.verdict ≡ Running
  pub none : writes_view found.writes ≡ no_writes
  pub none_refused : loads_view found.loads ≡ no_loads
  pub none_noted : found.noted ≡ None
  pub no_notes : machine.journal.notes ≡ []
