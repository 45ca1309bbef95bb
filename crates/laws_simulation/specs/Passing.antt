-- A survey of a run: a turn that would stop the machine at a write passes over the instruction instead, and the machine goes on.
-- This project's own.
use Rattle.std.specs.Prelude.{ℕ, List, [], ◌∷◌, Option, Some, None, slice_get}
use Rattle.sv_types.specs.declared.event.Event.{Event}
use Rattle.sv_types.specs.declared.event.Rule.TheVariants.{Entry, Write}
use Rattle.sv_types.specs.declared.event.Verdict.{Verdict}
use Rattle.sv_types.specs.declared.event.Verdict.TheVariants.{Running, Shutdown, Stopped}
use Rattle.spec_reference.specs.Counting.{machine_ended}
use Rattle.spec_reference.specs.Requests.{at_next_instruction}
use Rattle.spec_reference.specs.Run.{step}
use Rattle.spec_reference.specs.States.{State, Hart, with_hart, with_journal}

-- the hart moves on to its next instruction, and the machine runs; no byte, register, reservation or count changes
unfoldable pub moved_on : State → ℕ → Option Hart → State
moved_on r h None = r
moved_on r h (Some hart) = with_journal (with_hart r h (at_next_instruction hart)) (machine_ended Running r.journal)

-- only the hart that a write stopped moves on
unfoldable pub passed_under : Verdict → State → State
passed_under Running r = r
passed_under Shutdown r = r
passed_under (Stopped (Entry target) h turn) r = r
passed_under (Stopped (Write pc gpa) h turn) r = moved_on r h (slice_get r.harts h)

-- the state after a turn, with the instruction passed over where it would have stopped the machine at a write
unfoldable pub passed_over : State → State
passed_over r = passed_under r.journal.verdict r

-- ---- the events of a survey

abbrev pub survey_step : State → Event → State
survey_step r event = passed_over (step r event)

abbrev pub survey : State → List Event → State
survey r [] = r
survey r (event ∷ events) = survey (survey_step r event) events
