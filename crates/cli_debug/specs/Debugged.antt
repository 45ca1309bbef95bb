-- When a machine that is debugged stands where a run is. This project's own.
use Rattle.std.specs.Prelude.{◌≡◌, ◌≤◌, ℕ, List, ◌++◌, length, drop}
use Rattle.sv_types.specs.Schedule.{Schedule, first_events}
use Rattle.sv_types.specs.declared.event.Event.{Event}
use Rattle.spec_reference.specs.States.{State}
use Rattle.spec_hardware.specs.Machine.{Machine}
use Rattle.laws_resume.specs.Continues.{Alike}
use Rattle.laws_resume.specs.TextPages.{digested_text}
use Rattle.machine.specs.Standing.{Stands}
use Rattle.debug_session.specs.Runs.{Run, state}
use Rattle.cli_debug.specs.Keeping.{IsMeasuredStart}
use Rattle.cli_debug.specs.Shelves.{AreKept}
use Rattle.cli_debug.specs.Upcoming.{upcoming}
use Rattle.cli_debug.specs.declared.target.debugged.DebuggedMachine.{DebuggedMachine}

-- a machine stands for a state that nothing tells apart from this one but bytes that were printed before it went on; these bytes,
-- and those that were taken from it since, are the console's
pub record StandsIn (m : Machine) (console : List ℕ) (r : State) : Type 0 where
  pub front : List ℕ
  pub rest : List ℕ
  pub like : State
  pub alike : Alike front r like
  pub here : Stands m rest like
  pub console_is : console ≡ front ++ rest

-- it began where the run begins, stands in its state with all that the console printed, and has its other events before it; and
-- what it keeps are states of the run
pub record StandsAt {B : Type 0} (kernel : B → List ℕ) (start : B → State) (schedule : B → Schedule) (t : DebuggedMachine B) (run : Run) : Type 0 where
  pub kernel_is : run.kernel ≡ kernel t.beginning
  pub starts : run.start ≡ start t.beginning
  pub events_are : run.events ≡ first_events t.events (schedule t.beginning)
  pub made_are : run.made ≡ t.made
  pub within : run.made ≤ length run.events
  pub here : StandsIn t.machine t.console.items (state run)
  pub left_are : upcoming t.next t.left t.script ≡ drop run.made run.events
  pub measured : IsMeasuredStart run.start
  pub text_is : t.text.items ≡ digested_text run.start
  pub kept : AreKept run.start run.events t.shelf

-- a run before its first event
abbrev pub run_from : (kernel : List ℕ) → State → List Event → Run
run_from kernel start events = record { kernel = kernel; start = start; events = events; made = 0 }
