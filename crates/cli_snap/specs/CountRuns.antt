-- How high a run raises the counts. This project's own.
use Rattle.std.specs.Prelude.{ℕ, ◌+◌, List}
use Rattle.sv_types.specs.declared.event.Event.{Event}
use Rattle.spec_reference.specs.Counting.{CountsAtMost}
use Rattle.spec_reference.specs.Run.{run}
use Rattle.spec_reference.specs.States.{State}
use Rattle.laws_resume.specs.Continues.{draw_count}

abbrev pub CountsLaw : Type 0
CountsLaw = (s : State) (events : List Event) (n : ℕ) → CountsAtMost n s.journal.counts → CountsAtMost (n + draw_count s events) (run s events).journal.counts
