-- What is made ready of `snap` or `vsnap`, before anything is written.
use Rattle.std.specs.Prelude.{ℕ, List, [], Result, Ok, Err}
use Rattle.spec_reference.specs.States.{State}
use Rattle.spec_hardware.specs.Machine.{Machine}
use Rattle.spec_hardware.specs.Reaches.{IsNew}
use Rattle.host_io.specs.Outside.{FilesState}
use Rattle.cli_plans.specs.declared.refusal.Refusal.{Refusal}
use Rattle.cli_plans.specs.CommandLine.{SnapWords}
use Rattle.cli_plans.specs.Plans.{Plan}
use Rattle.secvisor_cli.specs.Ready.{Prepares, run_ready}
use Rattle.secvisor_cli.specs.declared.ready.PreparedRun.{PreparedRun}
use Rattle.secvisor_cli.specs.declared.ready.Stop.{Stop}

-- a machine that has just started
pub record HasStarted (m : Machine) : Type 0 where
  pub start : State
  pub new : IsNew m start

-- the name that the snapshot is saved under
abbrev pub out_of : Result SnapWords Refusal → List ℕ
out_of (Ok words) = words.out
out_of (Err refusal) = []

-- a machine is ready, and its run is due
abbrev pub Boots : Plan → FilesState → FilesState → Result PreparedRun Stop → Type 0
Boots plan old new result = Prepares plan old new (run_ready result)
