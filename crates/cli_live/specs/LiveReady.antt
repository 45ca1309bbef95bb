-- What is made ready of `live`, before anything is written.
use Rattle.std.specs.Prelude.{◌≡◌, ◌≤◌, ℕ, List, [], Option, Some, Result, Ok, Err}
use Rattle.sv_types.specs.Limits.{max_events}
use Rattle.sv_types.specs.Schedule.{first_events}
use Rattle.spec_reference.specs.States.{State}
use Rattle.spec_hardware.specs.Reaches.{IsNew}
use Rattle.host_io.specs.Outside.{FilesState}
use Rattle.cli_live.specs.LiveRuns.{harts_of, IsUnderWay}
use Rattle.cli_plans.specs.declared.refusal.Refusal.{Refusal}
use Rattle.secvisor_cli.specs.declared.ready.Stop.{Stop}
use Rattle.secvisor_cli.specs.Ready.{Prepares}
use Rattle.cli_plans.specs.Plans.{RunFrom, Plan}
use Rattle.cli_plans.specs.Reading.{Follows}
use Rattle.cli_plans.specs.CommandLine.{LiveWords}
use Rattle.cli_live.specs.declared.ready.LiveReady.{LiveReady}

-- a live run that has made no event, with a line that has carried no key
pub record IsLiveFresh (ready : LiveReady) : Type 0 where
  pub way : IsUnderWay ready.live
  pub keys : ready.live.journal.keys.items ≡ []
  pub autos : ready.live.journal.autos ≡ 0
  pub harts : harts_of ready.live.script ≡ ready.live.machine.rules.harts
  pub console : ready.live.machine.journal.printed ≡ []
  pub events : ready.live.events ≤ max_events
  pub line : ready.live.taker.line ≡ ready.source.line
  pub feeder : (ready.source.feeder.line ≡ ready.source.line) × (ready.source.feeder.bytes ≡ [])

-- a live run that is ready, and its run, which is due
pub record BeginsLive (plan : Plan) (old new : FilesState) (ready : LiveReady) : Type 0 where
  pub start : State
  pub save : Option (List ℕ)
  pub follows : Follows plan old new (Some (RunFrom start (first_events ready.live.events ready.live.script) save))
  pub is_new : IsNew ready.live.machine start
  pub fresh : IsLiveFresh ready

abbrev pub PreparesLive : Plan → FilesState → FilesState → Result LiveReady Stop → Type 0
PreparesLive plan old new (Ok ready) = BeginsLive plan old new ready
PreparesLive plan old new (Err stop) = Prepares plan old new (Err stop)

-- the name that the script is saved under
abbrev pub out_of : Result LiveWords Refusal → List ℕ
out_of (Ok words) = words.out
out_of (Err refusal) = []
