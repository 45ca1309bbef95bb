use Rattle.std.proofs.Common.{◌≡◌, sym, ◌∙◌, ap}
use Rattle.sv_types.specs.Schedule.{first_events}
use Rattle.cli_debug.proofs.Turning.{turns_of_run}
use Rattle.cli_debug.proofs.target.debugged.DebuggedMachineTarget.last_turn.Goals as goal

pub returns : goal.returns
returns g c = λ run at.
    let events : first_events c.args.self.now.events c.in_ok-script.script ≡ run.events = ap (first_events c.args.self.now.events) c.in_ok-script.ensures ∙ sym at.events_are in
    turns_of_run c.last_turn_in.result run c.args.hart c.args.self.now.made _ events at.made_are at.within c.last_turn_in.ensures
