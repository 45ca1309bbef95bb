use Rattle.std.proofs.Common.{◌+◌}
use Rattle.sv_types.specs.Schedule.{first_events}
use Rattle.script.proofs.EventRuns.{in_two}
use Rattle.machine.proofs.drawing.Drawing.count_down.Goals as goal

pub returns-clause-left : goal.returns-clause-left
returns-clause-left g c =
    let old = c.args.self.now in
    in_two c.args.count old.batch.count old.batch.event (first_events old.undrawn (g.S.EventSource.schedule old.source)) c.requires

pub returns-clause-further : goal.returns-clause-further
returns-clause-further g c = λ later.
    let old = c.args.self.now in
    in_two c.args.count old.batch.count old.batch.event (first_events (old.undrawn + later) (g.S.EventSource.schedule old.source)) c.requires
