use Rattle.std.proofs.Common.{◌∙◌}
use Rattle.sv39_walk.proofs.Steps.{guest_inside, guest_beyond}
use Rattle.sv39_walk.proofs.g_stage.find_mapping.Goals as goal

pub returns-then-gpa-eq0-clause-value : goal.returns-then-gpa-eq0-clause-value
returns-then-gpa-eq0-clause-value g c = λ access.
    guest_inside c.args.mem.now c.args.hgatp c.args.gpa c.root_table.result access c.if-gpa-eq0.true c.root_table.ensures.value ∙ c.walk_levels.ensures.value access

pub returns-else-gpa-eq0-clause-value : goal.returns-else-gpa-eq0-clause-value
returns-else-gpa-eq0-clause-value g c = λ access. guest_beyond c.args.mem.now c.args.hgatp c.args.gpa access c.if-gpa-eq0.false
