use Rattle.laws_resume.proofs.StartsStand.{flat_start_law}
use Rattle.machine.proofs.start.flat.Goals as goal

pub returns-clause-new : goal.returns-clause-new
returns-clause-new g c =
    flat_start_law c.in_ok-assemble.field-0 c.args.pages.now c.args.wanted c.requires.size c.in_ok-assemble.ensures.guarded c.in_ok-assemble.ensures.start
