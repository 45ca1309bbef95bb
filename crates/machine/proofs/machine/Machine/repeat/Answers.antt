use Rattle.machine.proofs.Repeated.{repeats_stand, rows_repeat}
use Rattle.machine.proofs.machine.Machine.repeat.Goals as goal

pub returns-then-count-eq1-clause-stands : goal.returns-then-count-eq1-clause-stands
returns-then-count-eq1-clause-stands c =
    repeats_stand c.one.result c.args.self.now c.one.new.self c.args.event
    (rows_repeat c.one.result c.args.self.now c.one.new.self c.args.event c.one.ensures.chain)

pub returns-then-count-eq1-clause-chain : goal.returns-then-count-eq1-clause-chain
returns-then-count-eq1-clause-chain c = rows_repeat c.one.result c.args.self.now c.one.new.self c.args.event c.one.ensures.chain
