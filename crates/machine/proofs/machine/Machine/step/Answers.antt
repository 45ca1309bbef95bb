use Rattle.std.proofs.Common.{◌≡◌, arith}
use Rattle.machine.proofs.Repeated.{repeats_once}
use Rattle.machine.proofs.machine.Machine.step.Goals as goal

pub returns-clause-stands : goal.returns-clause-stands
returns-clause-stands c =
    let one : c.repeat-once.result ≡ 1 = omega (arith, c.repeat-once.ensures.some, c.repeat-once.ensures.most) in
    (repeats_once c.repeat-once.result c.args.self.now c.repeat-once.new.self c.args.event one c.repeat-once.ensures.chain).stands

pub returns-clause-event : goal.returns-clause-event
returns-clause-event c =
    let one : c.repeat-once.result ≡ 1 = omega (arith, c.repeat-once.ensures.some, c.repeat-once.ensures.most) in
    (repeats_once c.repeat-once.result c.args.self.now c.repeat-once.new.self c.args.event one c.repeat-once.ensures.chain).event
