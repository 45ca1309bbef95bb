use Rattle.std.proofs.Common.{sym, subst}
use Rattle.spec_processor.specs.Hardware.{Attempted}
use Rattle.hart.specs.Cores.{core_of}
use Rattle.hw_fast_path.specs.Quick.{Comes}
use Rattle.hw_fast_path.proofs.Flats.{word_carried}
use Rattle.hw_fast_path.proofs.requests.carry_out_held.Goals as goal

pub returns-in-Some-clause-comes : goal.returns-in-Some-clause-comes
returns-in-Some-clause-comes c = λ lines.
    subst (λ (a : Attempted). Comes c.apply_held.result a c.args.mem.now c.apply_held.new.mem (core_of c.args.core.now c.args.regs.now) (core_of c.apply_held.new.core c.args.regs.now))
    (sym (word_carried c.args.mem.now (core_of c.args.core.now c.args.regs.now) lines c.args.micro_op.now.word c.in-Some.effect c.in-Some.ensures.effect))
    (c.apply_held.ensures.comes lines c.args.micro_op.now.word)
