use Rattle.hart.specs.Cores.{core_of}
use Rattle.hw_fast_path.proofs.Going.{attempt_of}
use Rattle.hw_fast_path.proofs.window.word_at_pc.Goals as goal

pub returns-in-Some-clause-fetched : goal.returns-in-Some-clause-fetched
returns-in-Some-clause-fetched c = λ lines none.
    attempt_of c.args.mem.now (core_of c.args.core.now c.args.regs.now) lines c.in-Some.hpa c.read.result none (c.in-Some.ensures.value 0) c.read.ensures.value
