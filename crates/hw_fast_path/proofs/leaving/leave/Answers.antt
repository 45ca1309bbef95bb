use Rattle.std.proofs.Common.{◌∙◌, ap, arith, subst, sym}
use Rattle.spec_processor.specs.Hardware.{Attempted}
use Rattle.spec_processor.specs.HardwareAttempt.{after_word}
use Rattle.hart.specs.Cores.{core_of}
use Rattle.hw_fast_path.specs.Batches.{LeavesBy}
use Rattle.hw_fast_path.proofs.Going.{attempt_at}
use Rattle.hw_fast_path.proofs.leaving.leave.Goals as goal

pub returns-clause-comes : goal.returns-clause-comes
returns-clause-comes c = λ lines none.
    subst (λ (a : Attempted). LeavesBy c.leave_by.result a c.args.mem.now (core_of c.args.core.now c.args.regs.now) (core_of c.leave_by.new.core c.args.regs.now))
    (ap (after_word c.args.mem.now (core_of c.args.core.now c.args.regs.now) lines) c.word-word.ensures
    ∙ sym (attempt_at c.args.mem.now (core_of c.args.core.now c.args.regs.now) lines c.args.window.page c.args.window.host none (omega arith)
    (omega (arith, c.if-core-window.false)) c.requires.leads))
    (c.leave_by.ensures.comes c.args.mem.now lines)
