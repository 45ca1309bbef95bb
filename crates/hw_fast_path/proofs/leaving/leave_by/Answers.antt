use Rattle.std.proofs.Common.{◌≡◌, ◌∙◌, ap, sym, arith}
use Rattle.spec_processor.specs.Bits.{bit}
use Rattle.spec_processor.specs.Instructions.{ecall_word, sret_word}
use Rattle.hw_fast_path.proofs.Exits.{calls, returns}
use Rattle.hw_fast_path.proofs.leaving.leave_by.Goals as goal

pub returns-else-word-ne-ECALL-clause-comes : goal.returns-else-word-ne-ECALL-clause-comes
returns-else-word-ne-ECALL-clause-comes c = λ r lines.
    let is : c.args.word ≡ ecall_word = omega (arith, c.if-word-ne-ECALL.false) in
    calls r c.args.core.now c.note_exit.new.core c.args.regs.now lines c.args.word is c.in-User.is (c.requires.ready.mode.exceptions c.in-User.is) c.note_exit.ensures

pub returns-else-has_bit-clause-comes : goal.returns-else-has_bit-clause-comes
returns-else-has_bit-clause-comes c = λ r lines.
    let is : c.args.word ≡ sret_word = omega (arith, c.if-word-ne-SRET.false) in
    returns r c.args.core.now c.note_exit-in-Kernel.new.core c.args.regs.now lines c.args.word c.from.result is c.from.ensures c.in-Kernel.is
    c.requires.ready.mode.returns (ap (bit c.args.regs.now.hedeleg) (sym c.number.ensures) ∙ sym c.has_bit.ensures ∙ c.if-has_bit.false) c.note_exit-in-Kernel.ensures
