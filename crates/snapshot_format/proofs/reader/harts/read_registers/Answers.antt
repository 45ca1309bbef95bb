use Rattle.std.proofs.Common.{◌+◌, [], ◌∙◌, arith}
use Rattle.std.proofs.lemmas.List.{take-set-le, length-set}
use Rattle.snapshot_format.specs.Forms.{all_taken, number}
use Rattle.snapshot_format.specs.HartForms.{registers}
use Rattle.snapshot_format.proofs.ReadLists.{gives_refusal, ends}
use Rattle.snapshot_format.proofs.ReadRegisters.{registers_up_to, register_read, registers_done}
use Rattle.snapshot_format.proofs.reader.harts.read_registers.Goals as goal

pub registers-preserved : goal.registers-preserved
registers-preserved c =
    let here = c.registers.invariant in
    record {
      so_far = register_read c.registers.i c.in_ok-value.value c.registers.registers c.registers.rest.now c.in_ok-value.after.now
          (all_taken (λ before. number) [] 31 c.args.bytes.now) c.registers-test.true here.size c.in_ok-value.ensures here.so_far;
      zero = take-set-le 1 c.registers.registers (c.registers.i + 1) c.in_ok-value.value (omega arith) ∙ here.zero;
      size = length-set c.registers.registers (c.registers.i + 1) c.in_ok-value.value ∙ here.size;
    }

pub returns-in_err-value-clause-values : goal.returns-in_err-value-clause-values
unfolding registers
returns-in_err-value-clause-values c =
    gives_refusal _ c.from_residual.result c.in_err-value.field-0.0 _ c.from_residual.ensures.1
    (ends (λ before. number) c.in_err-value.field-0.0 (registers_up_to c.registers.i c.registers.registers) 31 c.registers.i c.registers.rest.now
    (all_taken (λ before. number) [] 31 c.args.bytes.now) c.registers-test.true c.in_err-value.ensures c.registers.invariant.so_far)

pub returns-clause-values : goal.returns-clause-values
unfolding registers
returns-clause-values c =
    registers_done c.registers.i c.registers.registers c.registers.rest.now (all_taken (λ before. number) [] 31 c.args.bytes.now) c.registers-test.false c.registers.invariant.size
    c.registers.invariant.so_far
