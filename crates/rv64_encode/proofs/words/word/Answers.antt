-- The field of 12 bits of a computation with an immediate: one of immediate and count is 0.
use Rattle.std.proofs.Common.{◌≡◌, subst, true, rules, FitsSigned, w64}
use Rattle.std.proofs.lemmas.Int.{to_z-of_z}
use Rattle.spec_processor.specs.declared.instruction.Instr.{Instr}
use Rattle.spec_processor.specs.Encoding.{fits}
use Rattle.laws_processor.proofs.WordDecodes.{field-below, field_32-below}
use Rattle.rv64_encode.proofs.words.word.Goals as goal

pub i_word-requires-in-OpImm-clause-field : goal.i_word-requires-in-OpImm-clause-field
i_word-requires-in-OpImm-clause-field c =
    let inside : fits (Instr.OpImm c.in-OpImm.op c.in-OpImm.rd c.in-OpImm.rs1 c.in-OpImm.imm c.in-OpImm.shamt) ≡ true =
    subst (λ (i : Instr). fits i ≡ true) c.in-OpImm.is c.requires in
    let below = field-below c.in-OpImm.op c.in-OpImm.rd c.in-OpImm.rs1 c.in-OpImm.imm c.in-OpImm.shamt inside in
    let whole : FitsSigned w64 c.in-OpImm.imm = search rules in
    rw (c.field-in-OpImm.ensures.value, to_z-of_z w64 c.in-OpImm.imm whole, c.from.ensures, c.arithmetic_bit.ensures.value) below

pub i_word-requires-in-OpImm32-clause-field : goal.i_word-requires-in-OpImm32-clause-field
i_word-requires-in-OpImm32-clause-field c =
    let inside : fits (Instr.OpImm32 c.in-OpImm32.op c.in-OpImm32.rd c.in-OpImm32.rs1 c.in-OpImm32.imm c.in-OpImm32.shamt) ≡ true =
    subst (λ (i : Instr). fits i ≡ true) c.in-OpImm32.is c.requires in
    let below = field_32-below c.in-OpImm32.op c.in-OpImm32.rd c.in-OpImm32.rs1 c.in-OpImm32.imm c.in-OpImm32.shamt inside in
    let whole : FitsSigned w64 c.in-OpImm32.imm = search rules in
    rw (c.field-in-OpImm32.ensures.value, to_z-of_z w64 c.in-OpImm32.imm whole, c.from-in-OpImm32.ensures, c.arithmetic_bit_32.ensures.value) below
