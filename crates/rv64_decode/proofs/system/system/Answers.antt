use Rattle.std.proofs.Common.{sym, ◌∙◌, refl, arith}
use Rattle.spec_processor.specs.Instructions as table
use Rattle.spec_processor.specs.Instructions.{rows}
use Rattle.spec_processor.specs.declared.instruction.CsrOp.TheVariants as Csr
use Rattle.rv64_decode.proofs.FoundRows.{row_funct3}
use Rattle.rv64_decode.proofs.system.system.Goals as goal
use Rattle.rv64_decode.proofs.system.system.Goals.{in-1, in-2, in-3, in-5, in-6, in_default}

pub returns : goal.returns
unfolding rows
returns c = elim c.match-funct3.branch [
  | in-1 w ↦ row_funct3 c.args.word table.csr Csr.Csrrw c.match-funct3.op c.csr.result c.csr.ensures w.op-is 0x73 1 c.requires (sym c.funct3.ensures.value ∙ w.in-1.is) refl
  | in-2 w ↦ row_funct3 c.args.word table.csr Csr.Csrrs c.match-funct3.op c.csr.result c.csr.ensures w.op-is 0x73 2 c.requires (sym c.funct3.ensures.value ∙ w.in-2.is) refl
  | in-3 w ↦ row_funct3 c.args.word table.csr Csr.Csrrc c.match-funct3.op c.csr.result c.csr.ensures w.op-is 0x73 3 c.requires (sym c.funct3.ensures.value ∙ w.in-3.is) refl
  | in-5 w ↦ row_funct3 c.args.word table.csr Csr.Csrrwi c.match-funct3.op c.csr.result c.csr.ensures w.op-is 0x73 5 c.requires (sym c.funct3.ensures.value ∙ w.in-5.is) refl
  | in-6 w ↦ row_funct3 c.args.word table.csr Csr.Csrrsi c.match-funct3.op c.csr.result c.csr.ensures w.op-is 0x73 6 c.requires (sym c.funct3.ensures.value ∙ w.in-6.is) refl
  | in_default w ↦ row_funct3 c.args.word table.csr Csr.Csrrci c.match-funct3.op c.csr.result c.csr.ensures w.op-is 0x73 7 c.requires (omega arith) refl
]
