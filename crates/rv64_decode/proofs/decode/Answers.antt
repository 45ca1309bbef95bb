use Rattle.std.proofs.Common.{sym, subst, IsTrue}
use Rattle.std.specs.Prelude.{IfSome, Option}
use Rattle.spec_processor.specs.declared.instruction.Instr.{Instr}
use Rattle.spec_processor.specs.Encoding.{fits}
use Rattle.laws_processor.proofs.Fitting.{instruction-fits}
use Rattle.rv64_decode.proofs.decode.Goals as goal

pub returns : goal.returns
returns c = record {
  instruction = c.by_opcode.ensures;
  fields = subst (λ (o : Option Instr). IfSome o (λ instr. IsTrue (fits instr))) (sym c.by_opcode.ensures) (instruction-fits c.args.word);
}
