use Rattle.std.proofs.Common.{arith}
use Rattle.std.proofs.lemmas.Grind.{common_steps}
use Rattle.guest_gen.proofs.FieldBytes.{length_code}
use Rattle.guest_gen.proofs.fields.push_code.Goals as goal

pub returns-clause-bytes : goal.returns-clause-bytes
returns-clause-bytes c =
    let size = length_code c.args.text.now in
    grind (arith, common_steps, size, c.loop-instr.invariant)
