use Rattle.std.proofs.Common.{length, arith}
use Rattle.std.specs.Prelude.{◌==◌}
use Rattle.std.proofs.lemmas.Bool.{eq-eqb}
use Rattle.snapshot_format.specs.Typed.{are_words}
use Rattle.snapshot_format.proofs.FormLaws.{both_true}
use Rattle.snapshot_format.proofs.WrittenLists.{words_in}
use Rattle.snapshot_format.proofs.writer.harts.write_registers.Goals as goal

pub returns-clause-typed : goal.returns-clause-typed
returns-clause-typed c =
    let registers = c.args.register_file.now in
    both_true (length registers == 32) (are_words registers) (eq-eqb (length registers) 32 c.told-register_file) (words_in registers (λ i. omega (arith, c.fits-register_file i)))
