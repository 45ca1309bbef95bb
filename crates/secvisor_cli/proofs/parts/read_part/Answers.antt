use Rattle.std.proofs.Common.{refl, subst, Err}
use Rattle.host_io.specs.declared.FileRefusal.{FileRefusal}
use Rattle.host_io.specs.Outside.{ReadLeaves, ReadTells}
use Rattle.cli_plans.specs.Plans.{Longer}
use Rattle.secvisor_cli.proofs.parts.read_part.Goals as goal

pub returns-in-Ok : goal.returns-in-Ok
returns-in-Ok g c = (c.in-Ok.ensures.tells.0, c.in-Ok.ensures.tells.1, c.in-Ok.ensures.leaves)

pub returns-in-Err-TooLong : goal.returns-in-Err-TooLong
returns-in-Err-TooLong g c =
    let old = g.F.Files.state c.args.files.now in
    let name = c.args.name.now in
    let is = c.in-Err-TooLong.field-0-is in (
      Longer,
      (
        subst (λ (r : FileRefusal). ReadTells old name c.args.limit (Err r)) is c.in-Err-TooLong.ensures.tells,
        subst (λ (r : FileRefusal). ReadLeaves old (g.F.Files.state c.read.new.self) name c.args.limit (Err r)) is c.in-Err-TooLong.ensures.leaves,
      ),
      refl,
    )

pub returns-in-Err-Memory : goal.returns-in-Err-Memory
returns-in-Err-Memory g c =
    subst (λ (r : FileRefusal). ReadLeaves (g.F.Files.state c.args.files.now) (g.F.Files.state c.read.new.self) c.args.name.now c.args.limit (Err r))
    c.in-Err-Memory.field-0-is c.in-Err-Memory.ensures.leaves
