use Rattle.std.proofs.Common.{arith}
use Rattle.std.proofs.lemmas.Bool.Decides.{nat_tests}
use Rattle.policy.proofs.Lengths.{export_of_others}
use Rattle.policy.proofs.entries.export_of_items.Goals as goal
use Rattle.policy.proofs.entries.export_of_items.Goals.{in_default-via-then-items-lt2, in_default-via-else-items-lt2+else-items-lt3}

pub returns-in_default : goal.returns-in_default
returns-in_default c = λ before has.
    export_of_others before c.args.items.now (λ two. elim c.in_default.branch [
      | in_default-via-then-items-lt2 w ↦ grind (arith, nat_tests)
      | in_default-via-else-items-lt2+else-items-lt3 w ↦ grind (arith, nat_tests)
    ])
