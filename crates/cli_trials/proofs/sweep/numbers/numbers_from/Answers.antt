use Rattle.std.proofs.Common.{◌∙◌, ◌++◌, ◌∷◌, ◌+◌, [], List, ap, sym}
use Rattle.cli_trials.proofs.Chunks.{numbers_more}
use Rattle.cli_trials.proofs.sweep.numbers.numbers_from.Goals as goal

pub numbers-preserved : goal.numbers-preserved
numbers-preserved c =
    c.in_ok-push.ensures.items
    ∙ ap (λ (ns : List _). ns ++ (c.args.first + c.numbers.i) ∷ []) c.numbers.invariant
    ∙ sym (numbers_more c.args.first c.numbers.i)
