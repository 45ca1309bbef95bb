use Rattle.std.proofs.Common.{◌≤◌, subst, sym, ◌∙◌, ap, Some}
use Rattle.toml.specs.Data.{Members, members_depth}
use Rattle.sv_types.specs.Policies.{rules_of}
use Rattle.policy.proofs.Depths.{depth_of_rules}
use Rattle.policy.proofs.printing.text.Goals as goal

pub returns-in-Ok-clause-printed : goal.returns-in-Ok-clause-printed
returns-in-Ok-clause-printed c =
    c.in-Ok.ensures.reads_back (subst (λ (ms : Members). members_depth ms ≤ 80) (sym c.in_ok-table.ensures.printed) (depth_of_rules (rules_of c.args.policy.now)))
    ∙ ap Some c.in_ok-table.ensures.printed
