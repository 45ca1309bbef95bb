use Rattle.std.proofs.Common.{◌≡◌, true, Ok}
use Rattle.std.proofs.lemmas.Result.{IfOk-weaker}
use Rattle.toml.specs.View.{table_view}
use Rattle.sv_types.specs.Policies.{rules_of, rules_within}
use Rattle.policy.specs.Text.{rules_of_members}
use Rattle.policy.proofs.ReadWithin.{rules_read}
use Rattle.policy.proofs.text.read.Goals as goal

pub returns-clause-within : goal.returns-clause-within
returns-clause-within c =
    IfOk-weaker c.read_table.result (λ policy. rules_of_members (table_view c.in_ok-table.table) ≡ Ok (rules_of policy)) (λ policy. rules_within (rules_of policy) ≡ true)
    (λ policy is. rules_read (table_view c.in_ok-table.table) (rules_of policy) is) c.read_table.ensures.ok
