use Rattle.std.proofs.Common.{◌≡◌, ◌∙◌, ap, ok_or, Some}
use Rattle.toml.specs.Data.{Members}
use Rattle.toml.specs.Parse.{parse_document}
use Rattle.toml.specs.View.{table_view}
use Rattle.policy.proofs.Texts.{table_of_valid, table_of_invalid}
use Rattle.policy.proofs.text.table.Goals as goal
use Rattle.policy_limits.specs.declared.policy_fault.PolicyFault.{PolicyFault}
use Rattle.policy.specs.Refusals.{Judged, as_answer}

pub returns-in-Err-clause-refused : goal.returns-in-Err-clause-refused
returns-in-Err-clause-refused c = λ _. ap (λ (j : Judged Members). as_answer j) (table_of_invalid c.args.bytes.now c.in-Err.ensures.cases.0)

pub returns-in-Ok-table_from_str-clause-ok : goal.returns-in-Ok-table_from_str-clause-ok
returns-in-Ok-table_from_str-clause-ok c =
    let read : parse_document c.args.bytes.now ≡ Some (table_view c.in-Ok-table_from_str.table) = rw (← c.in-Ok.ensures.cases.0) c.in-Ok-table_from_str.ensures.ok in
    table_of_valid c.args.bytes.now c.in-Ok.ensures.cases.1 ∙ ap (λ o. ok_or o PolicyFault.NotToml) read

pub returns-in-Ok-table_from_str-clause-text : goal.returns-in-Ok-table_from_str-clause-text
returns-in-Ok-table_from_str-clause-text c = c.in-Ok.ensures.cases.1

pub returns-then-is_memory-clause-memory : goal.returns-then-is_memory-clause-memory
returns-then-is_memory-clause-memory c = λ _. c.in-Ok.ensures.cases.1
