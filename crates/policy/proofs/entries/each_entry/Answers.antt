use Rattle.std.proofs.Common.{List, ◌∙◌, sym, arith}
use Rattle.std.proofs.lemmas.Grind.{common_steps}
use Rattle.std.proofs.lemmas.List.{at_drop_all}
use Rattle.toml.specs.View.{items_view}
use Rattle.toml.specs.declared.value.Value.{Value}
use Rattle.policy.specs.Values.{entry_of}
use Rattle.policy.specs.Text.{each_entry}
use Rattle.policy.proofs.Lists.{each_item_next, each_item_refused}
use Rattle.policy.proofs.entries.each_entry.Goals as goal

pub loop-item-preserved : goal.loop-item-preserved
loop-item-preserved c =
    let l = c.loop-item in
    rw c.in_ok-push.ensures.items (sym (each_item_next (λ before. entry_of) l.entries.items c.args.items.now l.item-index c.item-item.result c.in_ok-entry.entry
    c.loop-item-test.true c.item-item.is (sym c.in_ok-entry.ensures)) ∙ l.invariant)

pub returns-clause-ok : goal.returns-clause-ok
returns-clause-ok c =
    let l = c.loop-item in
    sym l.invariant ∙ at_drop_all (λ (vs : List Value). each_entry l.entries.items (items_view vs)) c.args.items.now l.item-index c.loop-item-test.false

pub returns-in_err-entry-clause-refused : goal.returns-in_err-entry-clause-refused
returns-in_err-entry-clause-refused c =
    let l = c.loop-item in
    let all = sym l.invariant ∙ each_item_refused (λ before. entry_of) l.entries.items c.args.items.now l.item-index c.item-item.result c.in_err-entry.field-0.0
    c.loop-item-test.true c.item-item.is (sym c.in_err-entry.ensures) in
    grind (arith, common_steps, all)
