use Rattle.std.proofs.Common.{List, ◌∙◌, sym, ap, arith}
use Rattle.std.proofs.lemmas.Grind.{common_steps}
use Rattle.std.proofs.lemmas.List.{at_drop_all}
use Rattle.toml.specs.View.{view, items_view}
use Rattle.toml.specs.declared.value.Value.{Value}
use Rattle.policy.specs.Bindings.{binding_of, each_binding}
use Rattle.policy.specs.declared.binding.Binding.{Binding}
use Rattle.policy.proofs.Lists.{each_item_next, each_item_refused}
use Rattle.policy.proofs.binding.each_binding.Goals as goal

pub loop-item-preserved : goal.loop-item-preserved
loop-item-preserved c =
    let l = c.loop-item in
    let v = c.item-item.result in
    let good = ap (λ (before : List Binding). binding_of c.args.ram_pages before (view v)) (sym c.as_slice.ensures.value) ∙ sym c.in_ok-binding.ensures in
    rw c.in_ok-push.ensures.items (sym (each_item_next (binding_of c.args.ram_pages) l.bindings.items c.args.items.now l.item-index v c.in_ok-binding.binding
    c.loop-item-test.true c.item-item.is good) ∙ l.invariant)

pub returns-clause-ok : goal.returns-clause-ok
returns-clause-ok c =
    let l = c.loop-item in
    sym l.invariant ∙ at_drop_all (λ (vs : List Value). each_binding c.args.ram_pages l.bindings.items (items_view vs)) c.args.items.now l.item-index c.loop-item-test.false

pub returns-in_err-binding-clause-refused : goal.returns-in_err-binding-clause-refused
returns-in_err-binding-clause-refused c =
    let l = c.loop-item in
    let v = c.item-item.result in
    let bad = ap (λ (before : List Binding). binding_of c.args.ram_pages before (view v)) (sym c.as_slice.ensures.value) ∙ sym c.in_err-binding.ensures in
    let all = sym l.invariant ∙ each_item_refused (binding_of c.args.ram_pages) l.bindings.items c.args.items.now l.item-index v c.in_err-binding.field-0.0
    c.loop-item-test.true c.item-item.is bad in
    grind (arith, common_steps, all)
