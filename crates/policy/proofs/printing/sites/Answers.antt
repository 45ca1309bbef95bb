use Rattle.std.proofs.lemmas.List.{get_or_default}
use Rattle.policy.specs.Printed.{site_data}
use Rattle.policy.proofs.Prints.{printed_more, printed_all}
use Rattle.policy.proofs.printing.sites.Goals as goal

pub loop-item-preserved : goal.loop-item-preserved
loop-item-preserved c =
    let xs = c.args.sites.now in
    let i = c.loop-item.item-index in
    let within = c.loop-item-test.true in
    rw c.in_ok-push.ensures.items (printed_more site_data c.loop-item.values.items c.in_ok-value.value xs i _
    within (get_or_default xs i _ _ within) c.in_ok-value.ensures c.loop-item.invariant)

pub returns : goal.returns
returns c = printed_all site_data c.loop-item.values c.args.sites.now c.loop-item.item-index c.loop-item-test.false c.loop-item.invariant
