use Rattle.std.proofs.Common.{subst}
use Rattle.std.proofs.lemmas.List.Elements.{All-more}
use Rattle.policy.specs.Printed.{export_data}
use Rattle.policy.specs.Ranges.{IsExport}
use Rattle.policy.proofs.Prints.{printed_more, printed_all}
use Rattle.policy.proofs.printing.exports.Goals as goal

pub loop-item-preserved : goal.loop-item-preserved
loop-item-preserved c =
    let xs = c.args.exports.now in
    let i = c.loop-item.item-index in
    let x = c.item-item.result in
    record {
      printed = rw c.in_ok-push.ensures.items (printed_more export_data c.loop-item.values.items c.in_ok-value.value xs i x c.loop-item-test.true c.item-item.is
          c.in_ok-value.ensures.printed c.loop-item.invariant.printed);
      typed = All-more IsExport xs i x c.loop-item-test.true c.loop-item.invariant.typed (subst IsExport c.item-item.is c.in_ok-value.ensures.typed);
    }

pub returns-clause-printed : goal.returns-clause-printed
returns-clause-printed c =
    printed_all export_data c.loop-item.values c.args.exports.now c.loop-item.item-index c.loop-item-test.false c.loop-item.invariant.printed
