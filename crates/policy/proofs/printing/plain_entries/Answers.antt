use Rattle.std.proofs.Common.{ℕ, get_or, arith}
use Rattle.std.proofs.lemmas.List.{get_or_default}
use Rattle.std.proofs.lemmas.List.Elements.{All-more}
use Rattle.policy.specs.Printed.{address_data}
use Rattle.policy.specs.Ranges.{IsAddress}
use Rattle.policy.proofs.Prints.{printed_more, printed_all}
use Rattle.policy.proofs.printing.plain_entries.Goals as goal

pub loop-entry-preserved : goal.loop-entry-preserved
loop-entry-preserved c =
    let xs = c.args.entries.now in
    let i = c.loop-entry.entry-index in
    let x : ℕ = get_or xs i 0 in
    let within = c.loop-entry-test.true in
    record {
      printed = rw c.in_ok-push.ensures.items (printed_more address_data c.loop-entry.values.items c.in_ok-value.value xs i x
          within (get_or_default xs i 0 x within) c.in_ok-value.ensures c.loop-entry.invariant.printed);
      typed = All-more IsAddress xs i 0 within c.loop-entry.invariant.typed (omega (arith, c.type_inv.entries i));
    }

pub returns-clause-printed : goal.returns-clause-printed
returns-clause-printed c =
    let l = c.loop-entry in
    printed_all address_data l.values c.args.entries.now l.entry-index c.loop-entry-test.false l.invariant.printed
