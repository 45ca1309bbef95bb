use Rattle.std.proofs.Common.{ℕ, ◌<◌, ◌≤◌, length, get_or, sym, subst, arith}
use Rattle.std.proofs.lemmas.List.Elements.{All-from_get_or}
use Rattle.policy.specs.Bindings.{binding, bindings_of}
use Rattle.policy.specs.declared.binding.Binding.{Binding}
use Rattle.policy.specs.Printed.{binding_data}
use Rattle.policy.specs.Ranges.{IsAddress}
use Rattle.policy.proofs.Prints.{printed_more, printed_all}
use Rattle.policy.proofs.BindingsBack.{pair_at, pairs_length}
use Rattle.policy.proofs.printing.bound_entries.Goals as goal

pub loop-i-preserved : goal.loop-i-preserved
loop-i-preserved c =
    let entries = c.args.entries.now in
    let bound = c.args.bound.now in
    let i = c.loop-i.i in
    let pair : Binding = binding (get_or entries i 0) (get_or bound i 0) in
    let within : i < length (bindings_of entries bound) = subst (λ (n : ℕ). i < n) (sym (pairs_length entries bound c.requires)) c.loop-i-test.true in
    rw c.in_ok-push.ensures.items (printed_more binding_data c.loop-i.values.items c.in_ok-value.value (bindings_of entries bound) i pair
    within (pair_at entries bound i 0 0 pair c.loop-i-test.true c.requires) c.in_ok-value.ensures c.loop-i.invariant)

pub returns-clause-printed : goal.returns-clause-printed
returns-clause-printed c =
    printed_all binding_data c.loop-i.values (bindings_of c.args.entries.now c.args.bound.now) c.loop-i.i
    (subst (λ (n : ℕ). n ≤ c.loop-i.i) (sym (pairs_length c.args.entries.now c.args.bound.now c.requires)) c.loop-i-test.false) c.loop-i.invariant

pub returns-clause-typed : goal.returns-clause-typed
returns-clause-typed c = All-from_get_or IsAddress c.args.entries.now 0 (λ i within. omega (arith, c.type_inv.entries i))
