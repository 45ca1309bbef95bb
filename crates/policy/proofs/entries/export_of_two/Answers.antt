use Rattle.std.proofs.Common.{◌≡◌, ℕ, List, true, false, sym, ◌∙◌, ap}
use Rattle.std.specs.BTreeSet.{contains_text}
use Rattle.toml.specs.View.{view}
use Rattle.sv_types.specs.Policies.{is_exported}
use Rattle.policy.proofs.ExportsRead.{export_judged}
use Rattle.policy.proofs.entries.export_of_two.Goals as goal

pub returns-then-contains : goal.returns-then-contains
returns-then-contains c = λ before has.
    let met : is_exported c.in_ok-name.name before ≡ true =
    sym (has c.in_ok-name.name) ∙ sym (ap (λ (n : List ℕ). contains_text c.args.names.now n) c.text.ensures.text) ∙ sym c.contains.ensures ∙ c.if-contains.true in
    sym (export_judged before (view c.args.name_value.now) (view c.args.addr_value.now) c.in_ok-name.name c.in_ok-addr.addr true
    (sym c.name.ensures ∙ c.in_ok-name.was) (sym c.address.ensures ∙ c.in_ok-addr.was) met)

pub returns : goal.returns
returns c = λ before has.
    let met : is_exported c.in_ok-name.name before ≡ false =
    sym (has c.in_ok-name.name) ∙ sym (ap (λ (n : List ℕ). contains_text c.args.names.now n) c.text.ensures.text) ∙ sym c.contains.ensures ∙ c.if-contains.false in
    sym (export_judged before (view c.args.name_value.now) (view c.args.addr_value.now) c.in_ok-name.name c.in_ok-addr.addr false
    (sym c.name.ensures ∙ c.in_ok-name.was) (sym c.address.ensures ∙ c.in_ok-addr.was) met)
