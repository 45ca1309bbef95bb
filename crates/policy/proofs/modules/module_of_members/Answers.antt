use Rattle.std.proofs.Common.{◌≡◌, ℕ, List, map, Ok, Err, codes, sym, ◌∙◌, ap, subst}
use Rattle.toml.specs.Data.{Data, Members}
use Rattle.toml.specs.View.{view, table_view}
use Rattle.sv_types.specs.Policies.{ModuleRule, module_rule, sites_of}
use Rattle.sv_types.specs.Steps.{◌>>=◌}
use Rattle.sv_types.specs.declared.module.Site.{Site}
use Rattle.policy.specs.Refusals.{Judged}
use Rattle.policy.specs.Values.{required_member}
use Rattle.policy.specs.Text.{key_name, key_pages, key_measure, sites_in, unrepeated_module, module_rule_of, module_of_members}
use Rattle.policy.proofs.Judging.{then_ok, then_err, refuses_fault, refuses_on}
use Rattle.policy.proofs.modules.module_of_members.Goals as goal
use Rattle.policy_limits.specs.declared.policy_fault.PolicyFault.{PolicyFault}

module _ (exports : ℕ) (before : List ModuleRule) (ms : Members) where
  no_name : (fault : PolicyFault) → key_name ms ≡ Err fault → module_of_members exports before ms ≡ Err fault
  unfolding module_of_members
  no_name fault bad = then_err (key_name ms) _ fault bad

  no_pages : (name : List ℕ) (fault : PolicyFault) → key_name ms ≡ Ok name → key_pages ms ≡ Err fault → module_of_members exports before ms ≡ Err fault
  unfolding module_of_members
  no_pages name fault named bad = then_ok (key_name ms) _ name _ named (then_err (key_pages ms) _ fault bad)

  no_measure : (name : List ℕ) (pages : ℕ) (fault : PolicyFault) → key_name ms ≡ Ok name → key_pages ms ≡ Ok pages → key_measure ms ≡ Err fault → module_of_members exports before ms ≡ Err fault
  unfolding module_of_members
  no_measure name pages fault named paged bad = then_ok (key_name ms) _ name _ named (then_ok (key_pages ms) _ pages _ paged (then_err (key_measure ms) _ fault bad))

  -- after the digest
  by_sites : (name : List ℕ) (pages : ℕ) (measure : List ℕ) (judged : Judged (List Site)) → key_name ms ≡ Ok name → key_pages ms ≡ Ok pages → key_measure ms ≡ Ok measure →
      (required_member (codes "sites") ms >>= sites_in pages exports (sites_of before)) ≡ judged →
      module_of_members exports before ms ≡ (judged >>= λ sites. unrepeated_module before (module_rule_of name pages measure sites))
  unfolding module_of_members
  by_sites name pages measure judged named paged measured is =
      then_ok (key_name ms) _ name _ named (then_ok (key_pages ms) _ pages _ paged (then_ok (key_measure ms) _ measure _ measured
      (ap (λ (j : Judged (List Site)). j >>= λ sites. unrepeated_module before (module_rule_of name pages measure sites)) is)))

pub returns-in_err-name-clause-refused : goal.returns-in_err-name-clause-refused
returns-in_err-name-clause-refused c =
    let fault = c.in_err-name.field-0.0 in
    refuses_fault c.from_residual.result _ fault c.from_residual.ensures.1
    (no_name c.args.exports (map module_rule c.args.before.now) (table_view c.args.table.now) fault (sym c.in_err-name.ensures))

pub returns-in_err-pages-clause-refused : goal.returns-in_err-pages-clause-refused
returns-in_err-pages-clause-refused c =
    let fault = c.in_err-pages.field-0.0 in
    refuses_fault c.from_residual-in_err-pages.result _ fault c.from_residual-in_err-pages.ensures.1
    (no_pages c.args.exports (map module_rule c.args.before.now) (table_view c.args.table.now) c.in_ok-name.name fault (sym c.in_ok-name.ensures) (sym c.in_err-pages.ensures.value))

pub returns-in_err-measure-clause-refused : goal.returns-in_err-measure-clause-refused
returns-in_err-measure-clause-refused c =
    let fault = c.in_err-measure.field-0.0 in
    refuses_fault c.from_residual-in_err-measure.result _ fault c.from_residual-in_err-measure.ensures.1
    (no_measure c.args.exports (map module_rule c.args.before.now) (table_view c.args.table.now) c.in_ok-name.name c.in_ok-pages.pages fault
    (sym c.in_ok-name.ensures) (sym c.in_ok-pages.ensures.value) (sym c.in_err-measure.ensures))

pub returns-in_err-list-clause-refused : goal.returns-in_err-list-clause-refused
returns-in_err-list-clause-refused c =
    let ms = table_view c.args.table.now in
    let before = map module_rule c.args.before.now in
    let fault = c.in_err-list.field-0.0 in
    refuses_fault c.from_residual-in_err-list.result _ fault c.from_residual-in_err-list.ensures.1
    (by_sites c.args.exports before ms c.in_ok-name.name c.in_ok-pages.pages c.in_ok-measure.measure (Err fault)
    (sym c.in_ok-name.ensures) (sym c.in_ok-pages.ensures.value) (sym c.in_ok-measure.ensures)
    (then_err (required_member (codes "sites") ms) (sites_in c.in_ok-pages.pages c.args.exports (sites_of before)) fault (sym c.in_err-list.ensures)))

pub returns-in_err-sites-clause-refused : goal.returns-in_err-sites-clause-refused
returns-in_err-sites-clause-refused c =
    let ms = table_view c.args.table.now in
    let before = map module_rule c.args.before.now in
    let pages = c.in_ok-pages.pages in
    let list = view c.in_ok-list.list.now in
    refuses_on c.from_residual-in_err-sites.result (sites_in pages c.args.exports c.args.sites_before list) _ c.in_err-sites.field-0.0
    c.from_residual-in_err-sites.ensures.1 c.in_err-sites.ensures.refused (λ fault bad.
    by_sites c.args.exports before ms c.in_ok-name.name pages c.in_ok-measure.measure (Err fault)
    (sym c.in_ok-name.ensures) (sym c.in_ok-pages.ensures.value) (sym c.in_ok-measure.ensures)
    (then_ok (required_member (codes "sites") ms) (sites_in pages c.args.exports (sites_of before)) list (Err fault) (sym c.in_ok-list.ensures)
    (subst (λ (n : ℕ). sites_in pages c.args.exports n list ≡ Err fault) c.requires.sites_of bad)))

pub returns-in_err-unrepeated_module-clause-refused : goal.returns-in_err-unrepeated_module-clause-refused
returns-in_err-unrepeated_module-clause-refused c =
    let ms = table_view c.args.table.now in
    let before = map module_rule c.args.before.now in
    let pages = c.in_ok-pages.pages in
    let list = view c.in_ok-list.list.now in
    let fault = c.in_err-unrepeated_module.field-0.0 in
    refuses_fault c.from_residual-in_err-unrepeated_module.result _ fault c.from_residual-in_err-unrepeated_module.ensures.1
    (by_sites c.args.exports before ms c.in_ok-name.name pages c.in_ok-measure.measure (Ok c.in_ok-sites.sites.items)
    (sym c.in_ok-name.ensures) (sym c.in_ok-pages.ensures.value) (sym c.in_ok-measure.ensures)
    (then_ok (required_member (codes "sites") ms) (sites_in pages c.args.exports (sites_of before)) list _ (sym c.in_ok-list.ensures)
    (subst (λ (n : ℕ). sites_in pages c.args.exports n list ≡ Ok c.in_ok-sites.sites.items) c.requires.sites_of c.in_ok-sites.ensures.ok))
    ∙ sym c.in_err-unrepeated_module.ensures)

pub returns-clause-ok : goal.returns-clause-ok
returns-clause-ok c =
    let ms = table_view c.args.table.now in
    let before = map module_rule c.args.before.now in
    let pages = c.in_ok-pages.pages in
    let list = view c.in_ok-list.list.now in
    by_sites c.args.exports before ms c.in_ok-name.name pages c.in_ok-measure.measure (Ok c.in_ok-sites.sites.items)
    (sym c.in_ok-name.ensures) (sym c.in_ok-pages.ensures.value) (sym c.in_ok-measure.ensures)
    (then_ok (required_member (codes "sites") ms) (sites_in pages c.args.exports (sites_of before)) list _ (sym c.in_ok-list.ensures)
    (subst (λ (n : ℕ). sites_in pages c.args.exports n list ≡ Ok c.in_ok-sites.sites.items) c.requires.sites_of c.in_ok-sites.ensures.ok))
    ∙ sym c.in_ok-unrepeated_module.ensures
