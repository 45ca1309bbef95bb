use Rattle.std.proofs.Common.{◌≡◌, ℕ, ◌+◌, ◌≤◌, List, [], ◌∷◌, length, map, ◌∙◌, sym, ap, subst, rules}
use Rattle.std.proofs.lemmas.List.{at_drop_all, map-append}
use Rattle.toml.specs.View.{view, items_view}
use Rattle.toml.specs.declared.value.Value.{Value}
use Rattle.sv_types.specs.Limits.{max_sites}
use Rattle.sv_types.specs.Policies.{ModuleRule, module_rule, sites_of}
use Rattle.sv_types.specs.declared.policy.ModulePolicy.{ModulePolicy}
use Rattle.policy.specs.Text.{module_of, each_module}
use Rattle.policy.proofs.Judging.{refuses_on}
use Rattle.policy.proofs.Lists.{each_item_next, each_item_refused}
use Rattle.sv_types.proofs.PolicyLimits.{sites_of_more}
use Rattle.policy.proofs.modules.each_module.Goals as goal

pub returns-clause-ok : goal.returns-clause-ok
returns-clause-ok c =
    let l = c.loop-item in
    sym l.invariant.rest
    ∙ at_drop_all (λ (vs : List Value). each_module c.args.exports (map module_rule l.modules.items) (items_view vs)) c.args.items.now l.item-index c.loop-item-test.false

pub returns-in_err-module-clause-refused : goal.returns-in_err-module-clause-refused
returns-in_err-module-clause-refused c =
    let l = c.loop-item in
    let v = c.item-item.result in
    let before = map module_rule l.modules.items in
    let same = ap (λ (ms : List ModulePolicy). module_of c.args.exports (map module_rule ms) (view v)) (sym c.as_slice.ensures.value) in
    refuses_on c.from_residual.result _ _ c.in_err-module.field-0.0 c.from_residual.ensures.1 c.in_err-module.ensures.refused (λ fault bad.
    sym l.invariant.rest ∙ each_item_refused (module_of c.args.exports) before c.args.items.now l.item-index v fault c.loop-item-test.true c.item-item.is (same ∙ bad))

pub loop-item-preserved : goal.loop-item-preserved
loop-item-preserved c =
    let l = c.loop-item in
    let v = c.item-item.result in
    let m = c.in_ok-module.module in
    let before = map module_rule l.modules.items in
    let good = ap (λ (ms : List ModulePolicy). module_of c.args.exports (map module_rule ms) (view v)) (sym c.as_slice.ensures.value) ∙ c.in_ok-module.ensures.ok in
    let items = c.in_ok-push.ensures.items in
    let more = map-append module_rule l.modules.items (m ∷ []) in
    let size : c.len-sites.result ≡ length m.sites.items = search rules in
    record {
      rest = rw (items, more) (sym (each_item_next (module_of c.args.exports) before c.args.items.now l.item-index v (module_rule m)
          c.loop-item-test.true c.item-item.is good) ∙ l.invariant.rest);
      sites_of = ap (λ (n : ℕ). l.sites + n) size
          ∙ ap (λ (n : ℕ). n + length m.sites.items) l.invariant.sites_of
          ∙ sym (sites_of_more before (module_rule m))
          ∙ ap (λ (ms : List ModuleRule). sites_of ms) (sym more)
          ∙ ap (λ (ms : List ModulePolicy). sites_of (map module_rule ms)) (sym items);
      few = subst (λ (n : ℕ). l.sites + n ≤ max_sites) (sym size) c.in_ok-module.ensures.few;
    }
