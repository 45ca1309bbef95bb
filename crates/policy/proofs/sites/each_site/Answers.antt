use Rattle.std.proofs.Common.{ℕ, ◌+◌, List, length, ◌∙◌, sym, ap, arith}
use Rattle.std.proofs.lemmas.Grind.{common_steps}
use Rattle.std.proofs.lemmas.List.{at_drop_all, length_push}
use Rattle.toml.specs.View.{view, items_view}
use Rattle.toml.specs.declared.value.Value.{Value}
use Rattle.sv_types.specs.declared.module.Site.{Site}
use Rattle.policy.specs.Text.{site_of, each_site}
use Rattle.policy.proofs.Lists.{each_item_next, each_item_refused}
use Rattle.policy.proofs.sites.each_site.Goals as goal

pub loop-item-preserved : goal.loop-item-preserved
loop-item-preserved c =
    let l = c.loop-item in
    let v = c.item-item.result in
    let b = c.args.bounds in
    let good = ap (λ (before : List Site). site_of b.pages b.exports before (view v)) (sym c.as_slice.ensures.value) ∙ sym c.in_ok-site.ensures in
    record {
      rest = rw c.in_ok-push.ensures.items (sym (each_item_next (site_of b.pages b.exports) l.sites.items c.args.items.now l.item-index v c.in_ok-site.site
          c.loop-item-test.true c.item-item.is good) ∙ l.invariant.rest);
      count = ap (λ (sites : List Site). length sites) c.in_ok-push.ensures.items ∙ length_push l.sites.items c.in_ok-site.site ∙ ap (λ (n : ℕ). n + 1) l.invariant.count;
    }

pub returns-clause-ok : goal.returns-clause-ok
returns-clause-ok c =
    let l = c.loop-item in
    let b = c.args.bounds in
    sym l.invariant.rest
    ∙ at_drop_all (λ (vs : List Value). each_site b.pages b.exports l.sites.items (items_view vs)) c.args.items.now l.item-index c.loop-item-test.false

pub returns-in_err-site-clause-refused : goal.returns-in_err-site-clause-refused
returns-in_err-site-clause-refused c =
    let l = c.loop-item in
    let v = c.item-item.result in
    let b = c.args.bounds in
    let bad = ap (λ (before : List Site). site_of b.pages b.exports before (view v)) (sym c.as_slice.ensures.value) ∙ sym c.in_err-site.ensures in
    let all = sym l.invariant.rest ∙ each_item_refused (site_of b.pages b.exports) l.sites.items c.args.items.now l.item-index v c.in_err-site.field-0.0
    c.loop-item-test.true c.item-item.is bad in
    grind (arith, common_steps, all)
