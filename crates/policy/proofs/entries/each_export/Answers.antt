use Rattle.std.proofs.Common.{◌≡◌, ℕ, ◌+◌, List, [], ◌∷◌, length, length-append, drop, true, string_bytes, sym, ◌∙◌, ap, subst, arith}
use Rattle.std.specs.BTreeSet.{UpdatesBy}
use Rattle.std.specs.String.{string_cmp}
use Rattle.std.specs.Ordering.{nat_cmp}
use Rattle.std.specs.Cmp.Lexicographic.{slice_cmp}
use Rattle.std.proofs.lemmas.Grind.{common_steps}
use Rattle.toml.specs.View.{items_view}
use Rattle.sv_types.specs.Policies.{is_exported}
use Rattle.sv_types.specs.declared.policy.Export.{Export}
use Rattle.policy.specs.Text.{export_of, each_export}
use Rattle.policy.proofs.Lists.{each_item_next}
use Rattle.policy.proofs.ExportsRead.{names_more}
use Rattle.policy.proofs.entries.each_export.Goals as goal

pub returns-in_err-export-clause-refused : goal.returns-in_err-export-clause-refused
returns-in_err-export-clause-refused c =
    let bad = c.in_err-export.ensures c.loop-item.exports.items c.loop-item.invariant.names in
    grind (arith, common_steps, bad)

pub loop-item-preserved : goal.loop-item-preserved
loop-item-preserved c =
    let before = c.loop-item.exports.items in
    let export = c.in_ok-export.export in
    let items = c.in_ok-push.ensures.items in
    let count = c.loop-item.invariant.count in
    let good = c.in_ok-export.ensures before c.loop-item.invariant.names in
    let name : string_bytes c.in_ok-from_str.field-0 ≡ export.name = c.in_ok-from_str.ensures.ok ∙ c.text.ensures.text in
    let names = names_more c.loop-item.names c.insert.new.self before export c.loop-item.invariant.names
    (subst (λ (n : List ℕ). UpdatesBy string_cmp (λ k. slice_cmp nat_cmp n (string_bytes k)) c.loop-item.names c.insert.new.self true) name c.in_ok-insert.ensures.updates) in
    record {
      rest = ap (λ (es : List Export). each_export es (items_view (drop (c.loop-item.item-index + 1) c.args.items.now))) items
          ∙ sym (each_item_next export_of before c.args.items.now c.loop-item.item-index c.item-item.result export c.loop-item-test.true c.item-item.is (sym good))
          ∙ c.loop-item.invariant.rest;
      names = λ q. names q ∙ ap (λ (es : List Export). is_exported q es) (sym items);
      count = ap (λ (es : List Export). length es) items ∙ length-append before (export ∷ []) ∙ ap (λ (n : ℕ). n + 1) count;
    }
