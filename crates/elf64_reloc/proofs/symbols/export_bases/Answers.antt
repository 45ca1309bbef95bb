use Rattle.std.proofs.Common.{arith, sym, ◌∙◌, ap}
use Rattle.sv_types.specs.declared.policy.Export.{Export}
use Rattle.std.proofs.lemmas.Map.Text.{btree_map_updates_str}
use Rattle.elf64_reloc.proofs.Lists.{base_before}
use Rattle.elf64_reloc.proofs.symbols.export_bases.Goals as goal

pub exports-preserved : goal.exports-preserved
exports-preserved c = λ name.
    let some = c.exports-test.true in
    let most = c.exports.auto.i in
    base_before c.args.exports.now name c.text.result.now c.exports.i _ _ c.index-exports-i.result _ _ (omega arith) (omega arith) c.index-exports-i.is (c.text.ensures.text ∙
    ap (λ (e : Export). e.name) (sym c.index-exports-i.is)) (omega arith)
    (c.exports.invariant name)
    (btree_map_updates_str c.text.result.now c.exports.bases c.insert.new.self _ c.in_ok-insert.ensures.updates name)
