use Rattle.std.proofs.Common.{◌≡◌, ℕ, ◌+◌, ◌*◌, ◌<◌, ◌∙◌, length, refl, ap, subst, arith, rules}
use Rattle.spec_processor.specs.Regions.{Region}
use Rattle.gstage_tables.specs.Layout.{leaf_tables, tree_count, leaf_table}
use Rattle.gstage_tables.proofs.Writes.{wrote_next, wrote_all, leaf_inside, row_apart}
use Rattle.gstage_tables.proofs.Trees.fill_tree.Goals as goal

pub put-requires : goal.put-requires
put-requires c =
    let below : c.loop-p.p < 512 * leaf_tables c.args.self.now.ram_pages = subst (λ (t : ℕ). c.loop-p.p < 512 * t) c.leaf_tables-p-end.ensures.value c.loop-p-test.true in
    leaf_inside (tree_count (length c.args.self.now.bound)) (leaf_tables c.args.self.now.ram_pages) c.args.tree c.loop-p.p c.leaf_table-first.result _ _
    c.loop-p.invariant.words.size c.requires.size c.leaf_table-first.ensures.value c.requires.tree below

pub loop-p-preserved : goal.loop-p-preserved
loop-p-preserved c =
    let inv = c.loop-p.invariant in
    let below : c.loop-p.p < 512 * leaf_tables c.args.self.now.ram_pages = subst (λ (t : ℕ). c.loop-p.p < 512 * t) c.leaf_tables-p-end.ensures.value c.loop-p-test.true in
    let first : ℕ = 512 * leaf_table (tree_count (length c.args.self.now.bound)) (leaf_tables c.args.self.now.ram_pages) c.args.tree in
    let at : 512 * c.leaf_table-first.result + c.loop-p.p ≡ first + c.loop-p.p = ap (λ (page : ℕ). 512 * page + c.loop-p.p) c.leaf_table-first.ensures.value in
    record {
      ram = ap (λ (r : Region). r.ram) c.put.ensures ∙ inv.ram;
      words = wrote_next (512 * c.leaf_table-first.result + c.loop-p.p) c.free_word.result inv.words (ap (λ (r : Region). r.tables) c.put.ensures) at c.free_word.ensures (search rules)
          (leaf_inside (tree_count (length c.args.self.now.bound)) (leaf_tables c.args.self.now.ram_pages) c.args.tree c.loop-p.p c.leaf_table-first.result _ _
          refl c.requires.size c.leaf_table-first.ensures.value c.requires.tree below)
          (λ m l. row_apart first m c.loop-p.p l);
    }

pub returns-clause-words : goal.returns-clause-words
returns-clause-words c =
    let end : c.loop-p.p ≡ 512 * c.leaf_tables-p-end.result = omega arith in
    wrote_all c.loop-p.invariant.words (end ∙ ap (λ (t : ℕ). 512 * t) c.leaf_tables-p-end.ensures.value)
