use Rattle.std.proofs.Common.{◌≡◌, ℕ, ◌+◌, ◌*◌, ◌<◌, ◌∙◌, length, refl, ap, subst, arith, rules}
use Rattle.spec_processor.specs.Regions.{Region}
use Rattle.gstage_tables.specs.Layout.{leaf_tables, tree_count, leaf_table}
use Rattle.gstage_tables.proofs.Writes.{wrote_next, wrote_all, leaf_inside, trees_apart, below_covered}
use Rattle.gstage_tables.proofs.Trees.set_leaves.Goals as goal

pub put_counted-requires : goal.put_counted-requires
put_counted-requires g c =
    let tree : c.loop-tree.tree < tree_count (length c.args.self.now.bound) = subst (λ (n : ℕ). c.loop-tree.tree < n) c.count-tree-end.ensures.value c.loop-tree-test.true in
    leaf_inside (tree_count (length c.args.self.now.bound)) (leaf_tables c.args.self.now.ram_pages) c.loop-tree.tree c.args.page c.leaf_table.result _ _
    c.loop-tree.invariant.words.size c.requires.size c.leaf_table.ensures.value tree (below_covered c.args.self.now.ram_pages c.args.page c.requires.page)

pub loop-tree-preserved : goal.loop-tree-preserved
loop-tree-preserved g c =
    let inv = c.loop-tree.invariant in
    let trees : ℕ = tree_count (length c.args.self.now.bound) in
    let t : ℕ = leaf_tables c.args.self.now.ram_pages in
    let page : c.args.page < 512 * t = below_covered c.args.self.now.ram_pages c.args.page c.requires.page in
    let tree : c.loop-tree.tree < trees = subst (λ (n : ℕ). c.loop-tree.tree < n) c.count-tree-end.ensures.value c.loop-tree-test.true in
    let at : 512 * c.leaf_table.result + c.args.page ≡ 512 * leaf_table trees t c.loop-tree.tree + c.args.page = ap (λ (first : ℕ). 512 * first + c.args.page) c.leaf_table.ensures.value in
    record {
      ram = ap (λ (r : Region). r.ram) c.put_counted.ensures.memory ∙ inv.ram;
      words = wrote_next (512 * c.leaf_table.result + c.args.page) c.leaf.result inv.words (ap (λ (r : Region). r.tables) c.put_counted.ensures.memory) at c.leaf.ensures (search rules)
          (leaf_inside trees t c.loop-tree.tree c.args.page c.leaf_table.result _ _ refl c.requires.size c.leaf_table.ensures.value tree page)
          (λ m l. trees_apart trees t c.args.page m c.loop-tree.tree l page);
      cost = c.put_counted.ensures.step ∙ ap (λ (n : ℕ). n + 1) inv.cost ∙ omega arith;
    }

pub returns-clause-words : goal.returns-clause-words
returns-clause-words g c =
    let end : c.loop-tree.tree ≡ c.count-tree-end.result = omega arith in
    wrote_all c.loop-tree.invariant.words (end ∙ c.count-tree-end.ensures.value)
