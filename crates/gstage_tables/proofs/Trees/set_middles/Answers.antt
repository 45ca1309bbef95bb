use Rattle.std.proofs.Common.{◌≡◌, ◌≢◌, ℕ, ◌+◌, ◌*◌, ◌/◌, ◌<◌, ◌≤◌, ◌∙◌, length, refl, ap, subst, arith, rules}
use Rattle.spec_processor.specs.Bytes.{page_size}
use Rattle.spec_processor.specs.Regions.{Region}
use Rattle.gstage_tables.specs.Layout.{leaf_tables, tree_count}
use Rattle.gstage_tables.proofs.Writes.{wrote_next, wrote_all}
use Rattle.gstage_tables.proofs.Trees.set_middles.Goals as goal

place_of : (cnt trees block tree : ℕ) → cnt ≡ trees → 2048 * cnt + block + 512 * tree ≡ 512 * (4 * trees + tree) + block
place_of cnt trees block tree e = omega arith

apart : (trees block m tree : ℕ) → m < tree → 512 * (4 * trees + m) + block ≢ 512 * (4 * trees + tree) + block
apart trees block m tree l = omega arith

inside : (trees t tree block cnt size now : ℕ) → now ≡ size → size ≡ page_size * (512 * ((5 * trees + trees * t + 511) / 512)) → cnt ≡ trees → tree < trees → block < 512
    → 8 * (2048 * cnt + block + 512 * tree) + 8 ≤ now
inside trees t tree block cnt size now same is count l h = omega arith

pub put_counted-requires : goal.put_counted-requires
put_counted-requires g c =
    let tree : c.loop-tree.tree < tree_count (length c.args.self.now.bound) = subst (λ (n : ℕ). c.loop-tree.tree < n) c.count-tree-end.ensures.value c.loop-tree-test.true in
    inside (tree_count (length c.args.self.now.bound)) (leaf_tables c.args.self.now.ram_pages) c.loop-tree.tree c.args.block c.count.result _ _
    c.loop-tree.invariant.words.size c.requires.size c.count.ensures.value tree c.requires.block

pub loop-tree-preserved : goal.loop-tree-preserved
loop-tree-preserved g c =
    let inv = c.loop-tree.invariant in
    let trees : ℕ = tree_count (length c.args.self.now.bound) in
    let tree : c.loop-tree.tree < trees = subst (λ (n : ℕ). c.loop-tree.tree < n) c.count-tree-end.ensures.value c.loop-tree-test.true in
    record {
      ram = ap (λ (r : Region). r.ram) c.put_counted.ensures.memory ∙ inv.ram;
      words = wrote_next (2048 * c.count.result + c.args.block + 512 * c.loop-tree.tree) c.middle.result inv.words (ap (λ (r : Region). r.tables) c.put_counted.ensures.memory)
          (place_of c.count.result trees c.args.block c.loop-tree.tree c.count.ensures.value) c.middle.ensures (search rules)
          (inside trees (leaf_tables c.args.self.now.ram_pages) c.loop-tree.tree c.args.block c.count.result _ _ refl c.requires.size c.count.ensures.value tree c.requires.block)
          (λ m l. apart trees c.args.block m c.loop-tree.tree l);
      cost = c.put_counted.ensures.step ∙ ap (λ (n : ℕ). n + 1) inv.cost ∙ omega arith;
    }

pub returns-clause-words : goal.returns-clause-words
returns-clause-words g c =
    let end : c.loop-tree.tree ≡ c.count-tree-end.result = omega arith in
    wrote_all c.loop-tree.invariant.words (end ∙ c.count-tree-end.ensures.value)
