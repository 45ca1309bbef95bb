use Rattle.std.proofs.Common.{ℕ, ◌∙◌, length}
use Rattle.sv_types.specs.Views.{all_free}
use Rattle.gstage_tables.specs.Layout.{leaf_tables, tree_count, table_pages, sight_in, leaf_word}
use Rattle.gstage_tables.proofs.Writes.{below_kept, leaves_more}
use Rattle.gstage_tables.proofs.Trees.fill_leaves.Goals as goal

pub loop-tree-preserved : goal.loop-tree-preserved
loop-tree-preserved c =
    let inv = c.loop-tree.invariant in
    let t : ℕ = leaf_tables c.args.self.now.ram_pages in
    let trees : ℕ = tree_count (length c.args.self.now.bound) in
    let value = λ (tree : ℕ) (p : ℕ). leaf_word c.args.self.now.ram_pages (table_pages c.args.self.now.ram_pages (length c.args.self.now.bound)) (sight_in c.args.self.now.bound tree) all_free p in
    record {
      ram = c.fill_tree.ensures.ram ∙ inv.ram;
      size = c.fill_tree.ensures.words.size ∙ inv.size;
      below = λ k l. below_kept c.args.mem.now.tables c.loop-tree.mem.tables c.fill_tree.new.mem.tables t trees c.loop-tree.tree value c.fill_tree.ensures.words k l (inv.below k l);
      leaves = leaves_more c.args.mem.now.tables c.loop-tree.mem.tables c.fill_tree.new.mem.tables t trees c.loop-tree.tree value c.fill_tree.ensures.words inv.leaves;
    }
