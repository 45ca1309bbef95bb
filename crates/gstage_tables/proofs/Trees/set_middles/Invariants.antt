use Rattle.std.proofs.Common.{◌≡◌, ◌+◌, ◌*◌, length}
use Rattle.gstage_tables.specs.Layout.{tree_count, leaf_tables, middle_table, table_pages, sight_in, middle_word}
use Rattle.gstage_tables.specs.Written.{Wrote}
use Rattle.gstage_tables.proofs.Trees.set_middles.Given as goal

abbrev pub invariant-loop-tree : goal.invariant-loop-tree
invariant-loop-tree g l = record {
  ram : l.mem.ram ≡ l.initial.mem.ram;
  words : Wrote l.initial.mem.tables l.mem.tables l.tree
      (λ tree. 512 * middle_table (tree_count (length l.fn.self.bound)) tree + l.fn.block)
      (λ tree. middle_word (tree_count (length l.fn.self.bound)) (leaf_tables l.fn.self.ram_pages) (table_pages l.fn.self.ram_pages (length l.fn.self.bound))
      (sight_in l.fn.self.bound tree) tree l.fn.block l.fn.whole);
  cost : l.steps ≡ l.initial.steps + l.tree;
}
