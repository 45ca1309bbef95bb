use Rattle.std.proofs.Common.{◌≡◌, ◌+◌, ◌*◌, length}
use Rattle.gstage_tables.specs.Layout.{tree_count, leaf_tables, leaf_table, table_pages, sight_in, leaf}
use Rattle.gstage_tables.specs.Written.{Wrote}
use Rattle.gstage_tables.proofs.Trees.set_leaves.Given as goal

abbrev pub invariant-loop-tree : goal.invariant-loop-tree
invariant-loop-tree g l = record {
  ram : l.mem.ram ≡ l.initial.mem.ram;
  words : Wrote l.initial.mem.tables l.mem.tables l.tree
      (λ tree. 512 * leaf_table (tree_count (length l.fn.self.bound)) (leaf_tables l.fn.self.ram_pages) tree + l.fn.page)
      (λ tree. leaf (sight_in l.fn.self.bound tree) l.fn.page l.fn.protection (table_pages l.fn.self.ram_pages (length l.fn.self.bound) + l.fn.page));
  cost : l.steps ≡ l.initial.steps + l.tree;
}
