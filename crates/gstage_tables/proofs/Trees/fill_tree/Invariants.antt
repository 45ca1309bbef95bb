use Rattle.std.proofs.Common.{◌≡◌, ◌+◌, ◌*◌, length}
use Rattle.sv_types.specs.Views.{all_free}
use Rattle.gstage_tables.specs.Layout.{tree_count, leaf_tables, leaf_table, table_pages, sight_in, leaf_word}
use Rattle.gstage_tables.specs.Written.{Wrote}
use Rattle.gstage_tables.proofs.Trees.fill_tree.Given as goal

abbrev pub invariant-loop-p : goal.invariant-loop-p
invariant-loop-p l = record {
  ram : l.mem.ram ≡ l.initial.mem.ram;
  words : Wrote l.initial.mem.tables l.mem.tables l.p
      (λ p. 512 * leaf_table (tree_count (length l.fn.self.bound)) (leaf_tables l.fn.self.ram_pages) l.fn.tree + p)
      (λ p. leaf_word l.fn.self.ram_pages (table_pages l.fn.self.ram_pages (length l.fn.self.bound)) (sight_in l.fn.self.bound l.fn.tree) all_free p);
}
