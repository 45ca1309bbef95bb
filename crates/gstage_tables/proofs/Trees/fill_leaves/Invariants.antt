use Rattle.std.proofs.Common.{◌≡◌, ℕ, ◌+◌, ◌*◌, ◌<◌, length}
use Rattle.spec_processor.specs.Bytes.{word}
use Rattle.sv_types.specs.Views.{all_free}
use Rattle.gstage_tables.specs.Layout.{tree_count, leaf_tables, leaf_table, table_pages, sight_in, leaf_word, upper_words}
use Rattle.gstage_tables.proofs.Trees.fill_leaves.Given as goal

abbrev pub invariant-loop-tree : goal.invariant-loop-tree
invariant-loop-tree l = record {
  ram : l.mem.ram ≡ l.initial.mem.ram;
  size : length l.mem.tables ≡ length l.initial.mem.tables;
  below : (k : ℕ) → k < upper_words * tree_count (length l.self.bound) → word l.mem.tables (8 * k) 8 ≡ word l.initial.mem.tables (8 * k) 8;
  leaves : (tree p : ℕ) → tree < l.tree → p < 512 * leaf_tables l.self.ram_pages
      → word l.mem.tables (8 * (512 * leaf_table (tree_count (length l.self.bound)) (leaf_tables l.self.ram_pages) tree + p)) 8
      ≡ leaf_word l.self.ram_pages (table_pages l.self.ram_pages (length l.self.bound)) (sight_in l.self.bound tree) all_free p;
}
