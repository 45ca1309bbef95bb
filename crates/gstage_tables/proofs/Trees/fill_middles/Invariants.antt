use Rattle.std.proofs.Common.{◌≡◌, ◌+◌, ◌*◌, ◌/◌, ◌%◌, length}
use Rattle.gstage_tables.specs.Blocks.{lies_in_ram}
use Rattle.gstage_tables.specs.Layout.{tree_count, leaf_tables, table_pages, sight_in, middle_word}
use Rattle.gstage_tables.specs.Written.{Wrote}
use Rattle.gstage_tables.proofs.Trees.fill_middles.Given as goal

abbrev pub invariant-loop-k : goal.invariant-loop-k
invariant-loop-k l = record {
  ram : l.mem.ram ≡ l.initial.mem.ram;
  words : Wrote l.initial.mem.tables l.mem.tables l.k
      (λ k. 2048 * tree_count (length l.fn.self.bound) + k)
      (λ k. middle_word (tree_count (length l.fn.self.bound)) (leaf_tables l.fn.self.ram_pages) (table_pages l.fn.self.ram_pages (length l.fn.self.bound))
      (sight_in l.fn.self.bound (k / 512)) (k / 512) (k % 512) (lies_in_ram l.fn.self.ram_pages (k % 512)));
}
