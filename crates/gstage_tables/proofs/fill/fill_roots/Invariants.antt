use Rattle.std.proofs.Common.{◌≡◌, ◌/◌, ◌%◌}
use Rattle.gstage_tables.specs.Layout.{root_word}
use Rattle.gstage_tables.specs.Written.{Wrote}
use Rattle.gstage_tables.proofs.fill.fill_roots.Given as goal

abbrev pub invariant-loop-k : goal.invariant-loop-k
invariant-loop-k l = record {
  ram : l.mem.ram ≡ l.initial.mem.ram;
  words : Wrote l.initial.mem.tables l.mem.tables l.k (λ k. k) (λ k. root_word l.trees (k / 2048) (k % 2048));
}
