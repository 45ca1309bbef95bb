use Rattle.std.proofs.Common.{ℕ, ◌+◌, ◌*◌, ◌∙◌, length, ap, arith}
use Rattle.spec_processor.specs.Bytes.{word}
use Rattle.sv_types.specs.Views.{OfKernel}
use Rattle.gstage_tables.specs.Layout.{tree_count, table_pages}
use Rattle.gstage_tables.proofs.Counts.{free_told}
use Rattle.gstage_tables.proofs.Places.{leaf_there}
use Rattle.gstage_tables.proofs.Writes.{below_covered}
use Rattle.gstage_tables.proofs.Trees.is_free.Goals as goal

pub returns : goal.returns
returns c = λ old h.
    let pages : ℕ = c.args.self.now.ram_pages in
    let trees : ℕ = tree_count (length c.args.self.now.bound) in
    let n : ℕ = table_pages pages (length c.args.self.now.bound) in
    let at = ap (λ (first : ℕ). word c.args.mem.now.tables (8 * (512 * first + c.args.page)) 8) c.leaf_table.ensures.value in
    free_told c.entry_at-entry.result c.leaf.result (n + c.args.page) c.args.page (old c.args.page)
    (c.entry_at-entry.ensures ∙ at ∙ h.leaves 0 c.args.page (omega arith) (below_covered pages c.args.page c.requires.page) ∙ leaf_there pages n OfKernel old c.args.page c.requires.page)
    c.leaf.ensures
