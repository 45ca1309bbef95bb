use Rattle.std.proofs.Common.{◌+◌, ◌*◌, ◌/◌, ◌%◌, ◌<◌, ◌≤◌, ◌∙◌, length, refl, ap, arith, rules}
use Rattle.spec_processor.specs.Regions.{Region}
use Rattle.gstage_tables.specs.Layout.{root_word}
use Rattle.gstage_tables.proofs.Writes.{wrote_none, wrote_more}
use Rattle.gstage_tables.proofs.fill.fill_roots.Goals as goal

pub loop-k-init : goal.loop-k-init
loop-k-init c = record { ram = refl; words = wrote_none c.args.mem.now.tables (λ k. k) (λ k. root_word c.args.trees (k / 2048) (k % 2048)) }

pub loop-k-preserved : goal.loop-k-preserved
loop-k-preserved c =
    let inv = c.loop-k.invariant in
    let size = c.requires.size in
    let below : c.loop-k.k < 2048 * c.args.trees = search rules in
    let fits : 8 * c.loop-k.k + 8 ≤ length c.args.mem.now.tables = omega arith in
    record {
      ram = ap (λ (r : Region). r.ram) c.put.ensures ∙ inv.ram;
      words = wrote_more c.args.mem.now.tables c.loop-k.mem c.put.new.mem c.loop-k.k (λ k. k) (λ k. root_word c.args.trees (k / 2048) (k % 2048))
          c.loop-k.k c.root_word.result inv.words c.put.ensures refl c.root_word.ensures (search rules) fits (λ m l. omega arith);
    }
