use Rattle.std.proofs.Common.{◌≡◌, ℕ, ◌+◌, ◌*◌, ◌/◌, ◌%◌, ◌<◌, ◌∙◌, Bool, length, refl, ap, subst, arith, rules}
use Rattle.spec_processor.specs.Regions.{Region}
use Rattle.gstage_tables.specs.Layout.{leaf_tables, tree_count, table_pages, sight_in, middle_word}
use Rattle.gstage_tables.proofs.Writes.{wrote_next, wrote_all, row_inside, row_apart}
use Rattle.gstage_tables.proofs.Trees.fill_middles.Goals as goal

pub put-requires : goal.put-requires
put-requires c =
    let trees : ℕ = tree_count (length c.args.self.now.bound) in
    let below : c.loop-k.k < 512 * trees = subst (λ (n : ℕ). c.loop-k.k < 512 * n) c.count-k-end.ensures.value c.loop-k-test.true in
    row_inside trees (leaf_tables c.args.self.now.ram_pages) c.loop-k.k (2048 * c.count-first.result) _ _ c.loop-k.invariant.words.size c.requires.size
    (ap (λ (n : ℕ). 2048 * n) c.count-first.ensures.value) below

pub loop-k-preserved : goal.loop-k-preserved
loop-k-preserved c =
    let inv = c.loop-k.invariant in
    let trees : ℕ = tree_count (length c.args.self.now.bound) in
    let below : c.loop-k.k < 512 * trees = subst (λ (n : ℕ). c.loop-k.k < 512 * n) c.count-k-end.ensures.value c.loop-k-test.true in
    record {
      ram = ap (λ (r : Region). r.ram) c.put.ensures ∙ inv.ram;
      words = wrote_next (2048 * c.count-first.result + c.loop-k.k) c.middle.result inv.words (ap (λ (r : Region). r.tables) c.put.ensures)
          (ap (λ (n : ℕ). 2048 * n + c.loop-k.k) c.count-first.ensures.value)
          (c.middle.ensures ∙ ap (λ (whole : Bool). middle_word trees (leaf_tables c.args.self.now.ram_pages) (table_pages c.args.self.now.ram_pages (length c.args.self.now.bound))
          (sight_in c.args.self.now.bound (c.loop-k.k / 512)) (c.loop-k.k / 512) (c.loop-k.k % 512) whole) c.lies_in_ram.ensures)
          (search rules)
          (row_inside trees (leaf_tables c.args.self.now.ram_pages) c.loop-k.k (2048 * c.count-first.result) _ _ refl c.requires.size
          (ap (λ (n : ℕ). 2048 * n) c.count-first.ensures.value) below)
          (λ m l. row_apart (2048 * trees) m c.loop-k.k l);
    }

pub returns-clause-words : goal.returns-clause-words
returns-clause-words c =
    let end : c.loop-k.k ≡ 512 * c.count-k-end.result = omega arith in
    wrote_all c.loop-k.invariant.words (end ∙ ap (λ (n : ℕ). 512 * n) c.count-k-end.ensures.value)
