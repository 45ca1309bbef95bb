use Rattle.std.proofs.Common.{◌≡◌, ℕ, ◌+◌, ◌*◌, ◌/◌, ◌<◌, ◌∙◌, Bool, List, length, sym, ap, subst, rules}
use Rattle.std.specs.Prelude.{◌==◌, ◌&&◌, slice_set, slice_index_or}
use Rattle.spec_processor.specs.Regions.{Region}
use Rattle.sv_types.specs.Views.{protect}
use Rattle.sv_types.specs.declared.protection.Protection.{Protection}
use Rattle.sv_types.specs.Protections.{is_free}
use Rattle.gstage_tables.specs.Blocks.{is_whole_by, lies_in_ram, count_after, CountsTaken}
use Rattle.gstage_tables.specs.Layout.{Shape, AreDrawn, leaf_tables, tree_count, table_pages, sight_in, middle_word, HoldsTrees}
use Rattle.gstage_tables.specs.Written.{Wrote}
use Rattle.gstage_tables.specs.Protecting.{Protects}
use Rattle.gstage_tables.proofs.Counts.{whole_by_counts, whole_after, counts_set}
use Rattle.gstage_tables.proofs.MapsBlocks.{maps_blocks}
use Rattle.gstage_tables.proofs.Walks.{are_views}
use Rattle.gstage_tables.proofs.Writes.{holds_pages_set}
use Rattle.gstage_tables.proofs.Trees.set_counted.Goals as goal

-- the count as the definition has it
count_is : (count block page : ℕ) (was x w y : Bool) (counts : List ℕ) → count ≡ count_after (slice_index_or counts block 0) w y → block ≡ page / 512 → w ≡ was → y ≡ x
    → count ≡ count_after (slice_index_or counts (page / 512) 0) was x
count_is count block page was x w y counts e b f g =
    e ∙ ap (λ (i : ℕ). count_after (slice_index_or counts i 0) w y) b ∙ ap (λ (v : Bool). count_after (slice_index_or counts (page / 512) 0) v y) f
    ∙ ap (count_after (slice_index_or counts (page / 512) 0) was) g

-- what is drawn is seen and mapped
protects_by : (before after : Region) (trees new : Shape) (page : ℕ) (protection : Protection) → new ≡ record trees { counts = new.counts } → after.ram ≡ before.ram
    → ((old : ℕ → Protection) → AreDrawn before.tables trees old → AreDrawn after.tables new (protect old page protection)) → Protects before after trees new page protection
protects_by before after trees new page protection same ram drawn =
    let holds : (old : ℕ → Protection) → AreDrawn before.tables trees old → HoldsTrees after.tables trees.ram_pages trees.bound (protect old page protection) =
    λ old was. subst (λ (t : Shape). HoldsTrees after.tables t.ram_pages t.bound (protect old page protection)) same (drawn old was).holds in
    record {
      same = same;
      ram = ram;
      drawn = drawn;
      views = λ old was. are_views after.tables trees.ram_pages trees.bound (protect old page protection) (holds old was);
      blocks = λ old was. maps_blocks after.tables trees.ram_pages trees.bound (protect old page protection) (holds old was);
    }

pub returns-clause-protects : goal.returns-clause-protects
returns-clause-protects g c =
    protects_by c.args.mem.now c.set_block.new.mem c.args.self.now _ c.args.page c.args.protection (search rules) (search rules)
    (λ old drawn.
    let h = drawn.holds in
    let k = drawn.counts in
    let pages : ℕ = c.args.self.now.ram_pages in
    let bound : List ℕ = c.args.self.now.bound in
    let counts : List ℕ = c.args.self.now.counts in
    let page : ℕ = c.args.page in
    let block = c.block_of-block.ensures.value in
    let seen : c.self.inside.counts ≡ counts = ap (λ (trees : Shape). trees.counts) c.self.view_is in
    let reach : page / 512 < length counts = subst (λ (b : ℕ). b < length counts) block c.block_of-block.ensures.counted in
    let count = count_is c.count_after-count.result c.block_of-block.result page (is_free (old page)) (is_free c.args.protection) c.is_free-was_free.result c.is_free.result counts
    (c.count_after-count.ensures ∙ ap (λ (list : List ℕ). count_after (slice_index_or list c.block_of-block.result 0) c.is_free-was_free.result c.is_free.result) seen) block
    (c.is_free-was_free.ensures old h) c.is_free.ensures in
    let holds : HoldsTrees c.set_block.new.mem.tables pages bound (protect old page c.args.protection) =
    holds_pages_set c.args.mem.now.tables c.set_leaves.new.mem.tables c.set_block.new.mem.tables pages bound old page c.args.protection
    c.is_whole-before.result c.is_whole_with-after.result h c.requires.may.inside c.set_leaves.ensures.words
    (c.is_whole-before.ensures ∙ ap (is_whole_by counts pages) block ∙ whole_by_counts counts pages old (page / 512) k)
    (c.is_whole_with-after.ensures ∙ ap (λ (b : ℕ). lies_in_ram pages b && c.count_after-count.result == 0) block
    ∙ ap (λ (n : ℕ). lies_in_ram pages (page / 512) && n == 0) count ∙ whole_after counts pages old page c.args.protection k reach)
    (λ e. ap (λ (r : Region). r.tables) (c.set_block.ensures.same e))
    (λ ne. subst (λ (b : ℕ). Wrote c.set_leaves.new.mem.tables c.set_block.new.mem.tables (tree_count (length bound)) (λ tree. 512 * (4 * tree_count (length bound) + tree) + b)
    (λ tree. middle_word (tree_count (length bound)) (leaf_tables pages) (table_pages pages (length bound)) (sight_in bound tree) tree b c.is_whole_with-after.result)) block
    (c.set_block.ensures.words ne)) in
    let counted : CountsTaken (slice_set counts c.block_of-block.result c.count_after-count.result) pages (protect old page c.args.protection) =
    subst (λ (b : ℕ). CountsTaken (slice_set counts b c.count_after-count.result) pages (protect old page c.args.protection)) (sym block)
    (subst (λ (n : ℕ). CountsTaken (slice_set counts (page / 512) n) pages (protect old page c.args.protection)) (sym count)
    (counts_set counts pages old page c.args.protection k reach)) in
    record {
      holds = subst (λ (trees : Shape). HoldsTrees c.set_block.new.mem.tables trees.ram_pages trees.bound (protect old page c.args.protection)) (sym c.self.view_is) holds;
      counts = subst (λ (trees : Shape). CountsTaken (slice_set trees.counts c.block_of-block.result c.count_after-count.result) trees.ram_pages
          (protect old page c.args.protection)) (sym c.self.view_is) counted;
    })
