use Rattle.std.proofs.Common.{◌≡◌, ℕ, ◌*◌, ◌/◌, ◌%◌, ◌≤◌, ◌∙◌, List, length, sym, ap, subst, arith}
use Rattle.spec_processor.specs.Bytes.{page_size}
use Rattle.sv_types.specs.Views.{all_free}
use Rattle.gstage_tables.specs.Blocks.{CountsTaken}
use Rattle.gstage_tables.specs.Layout.{leaf_tables, tree_count, table_pages, table_size, sight_in, max_bound, root_word}
use Rattle.gstage_tables.specs.Written.{Wrote}
use Rattle.gstage_tables.proofs.Counts.{counts_first}
use Rattle.gstage_tables.proofs.MapsBlocks.{maps_blocks}
use Rattle.gstage_tables.proofs.Walks.{are_views}
use Rattle.gstage_tables.proofs.Writes.{roots_filled, middles_filled}
use Rattle.gstage_tables.proofs.Trees.new.Goals as goal

pages_of : (size pages ram : ℕ) → ram ≡ pages → page_size * pages ≡ size → size / page_size ≡ ram
pages_of size pages ram e f = omega arith

pub fill_leaves-requires : goal.fill_leaves-requires
fill_leaves-requires c =
    let pages : ℕ = c.of_pages-trees.result.ram_pages in
    let whole : length c.args.mem.now.ram / page_size ≡ pages = pages_of (length c.args.mem.now.ram) c.ram_pages.result pages c.of_pages-trees.ensures.pages c.ram_pages.ensures.value in
    record {
      size = c.fill_middles.ensures.words.size ∙ c.fill_roots.ensures.words.size ∙ c.requires.size ∙ ap (λ (n : ℕ). table_size n (length c.args.bound.now)) whole
          ∙ ap (λ (list : List ℕ). table_size pages (length list)) (sym c.of_pages-trees.ensures.bound);
    }

pub returns-clause-drawn : goal.returns-clause-drawn
returns-clause-drawn c =
    let pages : ℕ = c.of_pages-trees.result.ram_pages in
    let bound : List ℕ = c.of_pages-trees.result.bound in
    let count = c.count-count.ensures.value in
    let a : List ℕ = c.args.mem.now.tables in
    let b : List ℕ = c.fill_roots.new.mem.tables in
    let d : List ℕ = c.fill_middles.new.mem.tables in
    let roots : Wrote a b (2048 * tree_count (length bound)) (λ k. k) (λ k. root_word (tree_count (length bound)) (k / 2048) (k % 2048)) =
    subst (λ (trees : ℕ). Wrote a b (2048 * trees) (λ k. k) (λ k. root_word trees (k / 2048) (k % 2048))) count c.fill_roots.ensures.words in
    let whole : length c.args.mem.now.ram / page_size ≡ pages = pages_of (length c.args.mem.now.ram) c.ram_pages.result pages c.of_pages-trees.ensures.pages c.ram_pages.ensures.value in
    record {
      holds = record {
        size = c.fill_leaves.ensures.size ∙ c.fill_middles.ensures.words.size ∙ roots.size ∙ c.requires.size ∙ ap (λ (n : ℕ). table_size n (length c.args.bound.now)) whole
            ∙ ap (λ (list : List ℕ). table_size pages (length list)) (sym c.of_pages-trees.ensures.bound);
        most = omega (arith, c.of_pages-trees.ensures.pages, c.ram_pages.ensures.value, c.ram_pages.ensures.region.most);
        few = subst (λ (list : List ℕ). length list ≤ max_bound) (sym c.of_pages-trees.ensures.bound) c.requires.few;
        roots = roots_filled pages (leaf_tables pages) (table_pages pages (length bound)) (tree_count (length bound)) (sight_in bound) a b d c.fill_leaves.new.mem.tables roots
            c.fill_middles.ensures.words c.fill_leaves.ensures.below;
        middles = middles_filled pages (leaf_tables pages) (table_pages pages (length bound)) (tree_count (length bound)) (sight_in bound) a b d c.fill_leaves.new.mem.tables roots
            c.fill_middles.ensures.words c.fill_leaves.ensures.below;
        leaves = c.fill_leaves.ensures.leaves;
      };
      counts = subst (λ (counts : List ℕ). CountsTaken counts c.of_pages-trees.result.ram_pages all_free) (sym c.of_pages-trees.ensures.counts) (counts_first c.of_pages-trees.result.ram_pages 512);
    }

pub returns-clause-views : goal.returns-clause-views
returns-clause-views c = are_views c.fill_leaves.new.mem.tables c.of_pages-trees.result.ram_pages c.of_pages-trees.result.bound all_free (returns-clause-drawn c).holds

pub returns-clause-blocks : goal.returns-clause-blocks
returns-clause-blocks c = maps_blocks c.fill_leaves.new.mem.tables c.of_pages-trees.result.ram_pages c.of_pages-trees.result.bound all_free (returns-clause-drawn c).holds
