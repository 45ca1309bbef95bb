-- Blocks that one leaf maps.
use Rattle.std.proofs.Common.{◌≡◌, ℕ, ◌+◌, ◌*◌, ◌/◌, ◌%◌, ◌<◌, ◌≤◌, Bool, true, false, List, length, refl, ap, ◌∙◌, arith}
use Rattle.std.specs.Prelude.{nat_le, ◌==◌}
use Rattle.std.proofs.lemmas.Bool.{le-leb}
use Rattle.spec_processor.specs.Translation.{is_leaf}
use Rattle.sv_types.specs.Views.{Sight}
use Rattle.sv_types.specs.declared.protection.Protection.{Protection}
use Rattle.sv_types.specs.declared.protection.Protection.TheVariants.{Free}
use Rattle.gstage_tables.specs.Blocks.{is_whole, taken_pages}
use Rattle.gstage_tables.specs.Layout.{leaf_tables, table_pages, tree_count, sight_in, middle_word, HoldsTrees, MapsBlocks}
use Rattle.gstage_tables.proofs.Bits.{leaf_is_leaf, pointer_no_leaf}
use Rattle.gstage_tables.proofs.Places.{middle_there, middle_whole}
use Rattle.gstage_tables.proofs.Walks.{low, block_multiple, few_table_pages}

by_form : (trees t n : ℕ) (sight : Sight) (tree i : ℕ) (whole : Bool) → tree < trees → trees ≤ 66 → t ≤ 512 → i < t → n ≤ 34304 → n % 512 ≡ 0
    → is_leaf 1 (middle_word trees t n sight tree i whole) ≡ whole
by_form trees t n sight tree i true l few few_tables some small aligned =
    ap (is_leaf 1) (middle_whole trees t n sight tree i true some refl) ∙ leaf_is_leaf 1 sight (512 * i) Free (n + 512 * i) (omega arith) (omega arith)
by_form trees t n sight tree i false l few few_tables some small aligned =
    ap (is_leaf 1) (middle_there trees t n sight tree i false some refl) ∙ pointer_no_leaf 1 (5 * trees + tree * t + i) (low trees tree t i l few few_tables some)

module _ (tables : List ℕ) (pages : ℕ) (bound : List ℕ) (ps : ℕ → Protection) (h : HoldsTrees tables pages bound ps) where
  abbrev trees : ℕ
  trees = tree_count (length bound)

  abbrev t : ℕ
  t = leaf_tables pages

  leaf_there : (tree block : ℕ) → tree < trees → 512 * block + 512 ≤ pages
      → is_leaf 1 (middle_word trees t (table_pages pages (length bound)) (sight_in bound tree) tree block (is_whole pages ps block)) ≡ is_whole pages ps block
  leaf_there tree block l lies =
      let most = h.most in
      let few = h.few in
      let few_trees : trees ≤ 66 = omega arith in
      let few_tables : t ≤ 512 = omega arith in
      let some : block < t = omega arith in
      by_form trees t (table_pages pages (length bound)) (sight_in bound tree) tree block (is_whole pages ps block) l few_trees few_tables some
      (few_table_pages trees t few_trees few_tables) (block_multiple ((5 * trees + trees * t + 511) / 512))

  in_reach : (block : ℕ) → 512 * block + 512 ≤ pages → block < 512
  in_reach block lies = let most = h.most in omega arith

  whole_is : (block : ℕ) → 512 * block + 512 ≤ pages → is_whole pages ps block ≡ (taken_pages ps block == 0)
  whole_is block lies = let e : nat_le (512 * block + 512) pages ≡ true = le-leb (512 * block + 512) pages lies in rw e refl

  pub maps_blocks : MapsBlocks tables pages bound ps
  maps_blocks = record {
    each = λ tree block l lies. ap (is_leaf 1) (h.middles tree block l (in_reach block lies)) ∙ leaf_there tree block l lies ∙ whole_is block lies;
  }
