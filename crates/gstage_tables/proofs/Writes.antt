-- What writes of words leave of the trees.
use Rattle.std.proofs.Common.{◌≡◌, ◌≢◌, ℕ, ◌+◌, ◌*◌, ◌/◌, ◌%◌, ◌^◌, ◌<◌, ◌≤◌, inl, inr, true, false, List, length, refl, sym, ap, subst, ◌∙◌, arith}
use Rattle.std.specs.Prelude.{Bool, ◌==◌, ◌&&◌}
use borrow.Author.Tests.{ne_eqb, eq-eqb}
use Rattle.spec_processor.specs.Bytes.{word, write_word, page_size}
use Rattle.spec_processor.specs.Regions.{Region}
use Rattle.sv_types.specs.Views.{Sight, protect, all_free}
use Rattle.sv_types.specs.declared.protection.Protection.{Protection}
use Rattle.laws_processor.proofs.ByteLemmas.{lt_or_le, word_written, word_elsewhere, length_write_word}
use Rattle.gstage_tables.specs.Blocks.{is_whole, lies_in_ram}
use Rattle.gstage_tables.specs.Layout.{leaf_tables, table_pages, tree_count, sight_in, leaf, root_word, middle_word, leaf_word, HoldsTrees}
use Rattle.gstage_tables.specs.Written.{Wrote}
use Rattle.gstage_tables.proofs.Counts.{equal, unequal, same_or_not, block_none, block_kept}
use Rattle.gstage_tables.proofs.Places.{leaf_there}
use Rattle.gstage_tables.proofs.Walks.{in_front}

-- ---- words

word_there : (tables : List ℕ) (k value : ℕ) → 8 * k + 8 ≤ length tables → value < 2 ^ 64 → word (write_word tables (8 * k) 8 value) (8 * k) 8 ≡ value
word_there tables k value fits small = word_written tables (8 * k) 8 value fits ∙ omega arith

word_kept : (tables : List ℕ) (k value j : ℕ) → 8 * k + 8 ≤ length tables → j ≢ k → word (write_word tables (8 * k) 8 value) (8 * j) 8 ≡ word tables (8 * j) 8
word_kept tables k value j fits ne = elim (lt_or_le j k) [
  | inl l ↦ word_elsewhere tables (8 * k) 8 value (8 * j) 8 fits (inl (omega arith))
  | inr l ↦ word_elsewhere tables (8 * k) 8 value (8 * j) 8 fits (inr (omega arith))
]

-- ---- words that were written one after the other

pub wrote_none : (tables : List ℕ) (place value : ℕ → ℕ) → Wrote tables tables 0 place value
wrote_none tables place value = record { size = refl; written = λ n l. absurd (omega arith); kept = λ k others. refl }

wrote_word : (before now : List ℕ) (n : ℕ) (place value : ℕ → ℕ) (k v : ℕ) → Wrote before now n place value → k ≡ place n → v ≡ value n → v < 2 ^ 64
    → 8 * k + 8 ≤ length before → ((m : ℕ) → m < n → place m ≢ place n) → Wrote before (write_word now (8 * k) 8 v) (n + 1) place value
wrote_word before now n place value k v so at is small fits apart =
    let size : length now ≡ length before = so.size in
    let there : 8 * k + 8 ≤ length now = omega arith in
    record {
      size = length_write_word now (8 * k) 8 v there ∙ size;
      written = λ m l. elim (same_or_not m n) [
        | equal same ↦ rw (same, ← at) (word_there now k v there small ∙ is)
        | unequal ne ↦ word_kept now k v (place m) there (λ e. apart m (omega arith) (e ∙ at)) ∙ so.written m (omega arith)
      ];
      kept = λ j others. word_kept now k v j there (λ e. others n (omega arith) (e ∙ at)) ∙ so.kept j (λ m l. others m (omega arith));
    }

-- one word more of a region's tables
pub wrote_more : (before : List ℕ) (now after : Region) (n : ℕ) (place value : ℕ → ℕ) (k v : ℕ) → Wrote before now.tables n place value
    → after ≡ record now { tables = write_word now.tables (8 * k) 8 v } → k ≡ place n → v ≡ value n → v < 2 ^ 64
    → 8 * k + 8 ≤ length before → ((m : ℕ) → m < n → place m ≢ place n) → Wrote before after.tables (n + 1) place value
wrote_more before now after n place value k v so e at is small fits apart =
    subst (λ (r : Region). Wrote before r.tables (n + 1) place value) (sym e) (wrote_word before now.tables n place value k v so at is small fits apart)

-- the same, where the region's tables alone are spoken of
pub wrote_next : {before now after : List ℕ} {n : ℕ} {place value : ℕ → ℕ} (k v : ℕ) → Wrote before now n place value → after ≡ write_word now (8 * k) 8 v
    → k ≡ place n → v ≡ value n → v < 2 ^ 64 → 8 * k + 8 ≤ length before → ((m : ℕ) → m < n → place m ≢ place n) → Wrote before after (n + 1) place value
wrote_next {before} {now} {after} {n} {place} {value} k v so e at is small fits apart =
    subst (λ (tables : List ℕ). Wrote before tables (n + 1) place value) (sym e) (wrote_word before now n place value k v so at is small fits apart)

-- all of them
pub wrote_all : {before after : List ℕ} {n count : ℕ} {place value : ℕ → ℕ} → Wrote before after n place value → n ≡ count → Wrote before after count place value
wrote_all {before} {after} {n} {count} {place} {value} so e = subst (λ (m : ℕ). Wrote before after m place value) e so

-- a tree's level-0 word lies in the tables
pub leaf_inside : (trees t tree p first size now : ℕ) → now ≡ size → size ≡ page_size * (512 * ((5 * trees + trees * t + 511) / 512)) → first ≡ 5 * trees + tree * t → tree < trees → p < 512 * t
    → 8 * (512 * first + p) + 8 ≤ now
leaf_inside trees t tree p first size now same is at l h = let front = in_front tree trees t l in omega arith

-- a level-1 word lies in the tables
pub row_inside : (trees t k first size now : ℕ) → now ≡ size → size ≡ page_size * (512 * ((5 * trees + trees * t + 511) / 512)) → first ≡ 2048 * trees → k < 512 * trees
    → 8 * (first + k) + 8 ≤ now
row_inside trees t k first size now same is at l = omega arith

-- places of a row, and places of the same page in several trees
pub row_apart : (a m p : ℕ) → m < p → a + m ≢ a + p
row_apart a m p l = omega arith

pub trees_apart : (trees t page m tree : ℕ) → m < tree → page < 512 * t → 512 * (5 * trees + m * t) + page ≢ 512 * (5 * trees + tree * t) + page
trees_apart trees t page m tree l h = let front = in_front m tree t l in omega arith

pub below_covered : (pages page : ℕ) → page < pages → page < 512 * ((pages + 511) / 512)
below_covered pages page l = omega arith

-- ---- the trees where all words were written

-- a word's place in a row of tables
root_place : (tree i : ℕ) → i < 2048 → ((512 * (4 * tree) + i) / 2048 ≡ tree) × ((512 * (4 * tree) + i) % 2048 ≡ i)
root_place tree i l = (omega arith, omega arith)

middle_place : (tree i : ℕ) → i < 512 → ((512 * tree + i) / 512 ≡ tree) × ((512 * tree + i) % 512 ≡ i)
middle_place tree i l = (omega arith, omega arith)

and_true : (b : Bool) → b && true ≡ b
and_true true = refl
and_true false = refl

-- where all pages are free, a block is whole that lies in RAM
whole_at_first : (pages block : ℕ) → lies_in_ram pages block ≡ is_whole pages all_free block
whole_at_first pages block = rw (block_none block) (sym (and_true (lies_in_ram pages block)))

module _ (pages t n trees : ℕ) (sights : ℕ → Sight) (first second third fourth : List ℕ)
    (roots : Wrote first second (2048 * trees) (λ k. k) (λ k. root_word trees (k / 2048) (k % 2048)))
    (middles : Wrote second third (512 * trees) (λ k. 2048 * trees + k)
    (λ k. middle_word trees t n (sights (k / 512)) (k / 512) (k % 512) (lies_in_ram pages (k % 512))))
    (below : (k : ℕ) → k < 2560 * trees → word fourth (8 * k) 8 ≡ word third (8 * k) 8) where
  pub roots_filled : (tree i : ℕ) → tree < trees → i < 2048 → word fourth (8 * (512 * (4 * tree) + i)) 8 ≡ root_word trees tree i
  roots_filled tree i l h =
      let k : ℕ = 512 * (4 * tree) + i in
      let at = root_place tree i h in
      let inside : k < 2048 * trees = omega arith in
      below k (omega arith) ∙ middles.kept k (λ n less. omega arith) ∙ roots.written k inside
      ∙ ap (λ (v : ℕ). root_word trees v (k % 2048)) at.0 ∙ ap (root_word trees tree) at.1

  pub middles_filled : (tree i : ℕ) → tree < trees → i < 512
      → word fourth (8 * (512 * (4 * trees + tree) + i)) 8 ≡ middle_word trees t n (sights tree) tree i (is_whole pages all_free i)
  middles_filled tree i l h =
      let k : ℕ = 512 * tree + i in
      let at = middle_place tree i h in
      let inside : k < 512 * trees = omega arith in
      let same : 512 * (4 * trees + tree) + i ≡ 2048 * trees + k = omega arith in
      ap (λ (j : ℕ). word fourth (8 * j) 8) same ∙ below (2048 * trees + k) (omega arith) ∙ middles.written k inside
      ∙ ap (λ (v : ℕ). middle_word trees t n (sights v) v (k % 512) (lies_in_ram pages (k % 512))) at.0
      ∙ ap (λ (j : ℕ). middle_word trees t n (sights tree) tree j (lies_in_ram pages j)) at.1
      ∙ ap (middle_word trees t n (sights tree) tree i) (whole_at_first pages i)

-- ---- the trees where a page's entry was written in each

module _ (before after : List ℕ) (pages t n trees page : ℕ) (sights : ℕ → Sight) (ps : ℕ → Protection) (protection : Protection)
    (so : Wrote before after trees (λ tree. 512 * (5 * trees + tree * t) + page) (λ tree. leaf (sights tree) page protection (n + page)))
    (inside : page < pages) (covers : pages ≤ 512 * t) where
  pub roots_kept : (tree i : ℕ) → tree < trees → i < 2048 → word after (8 * (512 * (4 * tree) + i)) 8 ≡ word before (8 * (512 * (4 * tree) + i)) 8
  roots_kept tree i l h = so.kept (512 * (4 * tree) + i) (λ other less. omega arith)

  pub middles_kept : (tree i : ℕ) → tree < trees → i < 512 → word after (8 * (512 * (4 * trees + tree) + i)) 8 ≡ word before (8 * (512 * (4 * trees + tree) + i)) 8
  middles_kept tree i l h = so.kept (512 * (4 * trees + tree) + i) (λ other less. omega arith)

  abbrev now : ℕ → Protection
  now = protect ps page protection

  leaf_kept : (sight : Sight) (p : ℕ) → p ≢ page → leaf_word pages n sight now p ≡ leaf_word pages n sight ps p
  unfolding leaf_word
  leaf_kept sight p ne = let e : (p == page) ≡ false = ne_eqb p page ne in rw e refl

  leaf_set : (sight : Sight) → leaf_word pages n sight now page ≡ leaf sight page protection (n + page)
  leaf_set sight = let e : (page == page) ≡ true = eq-eqb page page refl in leaf_there pages n sight now page inside ∙ rw e refl

  -- the entry of another page is none of those that were written
  elsewhere : (tree p other : ℕ) → p < 512 * t → p ≢ page → 512 * (5 * trees + tree * t) + p ≢ 512 * (5 * trees + other * t) + page
  elsewhere tree p other l ne e = elim (lt_or_le tree other) [
    | inl less ↦ let front = in_front tree other t less in absurd (omega arith)
    | inr more ↦ elim (lt_or_le other tree) [
      | inl less ↦ let front = in_front other tree t less in absurd (omega arith)
      | inr least ↦ let same : tree ≡ other = omega arith in
          let e2 : 512 * (5 * trees + tree * t) + p ≡ 512 * (5 * trees + tree * t) + page = e ∙ ap (λ (v : ℕ). 512 * (5 * trees + v * t) + page) (sym same) in
          ne (omega arith)
    ]
  ]

  pub leaves_set : ((tree p : ℕ) → tree < trees → p < 512 * t → word before (8 * (512 * (5 * trees + tree * t) + p)) 8 ≡ leaf_word pages n (sights tree) ps p)
      → (tree p : ℕ) → tree < trees → p < 512 * t → word after (8 * (512 * (5 * trees + tree * t) + p)) 8 ≡ leaf_word pages n (sights tree) now p
  leaves_set old tree p l h = elim (same_or_not p page) [
    | equal same ↦ ap (λ (q : ℕ). word after (8 * (512 * (5 * trees + tree * t) + q)) 8) same ∙ so.written tree l
        ∙ sym (leaf_set (sights tree)) ∙ ap (leaf_word pages n (sights tree) now) (sym same)
    | unequal ne ↦ so.kept (512 * (5 * trees + tree * t) + p) (λ other less. elsewhere tree p other h ne)
        ∙ old tree p l h ∙ sym (leaf_kept (sights tree) p ne)
  ]

-- ---- the trees where a block's entry was written in each

module _ (before after : List ℕ) (pages t n trees block : ℕ) (sights : ℕ → Sight) (whole : Bool)
    (so : Wrote before after trees (λ tree. 512 * (4 * trees + tree) + block) (λ tree. middle_word trees t n (sights tree) tree block whole))
    (reach : block < 512) where
  pub roots_stay : (tree i : ℕ) → tree < trees → i < 2048 → word after (8 * (512 * (4 * tree) + i)) 8 ≡ word before (8 * (512 * (4 * tree) + i)) 8
  roots_stay tree i l h = so.kept (512 * (4 * tree) + i) (λ other less. omega arith)

  pub leaves_stay : (tree p : ℕ) → tree < trees → p < 512 * t → word after (8 * (512 * (5 * trees + tree * t) + p)) 8 ≡ word before (8 * (512 * (5 * trees + tree * t) + p)) 8
  leaves_stay tree p l h = so.kept (512 * (5 * trees + tree * t) + p) (λ other less. omega arith)

  pub middle_stays : (tree i : ℕ) → tree < trees → i < 512 → i ≢ block → word after (8 * (512 * (4 * trees + tree) + i)) 8 ≡ word before (8 * (512 * (4 * trees + tree) + i)) 8
  middle_stays tree i l h ne = so.kept (512 * (4 * trees + tree) + i) (λ other less. omega arith)

-- ---- one page's protection set

-- another block is whole as before
whole_kept : (pages : ℕ) (ps : ℕ → Protection) (page : ℕ) (x : Protection) (block : ℕ) → page / 512 ≢ block
    → is_whole pages ps block ≡ is_whole pages (protect ps page x) block
whole_kept pages ps page x block ne = ap (λ (count : ℕ). lies_in_ram pages block && count == 0) (sym (block_kept ps page x block ne))

module _ (before pages_set : List ℕ) (pages : ℕ) (bound : List ℕ) (ps : ℕ → Protection) (page : ℕ) (x : Protection) (h : HoldsTrees before pages bound ps) (inside : page < pages)
    (so : Wrote before pages_set (tree_count (length bound)) (λ tree. 512 * (5 * tree_count (length bound) + tree * leaf_tables pages) + page)
    (λ tree. leaf (sight_in bound tree) page x (table_pages pages (length bound) + page))) where
  abbrev t1 : ℕ
  t1 = leaf_tables pages

  abbrev n1 : ℕ
  n1 = table_pages pages (length bound)

  abbrev trees1 : ℕ
  trees1 = tree_count (length bound)

  covers1 : pages ≤ 512 * t1
  covers1 = omega arith

  -- where its block stays as it was, whole or not
  pub holds_page : is_whole pages ps (page / 512) ≡ is_whole pages (protect ps page x) (page / 512) → HoldsTrees pages_set pages bound (protect ps page x)
  holds_page same = record {
    size = so.size ∙ h.size;
    most = h.most;
    few = h.few;
    roots = λ tree i l k. roots_kept before pages_set pages t1 n1 trees1 page (sight_in bound) ps x so inside covers1 tree i l k ∙ h.roots tree i l k;
    middles = λ tree i l k. middles_kept before pages_set pages t1 n1 trees1 page (sight_in bound) ps x so inside covers1 tree i l k ∙ h.middles tree i l k
        ∙ ap (middle_word trees1 t1 n1 (sight_in bound tree) tree i) (elim (same_or_not (page / 512) i) [
          | equal e ↦ subst (λ (block : ℕ). is_whole pages ps block ≡ is_whole pages (protect ps page x) block) e same
          | unequal ne ↦ whole_kept pages ps page x i ne
        ]);
    leaves = leaves_set before pages_set pages t1 n1 trees1 page (sight_in bound) ps x so inside covers1 h.leaves;
  }

  -- where its block's entry was written too
  pub holds_block : (after : List ℕ) → Wrote pages_set after trees1 (λ tree. 512 * (4 * trees1 + tree) + page / 512)
      (λ tree. middle_word trees1 t1 n1 (sight_in bound tree) tree (page / 512) (is_whole pages (protect ps page x) (page / 512)))
      → HoldsTrees after pages bound (protect ps page x)
  holds_block after then_so =
      let most = h.most in
      let reach : page / 512 < 512 = omega arith in
      let whole : Bool = is_whole pages (protect ps page x) (page / 512) in
      record {
        size = then_so.size ∙ so.size ∙ h.size;
        most = h.most;
        few = h.few;
        roots = λ tree i l k. roots_stay pages_set after pages t1 n1 trees1 (page / 512) (sight_in bound) whole then_so reach tree i l k
            ∙ roots_kept before pages_set pages t1 n1 trees1 page (sight_in bound) ps x so inside covers1 tree i l k ∙ h.roots tree i l k;
        middles = λ tree i l k. elim (same_or_not (page / 512) i) [
          | equal e ↦ subst (λ (block : ℕ). word after (8 * (512 * (4 * trees1 + tree) + block)) 8
              ≡ middle_word trees1 t1 n1 (sight_in bound tree) tree block (is_whole pages (protect ps page x) block)) e (then_so.written tree l)
          | unequal ne ↦ middle_stays pages_set after pages t1 n1 trees1 (page / 512) (sight_in bound) whole then_so reach tree i l k (λ same. ne (sym same))
              ∙ middles_kept before pages_set pages t1 n1 trees1 page (sight_in bound) ps x so inside covers1 tree i l k ∙ h.middles tree i l k
              ∙ ap (middle_word trees1 t1 n1 (sight_in bound tree) tree i) (whole_kept pages ps page x i ne)
        ];
        leaves = λ tree p l k. leaves_stay pages_set after pages t1 n1 trees1 (page / 512) (sight_in bound) whole then_so reach tree p l k
            ∙ leaves_set before pages_set pages t1 n1 trees1 page (sight_in bound) ps x so inside covers1 h.leaves tree p l k;
      }

pub holds_pages_set : (before middle after : List ℕ) (pages : ℕ) (bound : List ℕ) (ps : ℕ → Protection) (page : ℕ) (x : Protection) (was now : Bool)
    → HoldsTrees before pages bound ps → page < pages
    → Wrote before middle (tree_count (length bound)) (λ tree. 512 * (5 * tree_count (length bound) + tree * leaf_tables pages) + page)
    (λ tree. leaf (sight_in bound tree) page x (table_pages pages (length bound) + page))
    → was ≡ is_whole pages ps (page / 512) → now ≡ is_whole pages (protect ps page x) (page / 512)
    → (was ≡ now → after ≡ middle)
    → (was ≢ now → Wrote middle after (tree_count (length bound)) (λ tree. 512 * (4 * tree_count (length bound) + tree) + page / 512)
    (λ tree. middle_word (tree_count (length bound)) (leaf_tables pages) (table_pages pages (length bound)) (sight_in bound tree) tree (page / 512) now))
    → HoldsTrees after pages bound (protect ps page x)
holds_pages_set before middle after pages bound ps page x true true h inside so was now same changed =
    subst (λ (tables : List ℕ). HoldsTrees tables pages bound (protect ps page x)) (sym (same refl)) (holds_page before middle pages bound ps page x h inside so (sym was ∙ now))
holds_pages_set before middle after pages bound ps page x false false h inside so was now same changed =
    subst (λ (tables : List ℕ). HoldsTrees tables pages bound (protect ps page x)) (sym (same refl)) (holds_page before middle pages bound ps page x h inside so (sym was ∙ now))
holds_pages_set before middle after pages bound ps page x true false h inside so was now same changed =
    holds_block before middle pages bound ps page x h inside so after
    (subst (λ (whole : Bool). Wrote middle after (tree_count (length bound)) (λ tree. 512 * (4 * tree_count (length bound) + tree) + page / 512)
    (λ tree. middle_word (tree_count (length bound)) (leaf_tables pages) (table_pages pages (length bound)) (sight_in bound tree) tree (page / 512) whole)) now (changed (λ e. cc)))
holds_pages_set before middle after pages bound ps page x false true h inside so was now same changed =
    holds_block before middle pages bound ps page x h inside so after
    (subst (λ (whole : Bool). Wrote middle after (tree_count (length bound)) (λ tree. 512 * (4 * tree_count (length bound) + tree) + page / 512)
    (λ tree. middle_word (tree_count (length bound)) (leaf_tables pages) (table_pages pages (length bound)) (sight_in bound tree) tree (page / 512) whole)) now (changed (λ e. cc)))

-- ---- a tree's level-0 tables filled after those of others

module _ (before now after : List ℕ) (t trees tree : ℕ) (value : ℕ → ℕ → ℕ)
    (so : Wrote now after (512 * t) (λ p. 512 * (5 * trees + tree * t) + p) (value tree)) where
  pub below_kept : (k : ℕ) → k < 2560 * trees → word now (8 * k) 8 ≡ word before (8 * k) 8 → word after (8 * k) 8 ≡ word before (8 * k) 8
  below_kept k l old = so.kept k (λ p less. omega arith) ∙ old

  pub leaves_more : ((other p : ℕ) → other < tree → p < 512 * t → word now (8 * (512 * (5 * trees + other * t) + p)) 8 ≡ value other p)
      → (other p : ℕ) → other < tree + 1 → p < 512 * t → word after (8 * (512 * (5 * trees + other * t) + p)) 8 ≡ value other p
  leaves_more old other p l h = elim (lt_or_le other tree) [
    | inl less ↦ let front = in_front other tree t less in
        so.kept (512 * (5 * trees + other * t) + p) (λ q below. omega arith) ∙ old other p less h
    | inr most ↦ let same : other ≡ tree = omega arith in
        rw same (so.written p h)
  ]
