-- Where walks of the trees lead: each root is a view.
use Rattle.std.proofs.Common.{◌≡◌, ◌≢◌, ℕ, zero, suc, ◌+◌, ◌-◌, ◌*◌, ◌/◌, ◌%◌, ◌^◌, ◌<◌, ◌≤◌, inl, inr, Bool, true, false, List, [], ◌∷◌, length, refl, sym, ap, subst, ◌∙◌, arith, mul-le-mul_right}
use Rattle.std.specs.Prelude.{Option, Some, ◌==◌, ◌&&◌, nat_lt, nat_le, if◌then◌else◌, slice_get, slice_index_or, option_map}
use borrow.Author.Tests.{le-leb, lt-ltb, le-ltb, ne_eqb}
use Rattle.std.proofs.lemmas.Bool.{lt-leb, leb-true, eqb-true, and_parts}
use Rattle.std.proofs.lemmas.Bool.Decides.{nat_tests}
use Rattle.std.proofs.lemmas.Option.{same_Some}
use Rattle.spec_processor.specs.Bytes.{word, page_of, ram_offset, page_size, ram_base}
use Rattle.spec_processor.specs.Regions.{host_word}
use Rattle.spec_processor.specs.Instructions.{bits}
use Rattle.spec_processor.specs.Translation.{walk, root_of, Destination, At, PageFault}
use Rattle.sv_types.specs.Views.{IsView, AreViews, Sight, OfKernel, OfUser, OfEntry, sight_of, view_hgatp, view_answer, view_permits, page_in_ram, with_ram}
use Rattle.spec_processor.specs.GStage.{walk_guest, address_at, guest_destination, entry_in_tables, entry_in_region, host_entry, permits_guest, guest_address_bits}
use Rattle.spec_processor.specs.declared.access.Access.{Access}
use Rattle.spec_processor.specs.declared.access.Access.TheVariants.{Fetch, Load, Store}
use Rattle.sv_types.specs.declared.protection.Protection.{Protection}
use Rattle.sv_types.specs.declared.protection.Protection.TheVariants.{Free}
use Rattle.sv_types.specs.declared.view.View.{View}
use Rattle.laws_processor.proofs.ByteLemmas.{lt_or_le}
use Rattle.laws_processor.proofs.Walks.{address_chosen}
use Rattle.gstage_tables.specs.Blocks.{is_whole, taken_pages}
use Rattle.gstage_tables.specs.Layout.{leaf_tables, table_pages, table_size, tree_count, sight_in, pointer, leaf, root_word, middle_word, leaf_word, HoldsTrees}
use Rattle.gstage_tables.proofs.Bits.{pointer_gives, zero_gives, leaf_gives}
use Rattle.gstage_tables.proofs.Counts.{block_free, by_test}
use Rattle.gstage_tables.proofs.Places.{root_two, root_other, middle_there, middle_whole, middle_past, leaf_there, leaf_past}

-- ---- one step

step_zero : (read : ℕ → Option ℕ) (grants : ℕ → Bool) (i : ℕ) (is : List ℕ) (table a : ℕ) → read (table + 8 * i) ≡ Some 0
    → walk read grants (i ∷ is) table a ≡ PageFault
unfolding walk
step_zero read grants i is table a e = rw e (zero_gives grants (length is) (table + 8 * i) a (λ next. walk read grants is next a))

step_on : (read : ℕ → Option ℕ) (grants : ℕ → Bool) (i : ℕ) (is : List ℕ) (table a p : ℕ) → read (table + 8 * i) ≡ Some (pointer p) → p < 2 ^ 44
    → walk read grants (i ∷ is) table a ≡ walk read grants is (page_size * p) a
unfolding walk
step_on read grants i is table a p e l = rw e (pointer_gives grants (length is) (table + 8 * i) a p (λ next. walk read grants is next a) l)

step_leaf : (read : ℕ → Option ℕ) (access : Access) (i table a host : ℕ) (sight : Sight) (page : ℕ) (protection : Protection) → read (table + 8 * i) ≡
    Some (leaf sight page protection host) → host < 2 ^ 44
    → walk read (permits_guest access) (i ∷ []) table a ≡ (if view_permits sight page protection access then At (page_size * host + a % page_size) else PageFault)
unfolding walk
step_leaf read access i table a host sight page protection e l =
    let whole : host % 1 ≡ 0 = omega arith in
    rw e (leaf_gives 0 sight page protection host (table + 8 * i) a access (λ next. walk read (permits_guest access) [] next a) l whole)

-- a leaf of level 1
step_block : (read : ℕ → Option ℕ) (access : Access) (i j table a host : ℕ) (sight : Sight) (page : ℕ) (protection : Protection) → read (table + 8 * i) ≡
    Some (leaf sight page protection host) → host < 2 ^ 44
    → host % 512 ≡ 0 → walk read (permits_guest access) (i ∷ j ∷ []) table a ≡ (if view_permits sight page protection access then At (page_size * host + a % 2097152) else PageFault)
unfolding walk
step_block read access i j table a host sight page protection e l whole =
    rw e (leaf_gives 1 sight page protection host (table + 8 * i) a access (λ next. walk read (permits_guest access) (j ∷ []) next a) l whole)

-- ---- a reader that gives the words of the trees

-- of so many trees, each with t level-0 tables, in n pages, which end at a multiple of 2 MiB
pub record Reads (read : ℕ → Option ℕ) (pages t n trees : ℕ) (sights : ℕ → Sight) (ps : ℕ → Protection) : Type 0 where
  pub covers : pages ≤ 512 * t
  pub few_tables : t ≤ 512
  pub few_trees : trees ≤ 66
  pub few_pages : n ≤ 34304
  pub aligned : n % 512 ≡ 0
  pub roots : (tree i : ℕ) → tree < trees → i < 2048 → read (8 * (512 * (4 * tree) + i)) ≡ Some (root_word trees tree i)
  pub middles : (tree i : ℕ) → tree < trees → i < 512 → read (8 * (512 * (4 * trees + tree) + i)) ≡ Some (middle_word trees t n (sights tree) tree i (is_whole pages ps i))
  pub leaves : (tree p : ℕ) → tree < trees → p < 512 * t → read (8 * (512 * (5 * trees + tree * t) + p)) ≡ Some (leaf_word pages n (sights tree) ps p)

-- ---- whether an address lies in RAM

not_below : (pages gpa : ℕ) → gpa < ram_base → page_in_ram pages gpa ≡ false
not_below pages gpa l = let e : nat_le ram_base gpa ≡ false = lt-leb ram_base gpa l in rw e refl

not_past : (pages gpa : ℕ) → ram_base ≤ gpa → pages ≤ (gpa - ram_base) / page_size → page_in_ram pages gpa ≡ false
not_past pages gpa above l =
    let e : nat_le ram_base gpa ≡ true = le-leb ram_base gpa above in
    let f : nat_lt ((gpa - ram_base) / page_size) pages ≡ false = le-ltb ((gpa - ram_base) / page_size) pages l in rw (e, f) refl

within : (pages gpa : ℕ) → ram_base ≤ gpa → (gpa - ram_base) / page_size < pages → page_in_ram pages gpa ≡ true
within pages gpa above l =
    let e : nat_le ram_base gpa ≡ true = le-leb ram_base gpa above in
    let f : nat_lt ((gpa - ram_base) / page_size) pages ≡ true = lt-ltb ((gpa - ram_base) / page_size) pages l in rw (e, f) refl

-- ---- where a walk leads

abbrev pub leads : ℕ → ℕ → Sight → (ℕ → Protection) → ℕ → Access → Destination
leads table_bytes pages sight ps gpa access =
    if page_in_ram pages gpa && view_permits sight (page_of gpa) (ps (page_of gpa)) access then At (table_bytes + ram_offset gpa) else PageFault

outside : (table_bytes pages : ℕ) (sight : Sight) (ps : ℕ → Protection) (gpa : ℕ) (access : Access) → page_in_ram pages gpa ≡ false
    → PageFault ≡ leads table_bytes pages sight ps gpa access
outside table_bytes pages sight ps gpa access misses = rw misses refl

inside : (pages n : ℕ) (sight : Sight) (ps : ℕ → Protection) (gpa p : ℕ) (access : Access) → page_in_ram pages gpa ≡ true → ram_base ≤ gpa → p ≡ (gpa - ram_base) / page_size
    → (if view_permits sight p (ps p) access then At (page_size * (n + p) + gpa % page_size) else PageFault) ≡ leads (page_size * n) pages sight ps gpa access
inside pages n sight ps gpa p access hits above is =
    let place : page_size * (n + p) + gpa % page_size ≡ page_size * n + (gpa - ram_base) = omega arith in
    rw (hits, ← is, place) refl

-- a free page of a block is seen as its first
free_alike : (sight : Sight) (p q : ℕ) (access : Access) → view_permits sight p Free access ≡ view_permits sight q Free access
free_alike OfKernel p q Fetch = refl
free_alike OfKernel p q Load = refl
free_alike OfKernel p q Store = refl
free_alike OfUser p q Fetch = refl
free_alike OfUser p q Load = refl
free_alike OfUser p q Store = refl
free_alike (OfEntry bound) p q Fetch = refl
free_alike (OfEntry bound) p q Load = refl
free_alike (OfEntry bound) p q Store = refl

in_block : (pages n : ℕ) (sight : Sight) (ps : ℕ → Protection) (gpa block p : ℕ) (access : Access) → page_in_ram pages gpa ≡ true → ram_base ≤ gpa → gpa < 0xC0000000
    → p ≡ (gpa - ram_base) / page_size → block ≡ gpa / 2 ^ 21 % 512 → ps p ≡ Free
    → (if view_permits sight (512 * block) Free access then At (page_size * (n + 512 * block) + gpa % 2097152) else PageFault) ≡ leads (page_size * n) pages sight ps gpa access
in_block pages n sight ps gpa block p access hits above high is index free =
    let place : page_size * (n + 512 * block) + gpa % 2097152 ≡ page_size * n + (gpa - ram_base) = omega arith in
    let seen : view_permits sight (512 * block) Free access ≡ view_permits sight p (ps p) access =
    free_alike sight (512 * block) p access ∙ ap (λ (x : Protection). view_permits sight p x access) (sym free) in
    rw (hits, ← is, seen, place) refl

whole_parts : (pages : ℕ) (ps : ℕ → Protection) (block : ℕ) → is_whole pages ps block ≡ true → (512 * block + 512 ≤ pages) × (taken_pages ps block ≡ 0)
whole_parts pages ps block is =
    let both = and_parts (nat_le (512 * block + 512) pages) (taken_pages ps block == 0) is in
    (leb-true (512 * block + 512) pages both.0, eqb-true (taken_pages ps block) 0 both.1)

-- the tables of a tree below another lie in front of that one's
pub in_front : (a b t : ℕ) → a < b → a * t + t ≤ b * t
in_front a b t l =
    let one : (a + 1) * t ≡ a * t + t = omega arith in
    let more : (a + 1) * t ≤ b * t = mul-le-mul_right t (omega arith) in omega arith

pub low : (trees tree t i : ℕ) → tree < trees → trees ≤ 66 → t ≤ 512 → i < t → 5 * trees + tree * t + i < 2 ^ 44
low trees tree t i l few few_tables h =
    let front = in_front tree trees t l in
    let most : trees * t ≤ 66 * t = mul-le-mul_right t few in omega arith

module _ (read : ℕ → Option ℕ) (pages t n trees : ℕ) (sights : ℕ → Sight) (ps : ℕ → Protection) (h : Reads read pages t n trees sights ps)
    (tree hgatp : ℕ) (there : tree < trees) (rooted : root_of hgatp ≡ 16384 * tree) (gpa : ℕ) (access : Access) where
  abbrev i2 : ℕ
  i2 = bits gpa 30 41

  abbrev i1 : ℕ
  i1 = bits gpa 21 30

  abbrev i0 : ℕ
  i0 = bits gpa 12 21

  abbrev grants : ℕ → Bool
  grants = permits_guest access

  -- the tree's tables
  abbrev middle : ℕ
  middle = page_size * (4 * trees + tree)

  abbrev last : ℕ
  last = page_size * (5 * trees + tree * t + i1)

  first : gpa < 2 ^ guest_address_bits → read (root_of hgatp + 8 * i2) ≡ Some (root_word trees tree i2)
  first l =
      let place : root_of hgatp + 8 * i2 ≡ 8 * (512 * (4 * tree) + i2) = ap (λ (k : ℕ). k + 8 * i2) rooted ∙ omega arith in
      ap read place ∙ h.roots tree i2 there (omega arith)

  missed : gpa < 2 ^ guest_address_bits → i2 ≢ 2 → guest_destination read hgatp gpa access ≡ PageFault
  missed l ne = step_zero read grants i2 (i1 ∷ i0 ∷ []) (root_of hgatp) gpa (first l ∙ ap Some (root_other trees tree i2 ne))

  met : gpa < 2 ^ guest_address_bits → i2 ≡ 2 → guest_destination read hgatp gpa access ≡ walk read grants (i1 ∷ i0 ∷ []) middle gpa
  met l same =
      let few = h.few_trees in
      step_on read grants i2 (i1 ∷ i0 ∷ []) (root_of hgatp) gpa (4 * trees + tree) (first l ∙ ap Some (root_two trees tree i2 same)) (omega arith)

  abbrev whole : Bool
  whole = is_whole pages ps i1

  second : read (middle + 8 * i1) ≡ Some (middle_word trees t n (sights tree) tree i1 whole)
  second =
      let place : middle + 8 * i1 ≡ 8 * (512 * (4 * trees + tree) + i1) = omega arith in
      ap read place ∙ h.middles tree i1 there (omega arith)

  no_table : t ≤ i1 → walk read grants (i1 ∷ i0 ∷ []) middle gpa ≡ PageFault
  no_table none = step_zero read grants i1 (i0 ∷ []) middle gpa (second ∙ ap Some (middle_past trees t n (sights tree) tree i1 whole none))

  one_table : i1 < t → whole ≡ false → walk read grants (i1 ∷ i0 ∷ []) middle gpa ≡ walk read grants (i0 ∷ []) last gpa
  one_table some parted =
      step_on read grants i1 (i0 ∷ []) middle gpa (5 * trees + tree * t + i1) (second ∙ ap Some (middle_there trees t n (sights tree) tree i1 whole some parted))
      (low trees tree t i1 there h.few_trees h.few_tables some)

  -- a whole block: each of its pages lies in RAM and is free
  one_leaf : i1 < t → ram_base ≤ gpa → gpa < 0xC0000000 → whole ≡ true → walk read grants (i1 ∷ i0 ∷ []) middle gpa ≡ leads (page_size * n) pages (sights tree) ps gpa access
  one_leaf some above high is =
      let few = h.few_pages in
      let aligned = h.aligned in
      let parts = whole_parts pages ps i1 is in
      let fits : 512 * i1 + 512 ≤ pages = parts.0 in
      let page : 512 * i1 + i0 ≡ (gpa - ram_base) / page_size = omega arith in
      let free : ps (512 * i1 + i0) ≡ Free = block_free ps i1 parts.1 i0 (omega arith) in
      step_block read access i1 i0 middle gpa (n + 512 * i1) (sights tree) (512 * i1) Free
      (second ∙ ap Some (middle_whole trees t n (sights tree) tree i1 whole some is)) (omega arith) (omega arith)
      ∙ in_block pages n (sights tree) ps gpa i1 (512 * i1 + i0) access (within pages gpa above (omega arith)) above high page refl free

  third : i1 < t → read (last + 8 * i0) ≡ Some (leaf_word pages n (sights tree) ps (512 * i1 + i0))
  third some =
      let place : last + 8 * i0 ≡ 8 * (512 * (5 * trees + tree * t) + (512 * i1 + i0)) = leaf_place (5 * trees + tree * t) i1 i0 in
      ap read place ∙ h.leaves tree (512 * i1 + i0) there (omega arith)
    where
      leaf_place : (at i j : ℕ) → page_size * (at + i) + 8 * j ≡ 8 * (512 * at + (512 * i + j))
      leaf_place at i j = omega arith

  past : i1 < t → pages ≤ 512 * i1 + i0 → walk read grants (i0 ∷ []) last gpa ≡ PageFault
  past some beyond = step_zero read grants i0 [] last gpa (third some ∙ ap Some (leaf_past pages n (sights tree) ps (512 * i1 + i0) beyond))

  mapped : i1 < t → 512 * i1 + i0 < pages → walk read grants (i0 ∷ []) last gpa
      ≡ (if view_permits (sights tree) (512 * i1 + i0) (ps (512 * i1 + i0)) access then At (page_size * (n + (512 * i1 + i0)) + gpa % page_size) else PageFault)
  mapped some below =
      let few = h.few_pages in
      step_leaf read access i0 last gpa (n + (512 * i1 + i0)) (sights tree) (512 * i1 + i0) (ps (512 * i1 + i0))
      (third some ∙ ap Some (leaf_there pages n (sights tree) ps (512 * i1 + i0) below)) (omega arith)

  pub walk_leads : gpa < 2 ^ guest_address_bits → guest_destination read hgatp gpa access ≡ leads (page_size * n) pages (sights tree) ps gpa access
  walk_leads l =
      let covers = h.covers in
      let few = h.few_tables in
      elim (lt_or_le gpa ram_base) [
        | inl below ↦ missed l (omega arith) ∙ outside (page_size * n) pages (sights tree) ps gpa access (not_below pages gpa below)
        | inr above ↦ elim (lt_or_le gpa 0xC0000000) [
          | inr high ↦ missed l (omega arith) ∙ outside (page_size * n) pages (sights tree) ps gpa access (not_past pages gpa above (omega arith))
          | inl near ↦
              met l (omega arith) ∙ elim (lt_or_le i1 t) [
                | inr none ↦ no_table none ∙ outside (page_size * n) pages (sights tree) ps gpa access (not_past pages gpa above (omega arith))
                | inl some ↦
                    let is : 512 * i1 + i0 ≡ (gpa - ram_base) / page_size = omega arith in
                    by_test (is_whole pages ps i1) refl (one_leaf some above near) (λ parted. one_table some parted ∙ elim (lt_or_le (512 * i1 + i0) pages) [
                      | inl below ↦ mapped some below ∙ inside pages n (sights tree) ps gpa (512 * i1 + i0) access (within pages gpa above (omega arith)) above is
                      | inr beyond ↦ past some beyond ∙ outside (page_size * n) pages (sights tree) ps gpa access (not_past pages gpa above (omega arith))
                    ])
              ]
        ]
      ]

-- ---- the two readers

-- every word of the trees lies in the tables
module _ (trees t : ℕ) where
  abbrev size : ℕ
  size = page_size * (512 * ((5 * trees + trees * t + 511) / 512))

  root_fits : (tree i : ℕ) → tree < trees → i < 2048 → 8 * (512 * (4 * tree) + i) + 8 ≤ size
  root_fits tree i l h = omega arith

  middle_fits : (tree i : ℕ) → tree < trees → i < 512 → 8 * (512 * (4 * trees + tree) + i) + 8 ≤ size
  middle_fits tree i l h = omega arith

  leaf_fits : (tree p : ℕ) → tree < trees → p < 512 * t → 8 * (512 * (5 * trees + tree * t) + p) + 8 ≤ size
  leaf_fits tree p l h = let front = in_front tree trees t l in omega arith

pub few_table_pages : (trees t : ℕ) → trees ≤ 66 → t ≤ 512 → 512 * ((5 * trees + trees * t + 511) / 512) ≤ 34304
few_table_pages trees t few few_tables = let most : trees * t ≤ 66 * t = mul-le-mul_right t few in omega arith

pub block_multiple : (k : ℕ) → 512 * k % 512 ≡ 0
block_multiple k = omega arith

-- a reader that gives what stands in the tables
module _ (read : ℕ → Option ℕ) (tables : List ℕ) (pages : ℕ) (bound : List ℕ) (ps : ℕ → Protection) (h : HoldsTrees tables pages bound ps)
    (gives : (at : ℕ) → at + 8 ≤ length tables → read at ≡ Some (word tables at 8)) where
  abbrev trees : ℕ
  trees = tree_count (length bound)

  abbrev t : ℕ
  t = leaf_tables pages

  given : (at value : ℕ) → at + 8 ≤ size trees t → word tables at 8 ≡ value → read at ≡ Some value
  given at value fits is = gives at (subst (λ (size : ℕ). at + 8 ≤ size) (sym h.size) fits) ∙ ap Some is

  pub holds_reads : Reads read pages t (table_pages pages (length bound)) trees (sight_in bound) ps
  holds_reads =
      let most = h.most in
      let few = h.few in
      let few_trees : trees ≤ 66 = omega arith in
      let few_tables : t ≤ 512 = omega arith in
      record {
        covers = omega arith;
        few_tables = few_tables;
        few_trees = few_trees;
        few_pages = few_table_pages trees t few_trees few_tables;
        aligned = block_multiple ((5 * trees + trees * t + 511) / 512);
        roots = λ tree i l k. given _ _ (root_fits trees t tree i l k) (h.roots tree i l k);
        middles = λ tree i l k. given _ _ (middle_fits trees t tree i l k) (h.middles tree i l k);
        leaves = λ tree p l k. given _ _ (leaf_fits trees t tree p l k) (h.leaves tree p l k);
      }

reads_tables : (tables : List ℕ) (at : ℕ) → at + 8 ≤ length tables → entry_in_tables tables at ≡ Some (word tables at 8)
unfolding entry_in_tables
reads_tables tables at fits = let test : nat_le (at + 8) (length tables) ≡ true = le-leb (at + 8) (length tables) fits in rw test refl

reads_region : (tables ram : List ℕ) (at : ℕ) → at + 8 ≤ length tables → entry_in_region (with_ram tables ram) at ≡ Some (word tables at 8)
unfolding host_entry host_word
reads_region tables ram at fits =
    let test : nat_le (at + 8) (length tables + length ram) ≡ true = le-leb (at + 8) (length tables + length ram) (omega arith) in
    let low : nat_lt at (length tables) ≡ true = lt-ltb at (length tables) (omega arith) in
    rw (test, low) refl

-- ---- the views

module _ (tables : List ℕ) (pages : ℕ) (bound : List ℕ) (ps : ℕ → Protection) (h : HoldsTrees tables pages bound ps)
    (tree hgatp : ℕ) (there : tree < tree_count (length bound)) (rooted : root_of hgatp ≡ 16384 * tree) where
  abbrev sight : Sight
  sight = sight_in bound tree

  by_tables : (gpa : ℕ) (access : Access) → gpa < 2 ^ guest_address_bits → guest_destination (entry_in_tables tables) hgatp gpa access ≡
      leads (table_size pages (length bound)) pages sight ps gpa access
  by_tables gpa access l =
      walk_leads (entry_in_tables tables) pages (leaf_tables pages) (table_pages pages (length bound)) (tree_count (length bound)) (sight_in bound) ps
      (holds_reads (entry_in_tables tables) tables pages bound ps h (reads_tables tables)) tree hgatp there rooted gpa access l

  by_region : (ram : List ℕ) (gpa : ℕ) (access : Access) → gpa < 2 ^ guest_address_bits → guest_destination (entry_in_region (with_ram tables ram)) hgatp gpa access ≡
      leads (table_size pages (length bound)) pages sight ps gpa access
  by_region ram gpa access l =
      walk_leads (entry_in_region (with_ram tables ram)) pages (leaf_tables pages) (table_pages pages (length bound)) (tree_count (length bound)) (sight_in bound) ps
      (holds_reads (entry_in_region (with_ram tables ram)) tables pages bound ps h (reads_region tables ram)) tree hgatp there rooted gpa access l

  near : (ram : List ℕ) (gpa : ℕ) (access : Access) → gpa < 2 ^ guest_address_bits → walk_guest (with_ram tables ram) hgatp gpa access ≡ view_answer (length tables) pages sight ps gpa access
  unfolding walk_guest view_answer
  near ram gpa access l =
      let test : gpa / 2 ^ guest_address_bits ≡ 0 = omega arith in
      rw (test, h.size) (ap address_at (by_region ram gpa access l)
      ∙ address_chosen (page_in_ram pages gpa && view_permits sight (page_of gpa) (ps (page_of gpa)) access) (table_size pages (length bound) + ram_offset gpa))

  far : (ram : List ℕ) (gpa : ℕ) (access : Access) → 2 ^ guest_address_bits ≤ gpa → walk_guest (with_ram tables ram) hgatp gpa access ≡ view_answer (length tables) pages sight ps gpa access
  unfolding walk_guest view_answer
  far ram gpa access over =
      let most = h.most in
      let test : (gpa / 2 ^ guest_address_bits == 0) ≡ false = grind (arith, nat_tests) in
      rw (test, not_past pages gpa (omega arith) (omega arith)) refl

  pub is_view : IsView tables pages ps sight hgatp
  is_view = record {
    answers = λ ram gpa access size small. elim (lt_or_le gpa (2 ^ guest_address_bits)) [ inl l ↦ near ram gpa access l | inr over ↦ far ram gpa access over ];
    reads = λ ram gpa access size l. by_tables gpa access l ∙ sym (by_region ram gpa access l);
  }

-- ---- every root that there is

-- the page that an entry is bound to
bound_there : (bound : List ℕ) (i : ℕ) (sight : Sight) → option_map OfEntry (slice_get bound i) ≡ Some sight
    → (i < length bound) × (OfEntry (slice_index_or bound i 0) ≡ sight)
bound_there [] i sight is = absurd (cc)
bound_there (page ∷ bound) zero sight is = (omega arith, same_Some _ _ is)
bound_there (page ∷ bound) (suc i) sight is = let rest = bound_there bound i sight is in (omega arith, rest.1)

pub entry_root : (i : ℕ) → i ≤ 64 → root_of (view_hgatp (View.Entry i)) ≡ 16384 * (2 + i)
entry_root i few = omega arith

entry_sight : (bound : List ℕ) (i : ℕ) → sight_in bound (2 + i) ≡ OfEntry (slice_index_or bound i 0)
entry_sight bound i =
    let a : (2 + i == 0) ≡ false = ne_eqb (2 + i) 0 (omega arith) in
    let b : (2 + i == 1) ≡ false = ne_eqb (2 + i) 1 (omega arith) in
    let c : 2 + i - 2 ≡ i = omega arith in
    rw (a, b, c) refl

views_each : (tables : List ℕ) (pages : ℕ) (bound : List ℕ) (ps : ℕ → Protection) → HoldsTrees tables pages bound ps → (view : View) (sight : Sight)
    → sight_of bound view ≡ Some sight → IsView tables pages ps sight (view_hgatp view)
views_each tables pages bound ps h View.Kernel sight is =
    subst (λ (s : Sight). IsView tables pages ps s (view_hgatp View.Kernel)) (same_Some _ _ is) (is_view tables pages bound ps h 0 (view_hgatp View.Kernel) (omega arith) refl)
views_each tables pages bound ps h View.User sight is =
    subst (λ (s : Sight). IsView tables pages ps s (view_hgatp View.User)) (same_Some _ _ is) (is_view tables pages bound ps h 1 (view_hgatp View.User) (omega arith) refl)
views_each tables pages bound ps h (View.Entry i) sight is =
    let few = h.few in
    let entry = bound_there bound i sight is in
    let below : i < length bound = entry.0 in
    subst (λ (s : Sight). IsView tables pages ps s (view_hgatp (View.Entry i))) (entry_sight bound i ∙ entry.1)
    (is_view tables pages bound ps h (2 + i) (view_hgatp (View.Entry i)) (omega arith) (entry_root i (omega arith)))

pub are_views : (tables : List ℕ) (pages : ℕ) (bound : List ℕ) (ps : ℕ → Protection) → HoldsTrees tables pages bound ps → AreViews tables pages bound ps
are_views tables pages bound ps h = record { each = views_each tables pages bound ps h }
