-- How the trees of G-stage tables lie in the table part: the roots of all trees, of four pages each, then a level-1
-- table of each tree, then the level-0 tables of one tree after the other. The first tree shows kernel mode's memory, the
-- second user mode's, and each after them what is seen in an entry. A block of 2 MiB whose pages are all free is one leaf of level 1; its
-- level-0 table is kept right while it isn't used.
-- RISC-V Privileged manual, H extension, "Guest Physical Address Translation"; the places are this project's own.
use Rattle.std.specs.Prelude.{◌≡◌, ℕ, ◌+◌, ◌-◌, ◌*◌, ◌/◌, ◌^◌, ◌<◌, ◌≤◌, ◌==◌, Bool, if◌then◌else◌, nat_lt, List, length, slice_index_or}
use Rattle.spec_processor.specs.Bytes.{word, page_size}
use Rattle.spec_processor.specs.Regions.{max_ram_pages}
use Rattle.spec_processor.specs.Translation.{is_leaf, entry_size, page_number_shift, valid_place, readable_place, writable_place}
use Rattle.spec_processor.specs.Translation.{executable_place, user_place, accessed_place, dirty_place}
use Rattle.sv_types.specs.Views.{Sight, OfKernel, OfUser, OfEntry, view_permits}
use Rattle.spec_processor.specs.declared.access.Access.TheVariants.{Fetch, Store}
use Rattle.sv_types.specs.Limits.{max_entries}
use Rattle.sv_types.specs.declared.protection.Protection.{Protection}
use Rattle.sv_types.specs.declared.protection.Protection.TheVariants.{Free}
use Rattle.gstage_tables.specs.Blocks.{is_whole, taken_pages, CountsTaken, table_words, block_pages}
use Rattle.spec_processor.specs.Roots.{root_pages}

-- ---- the trees

-- the most entries that are bound to a page
abbrev pub max_bound : ℕ
max_bound = max_entries

-- what contracts see of trees: the pages of RAM, the page that each entry is bound to, and how many pages of each block are
-- taken
pub record Shape : Type 0 where
  pub ram_pages : ℕ
  pub bound : List ℕ
  pub counts : List ℕ

-- the trees of the two modes, and the first of those of entries
abbrev pub kernel_tree : ℕ
kernel_tree = 0

abbrev pub user_tree : ℕ
user_tree = 1

abbrev pub first_entry_tree : ℕ
first_entry_tree = 2

-- the most trees
abbrev pub max_trees : ℕ
max_trees = first_entry_tree + max_bound

-- the trees for so many entries
abbrev pub tree_count : ℕ → ℕ
tree_count bound = first_entry_tree + bound

abbrev pub sight_in : (bound : List ℕ) → (tree : ℕ) → Sight
sight_in bound tree =
    if tree == kernel_tree then OfKernel
    else if tree == user_tree then OfUser
    else OfEntry (slice_index_or bound (tree - first_entry_tree) 0)

-- ---- where the tables lie, in pages of the table part

-- the last page of a block, as they are counted from 0
abbrev pub last_in_block : ℕ
last_in_block = block_pages - 1

-- the level-0 tables of one tree
abbrev pub leaf_tables : ℕ → ℕ
leaf_tables ram_pages = (ram_pages + last_in_block) / block_pages

-- the words of a root
abbrev pub root_words : ℕ
root_words = root_pages * table_words

-- the pages of a tree above its level-0 tables, those of its root and its level-1 table, and their words
abbrev pub upper_pages : ℕ
upper_pages = root_pages + 1

abbrev pub upper_words : ℕ
upper_words = upper_pages * table_words

-- the root of a tree
abbrev pub root_table : (tree : ℕ) → ℕ
root_table tree = root_pages * tree

-- the level-1 table of a tree
abbrev pub middle_table : (trees tree : ℕ) → ℕ
middle_table trees tree = root_pages * trees + tree

-- the first level-0 table of a tree, where each tree has so many
abbrev pub leaf_table : (trees leaf_tables tree : ℕ) → ℕ
leaf_table trees leaf_tables tree = upper_pages * trees + tree * leaf_tables

-- the pages of all tables, and of what lies after them up to the next 2 MiB, so that a block of RAM lies at a multiple of
-- its size
abbrev pub table_pages : (ram_pages bound : ℕ) → ℕ
table_pages ram_pages bound =
    block_pages * ((leaf_table (tree_count bound) (leaf_tables ram_pages) (tree_count bound) + last_in_block) / block_pages)

abbrev pub table_size : (ram_pages bound : ℕ) → ℕ
table_size ram_pages bound = page_size * table_pages ram_pages bound

-- the most pages of all tables, and the most with those after them up to a whole block
abbrev pub max_table_pages : ℕ
max_table_pages = upper_pages * max_trees + max_trees * table_words

abbrev pub max_block_pages : ℕ
max_block_pages = block_pages * ((max_table_pages + last_in_block) / block_pages)

-- ---- entries

-- what the number of a page counts in an entry
abbrev pub page_number_unit : ℕ
page_number_unit = 2 ^ page_number_shift

-- the flags of an entry, by their letters in the Privileged manual, "Sv39: Page-Based 39-bit Virtual-Memory System"
abbrev pub flag_v : ℕ
flag_v = 2 ^ valid_place

abbrev pub flag_r : ℕ
flag_r = 2 ^ readable_place

abbrev pub flag_w : ℕ
flag_w = 2 ^ writable_place

abbrev pub flag_x : ℕ
flag_x = 2 ^ executable_place

abbrev pub flag_u : ℕ
flag_u = 2 ^ user_place

abbrev pub flag_a : ℕ
flag_a = 2 ^ accessed_place

abbrev pub flag_d : ℕ
flag_d = 2 ^ dirty_place

-- an entry that names the next table
abbrev pub pointer : ℕ → ℕ
pointer page = page_number_unit * page + flag_v

-- the flags of each page, and those that come to them for one that may be written
abbrev pub readable_flags : ℕ
readable_flags = flag_v + flag_r + flag_u + flag_a

abbrev pub written_flags : ℕ
written_flags = flag_w + flag_d

abbrev pub flags : (store fetch : Bool) → ℕ
flags store fetch = readable_flags + ((if store then written_flags else 0) + (if fetch then flag_x else 0))

-- the entry that maps a page of RAM to a host page, by what the tree shows
abbrev pub leaf : Sight → (page : ℕ) → Protection → (host : ℕ) → ℕ
leaf sight page protection host = page_number_unit * host + flags (view_permits sight page protection Store) (view_permits sight page protection Fetch)

-- the gigabyte in which RAM lies
abbrev pub ram_gigabyte : ℕ
ram_gigabyte = 2

-- entry i of a root, which is for a gigabyte
unfoldable pub root_word : (trees tree i : ℕ) → ℕ
root_word trees tree i = if i == ram_gigabyte then pointer (middle_table trees tree) else 0

-- entry i of a level-1 table: it maps a block that is whole, and names the level-0 table of another
unfoldable pub middle_word : (trees leaf_tables table_pages : ℕ) → Sight → (tree i : ℕ) → (whole : Bool) → ℕ
middle_word trees leaf_tables table_pages sight tree i whole =
    if nat_lt i leaf_tables
    then (if whole then leaf sight (block_pages * i) Free (table_pages + block_pages * i) else pointer (leaf_table trees leaf_tables tree + i))
    else 0

-- the entry for page p of RAM, which lies after the tables, and 0 past its end
unfoldable pub leaf_word : (ram_pages table_pages : ℕ) → Sight → (ℕ → Protection) → (p : ℕ) → ℕ
leaf_word ram_pages table_pages sight protections p =
    if nat_lt p ram_pages then leaf sight p (protections p) (table_pages + p) else 0

-- ---- the whole

-- the trees for these protections lie in the tables
pub record HoldsTrees (tables : List ℕ) (ram_pages : ℕ) (bound : List ℕ) (protections : ℕ → Protection) : Type 0 where
  pub size : length tables ≡ table_size ram_pages (length bound)
  pub most : ram_pages ≤ max_ram_pages
  pub few : length bound ≤ max_bound
  pub roots : (tree i : ℕ) → tree < tree_count (length bound) → i < root_words
      → word tables (entry_size * (table_words * root_table tree + i)) entry_size ≡ root_word (tree_count (length bound)) tree i
  pub middles : (tree i : ℕ) → tree < tree_count (length bound) → i < table_words
      → word tables (entry_size * (table_words * middle_table (tree_count (length bound)) tree + i)) entry_size
      ≡ middle_word (tree_count (length bound)) (leaf_tables ram_pages) (table_pages ram_pages (length bound)) (sight_in bound tree) tree i
      (is_whole ram_pages protections i)
  pub leaves : (tree p : ℕ) → tree < tree_count (length bound) → p < block_pages * leaf_tables ram_pages
      → word tables (entry_size * (table_words * leaf_table (tree_count (length bound)) (leaf_tables ram_pages) tree + p)) entry_size
      ≡ leaf_word ram_pages (table_pages ram_pages (length bound)) (sight_in bound tree) protections p

-- each block that lies in RAM is one leaf of level 1 in each tree exactly where all its pages are free
pub record MapsBlocks (tables : List ℕ) (ram_pages : ℕ) (bound : List ℕ) (protections : ℕ → Protection) : Type 0 where
  pub each : (tree block : ℕ) → tree < tree_count (length bound) → block_pages * block + block_pages ≤ ram_pages
      → is_leaf 1 (word tables (entry_size * (table_words * middle_table (tree_count (length bound)) tree + block)) entry_size) ≡
      (taken_pages protections block == 0)

-- the trees for these protections lie in the tables, and count the pages that are taken
pub record AreDrawn (tables : List ℕ) (trees : Shape) (protections : ℕ → Protection) : Type 0 where
  pub holds : HoldsTrees tables trees.ram_pages trees.bound protections
  pub counts : CountsTaken trees.counts trees.ram_pages protections
