-- Blocks of RAM of 2 MiB: what one level-0 table maps, or one level-1 leaf.
-- RISC-V Privileged manual, "Sv39: Page-Based 39-bit Virtual-Memory System": megapages.
use Rattle.std.specs.Prelude.{◌≡◌, ℕ, zero, suc, ◌+◌, ◌-◌, ◌*◌, ◌≤◌, min, Bool, true, false, ◌&&◌, ◌==◌, if◌then◌else◌, nat_le, List, slice_index_or}
use Rattle.sv_types.specs.Protections.{is_free}
use Rattle.sv_types.specs.declared.protection.Protection.{Protection}
use Rattle.spec_processor.specs.Translation.{table_entries}

-- the words of a table, each an entry
abbrev pub table_words : ℕ
table_words = table_entries

-- the pages of a block: one for each word of a level-0 table
abbrev pub block_pages : ℕ
block_pages = table_words

-- a page that isn't free is taken: it counts as one
abbrev pub one_if_taken : Protection → ℕ
one_if_taken protection = if is_free protection then 0 else 1

-- how many of so many pages from the first on are taken
unfoldable pub taken_among : (ℕ → Protection) → (first count : ℕ) → ℕ
taken_among protections first zero = 0
taken_among protections first (suc count) = taken_among protections first count + one_if_taken (protections (first + count))

-- how many pages of a block are taken
unfoldable pub taken_pages : (ℕ → Protection) → (block : ℕ) → ℕ
taken_pages protections block = taken_among protections (block_pages * block) block_pages

-- a block lies in RAM with all its pages
abbrev pub lies_in_ram : (ram_pages block : ℕ) → Bool
lies_in_ram ram_pages block = nat_le (block_pages * block + block_pages) ram_pages

-- a block that one leaf maps: it lies in RAM, and none of its pages is taken
abbrev pub is_whole : (ram_pages : ℕ) → (ℕ → Protection) → (block : ℕ) → Bool
is_whole ram_pages protections block = lies_in_ram ram_pages block && taken_pages protections block == 0

-- ---- counts of taken pages, by block

-- whether one leaf maps a block, by the counts
abbrev pub is_whole_by : (counts : List ℕ) → (ram_pages block : ℕ) → Bool
is_whole_by counts ram_pages block = lies_in_ram ram_pages block && slice_index_or counts block 0 == 0

-- the most that a count of 16 bits holds
abbrev pub max_count : ℕ
max_count = 65535

-- a count where a page was free before or not, and now is or isn't
abbrev pub count_after : (count : ℕ) → (before after : Bool) → ℕ
count_after count true true = count
count_after count true false = min (count + 1) max_count
count_after count false true = count - 1
count_after count false false = count

-- the counts of taken pages are right for each block that lies in RAM
pub record CountsTaken (counts : List ℕ) (ram_pages : ℕ) (protections : ℕ → Protection) : Type 0 where
  pub each : (block : ℕ) → block_pages * block + block_pages ≤ ram_pages → slice_index_or counts block 0 ≡ taken_pages protections block
