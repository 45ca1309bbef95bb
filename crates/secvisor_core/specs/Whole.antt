-- Pages that a segment covers whole, and the last segment that does.
use Rattle.std.specs.Prelude.{◌≡◌, ℕ, ◌+◌, ◌-◌, ◌*◌, ◌<◌, ◌≤◌, Bool, true, false, ◌&&◌, List, [], nat_le, nat_lt, fold, length, replicate, take}
use Rattle.std.specs.List.{slice_index_or}
use Rattle.spec_processor.specs.Bytes.{page_size, ram_offset}
use Rattle.sv_types.specs.Kernel.{LoadedSegment, with_segment}

-- a byte of RAM lies in a segment's memory
abbrev pub has_byte : LoadedSegment → ℕ → Bool
has_byte s at = nat_le (ram_offset s.gpa) at && nat_lt at (ram_offset s.gpa + s.memory)

-- the byte there, a zero after the bytes of the file
abbrev pub byte_of : LoadedSegment → ℕ → ℕ
byte_of s at = slice_index_or s.bytes (at - ram_offset s.gpa) 0

-- a byte of RAM of a size once the first k segments are loaded
abbrev pub loaded_byte : ℕ → List LoadedSegment → (k at : ℕ) → ℕ
loaded_byte size ss k at = slice_index_or (fold with_segment (replicate size 0) (take k ss)) at 0

-- all bytes of a page do
abbrev pub covers : ℕ → LoadedSegment → Bool
covers page s =
    nat_le (ram_offset s.gpa) (page_size * page) && nat_le (page_size * page + page_size) (ram_offset s.gpa + s.memory)

-- a segment of nothing
abbrev pub nothing : LoadedSegment
nothing = record { va = 0; gpa = 0; bytes = []; memory = 0; executable = false }

abbrev pub segment_at : List LoadedSegment → ℕ → LoadedSegment
segment_at ss k = slice_index_or ss k nothing

-- the last of the first n segments that covers a page is the one before this place; 0 where none does
pub record IsLastWhole (ss : List LoadedSegment) (n page owner : ℕ) : Type 0 where
  pub within : owner ≤ n
  pub whole : 0 < owner → covers page (segment_at ss (owner - 1)) ≡ true
  pub behind : (k : ℕ) → owner ≤ k → k < n → covers page (segment_at ss k) ≡ false

-- the pages after each page and before the one that its skip leads to have an owner; 0 is none
abbrev pub SkipsOwned : (owners skips : List ℕ) → Type 0
SkipsOwned owners skips =
    (page between : ℕ) → page < between → between < slice_index_or skips page 0 → between < length owners → 0 < slice_index_or owners between 0
