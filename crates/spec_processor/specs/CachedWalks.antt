-- A cache of G-stage translations, and when it agrees with the tables.
-- RISC-V Privileged manual, H extension: "Hypervisor Guest Address Translation and Protection (hgatp) Register" for the
-- VMID, "Hypervisor Memory-Management Fence Instructions" for what a cache may keep of the tables.
use Rattle.std.specs.Prelude.{◌≡◌, ℕ, ◌+◌, ◌*◌, ◌<◌, ◌⊎◌, Bool, if◌then◌else◌, List, replicate, Option, Some, None, slice_index_or}
use Rattle.spec_processor.specs.Bytes.{page_size}
use Rattle.spec_processor.specs.Translation.{Destination, At, PageFault}
use Rattle.spec_processor.specs.GStage.{entry_in_tables, guest_destination, guest_pages}
use Rattle.spec_processor.specs.declared.cached.CacheLine.{CacheLine}
use Rattle.spec_processor.specs.declared.access.Access.{Access}
use Rattle.spec_processor.specs.declared.access.Access.TheVariants.{Fetch, Load, Store}

-- ---- one line

abbrev pub line_permits : CacheLine → Access → Bool
line_permits line Fetch = line.fetch
line_permits line Load = line.load
line_permits line Store = line.store

-- where a line leads from a place in its page
abbrev pub line_leads : CacheLine → Access → ℕ → Destination
line_leads line access place = if line_permits line access then At (line.host + place) else PageFault

-- its page is within reach of the G-stage, and from each place in it every access leads where a walk of the tables
-- under the line's hgatp leads
pub record LineAgrees (tables : List ℕ) (line : CacheLine) : Type 0 where
  pub reach : line.page < guest_pages
  pub leads : (place : ℕ) (access : Access) → place < page_size
      → guest_destination (entry_in_tables tables) line.hgatp (page_size * line.page + place) access ≡ line_leads line access place

-- ---- a cache

-- line i, if it is held
abbrev pub line_at : List (Option CacheLine) → ℕ → Option CacheLine
line_at lines i = slice_index_or lines i None

abbrev pub lines_of_cache : ℕ
lines_of_cache = 256

abbrev pub no_lines : List (Option CacheLine)
no_lines = replicate lines_of_cache None

-- every line that is held agrees with the tables
pub record CacheAgrees (tables : List ℕ) (lines : List (Option CacheLine)) : Type 0 where
  pub held : (i : ℕ) (line : CacheLine) → line_at lines i ≡ Some line → LineAgrees tables line

-- a line of an hgatp value that agrees with the tables
abbrev pub IsFilled : List ℕ → ℕ → Option CacheLine → Type 0
IsFilled tables hgatp held = (line : CacheLine) × ((held ≡ Some line) × ((line.hgatp ≡ hgatp) × LineAgrees tables line))

-- walks under an hgatp value leave each line as it was, or fill it
pub record FilledUnder (tables : List ℕ) (hgatp : ℕ) (before after : List (Option CacheLine)) : Type 0 where
  pub lines : (i : ℕ) → (line_at after i ≡ line_at before i) ⊎ IsFilled tables hgatp (line_at after i)
