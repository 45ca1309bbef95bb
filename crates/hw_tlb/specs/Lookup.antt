-- Where a cache keeps the line of a page. This project's own.
use Rattle.std.specs.Prelude.{◌≡◌, ℕ, ◌+◌, ◌-◌, ◌/◌, ◌%◌, Bool, true, false, ◌&&◌, ◌==◌, if◌then◌else◌, List, length, Option, Some, None, slice_set}
use Rattle.spec_processor.specs.Bytes.{page_size}
use Rattle.spec_processor.specs.GStage.{permits_guest}
use Rattle.spec_processor.specs.CachedWalks.{line_at, line_permits, lines_of_cache}
use Rattle.spec_processor.specs.declared.cached.CacheLine.{CacheLine}
use Rattle.spec_processor.specs.declared.access.Access.{Access}
use Rattle.spec_processor.specs.declared.access.Access.TheVariants.{Fetch, Load, Store}
use Rattle.sv39_walk.specs.declared.g_stage.Mapping.{Mapping}

-- the line, where it is of this hgatp value and this page
abbrev pub line_with_tag : ℕ → ℕ → Option CacheLine → Option CacheLine
line_with_tag hgatp page None = None
line_with_tag hgatp page (Some line) = if line.hgatp == hgatp && line.page == page then Some line else None

-- the line of a page under an hgatp value, if it is held
unfoldable pub line_for : List (Option CacheLine) → ℕ → ℕ → Option CacheLine
line_for lines hgatp page = line_with_tag hgatp page (line_at lines (page % lines_of_cache))

abbrev pub is_held : Option CacheLine → Bool
is_held None = false
is_held (Some line) = true

-- where a line of its page leads an access from an address, if it permits it
abbrev pub place_by : CacheLine → (gpa : ℕ) → Access → Option ℕ
place_by line gpa access = if line_permits line access then Some (line.host + gpa % page_size) else None

-- where an access from an address is led without a walk: its page's line is held, and permits it
abbrev pub place_held : Option CacheLine → (gpa : ℕ) → Access → Option ℕ
place_held None gpa access = None
place_held (Some line) gpa access = place_by line gpa access

-- each line that is held stands at its page's place
pub record IsPlaced (lines : List (Option CacheLine)) : Type 0 where
  pub size : length lines ≡ lines_of_cache
  pub place : (i : ℕ) (line : CacheLine) → line_at lines i ≡ Some line → line.page % lines_of_cache ≡ i

-- the line that keeps where the walk of an address led
abbrev pub line_of_mapping : ℕ → ℕ → Mapping → CacheLine
line_of_mapping hgatp gpa mapping = record {
  hgatp = hgatp;
  page = gpa / page_size;
  host = mapping.hpa - mapping.hpa % page_size;
  fetch = permits_guest Fetch mapping.leaf.0;
  load = permits_guest Load mapping.leaf.0;
  store = permits_guest Store mapping.leaf.0;
}

-- a cache with a line kept at its page's place
pub record IsKept (before after : List (Option CacheLine)) (line : CacheLine) : Type 0 where
  pub size : length before ≡ lines_of_cache
  pub is : after ≡ slice_set before (line.page % lines_of_cache) (Some line)
