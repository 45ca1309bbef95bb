-- Translations that are kept with the entries that they read, and when they are right. This project's own.
use Rattle.std.specs.Prelude.{◌≡◌, ℕ, zero, suc, ◌+◌, ◌*◌, ◌/◌, ◌%◌, ◌<◌, Bool, List, length, replicate, Option, Some, None, Result, Ok}
use Rattle.std.specs.Prelude.{Err, slice_index_or, slice_set}
use Rattle.spec_processor.specs.Bytes.{page_size}
use Rattle.spec_processor.specs.Regions.{Region, host_word}
use Rattle.spec_processor.specs.Translation.{walk, at_leaf, entry_size, table_levels}
use Rattle.spec_processor.specs.GStage.{address_at, walk_guest, entry_through, two_stages}
use Rattle.spec_processor.specs.declared.access.Access.{Access}
use Rattle.spec_processor.specs.declared.access.Access.TheVariants.{Fetch, Load, Store}
use Rattle.spec_processor.specs.declared.translation.Place.{Place}
use Rattle.spec_processor.specs.declared.translation.Fault.{Fault}
use Rattle.sv39_walk.specs.Levels.{indices_of}
use Rattle.sv39_walk.specs.Regimes.{settings_of}
use Rattle.sv39_walk.specs.declared.first_stage.Regime.{Regime}
use Rattle.hw_tlb.specs.declared.entries.Entry.{Entry}
use Rattle.hw_tlb.specs.declared.entries.Entries.{Entries}
use Rattle.hw_tlb.specs.declared.line.Line.{Line}

-- ---- entries that were read

-- with the entry of the level that has so many below it, which stands for these too
abbrev pub with_entry : ℕ → Entries → Entry → Entries
with_entry zero entries seen = record entries { last = seen }
with_entry (suc zero) entries seen = record entries { middle = seen; last = seen }
with_entry (suc (suc n)) entries seen = record { root = seen; middle = seen; last = seen }

-- something holds of the entries of the levels above the last so many
abbrev pub Above : ℕ → (Entry → Type 0) → Entries → Type 0
Above zero holds entries = holds entries.root × (holds entries.middle × holds entries.last)
Above (suc zero) holds entries = holds entries.root × holds entries.middle
Above (suc (suc zero)) holds entries = holds entries.root
Above (suc (suc (suc n))) holds entries = Unit {0}

-- the word that was read stands there
abbrev pub IsThere : Region → Entry → Type 0
IsThere r seen = host_word r seen.at entry_size ≡ seen.word

abbrev pub AreThere : Region → Entries → Type 0
AreThere r entries = Above 0 (IsThere r) entries

-- the G-stage of these tables leads the load of an entry there
abbrev pub IsPlace : List ℕ → (hgatp : ℕ) → Entry → Type 0
IsPlace tables hgatp seen = (gpa : ℕ) × ((gpa % entry_size ≡ 0) × ((r : Region) → r.tables ≡ tables → walk_guest r hgatp gpa Load ≡ Some seen.at))

abbrev pub ArePlaces : List ℕ → (hgatp : ℕ) → Entries → Type 0
ArePlaces tables hgatp entries = Above 0 (IsPlace tables hgatp) entries

-- in every region of these tables where these words stand, the walks of all addresses of a page end at one entry, which has so
-- many levels below it
pub record EndsAt (tables : List ℕ) (hgatp root va : ℕ) (entries : Entries) (below entry : ℕ) : Type 0 where
  pub few : below < table_levels
  pub ends : (r : Region) → r.tables ≡ tables → AreThere r entries → (grants : ℕ → Bool) (other : ℕ) → other / page_size ≡ va / page_size
      → walk (entry_through r hgatp) grants (indices_of table_levels other) root other ≡ at_leaf grants below entry other

-- whatever its leaves grant, the walk of an address gives no guest-physical address
abbrev pub LeadsNowhere : Region → (hgatp root va : ℕ) → Type 0
LeadsNowhere r hgatp root va = (grants : ℕ → Bool) → address_at (walk (entry_through r hgatp) grants (indices_of table_levels va) root va) ≡ None

-- ---- one line

-- the host place where a translation leads
abbrev pub host_of : Result Place Fault → Option ℕ
host_of (Ok place) = Some place.hpa
host_of (Err fault) = None

-- the host place where an access to a virtual address is led
abbrev pub leads_under : Region → Regime → Access → (va : ℕ) → Option ℕ
leads_under r regime access va = host_of (two_stages r regime.hgatp (settings_of regime) regime.mode va access)

-- in every region of these tables where the line's words stand, its accesses to its page are led to its host page
pub record LineAgrees (tables : List ℕ) (line : Line) : Type 0 where
  pub places : ArePlaces tables line.regime.hgatp line.entries
  pub leads : (r : Region) → r.tables ≡ tables → AreThere r line.entries → (place : ℕ) → place < page_size
      → leads_under r line.regime line.access (page_size * line.page + place) ≡ Some (line.host + place)

-- a line of such accesses to a page
pub record IsFor (by : Regime) (kind : Access) (number : ℕ) (line : Line) : Type 0 where
  pub regime : line.regime ≡ by
  pub access : line.access ≡ kind
  pub page : line.page ≡ number

-- ---- all lines

-- those of fetches, and after them those of loads and those of stores
abbrev pub fetch_lines : ℕ
fetch_lines = 256

abbrev pub load_lines : ℕ
load_lines = 64

abbrev pub store_lines : ℕ
store_lines = 64

abbrev pub lines_of_reach : ℕ
lines_of_reach = fetch_lines + load_lines + store_lines

abbrev pub no_lines : List (Option Line)
no_lines = replicate lines_of_reach None

-- where the line of an access to a page is kept
abbrev pub line_place : Access → (page : ℕ) → ℕ
line_place Fetch page = page % fetch_lines
line_place Load page = fetch_lines + page % load_lines
line_place Store page = fetch_lines + load_lines + page % store_lines

abbrev pub line_at : List (Option Line) → ℕ → Option Line
line_at lines i = slice_index_or lines i None

-- every line that is held agrees with the tables
pub record ReachAgrees (tables : List ℕ) (lines : List (Option Line)) : Type 0 where
  pub held : (i : ℕ) (line : Line) → line_at lines i ≡ Some line → LineAgrees tables line

-- the lines with one kept at its place
pub record IsKept (before after : List (Option Line)) (line : Line) : Type 0 where
  pub size : length before ≡ lines_of_reach
  pub is : after ≡ slice_set before (line_place line.access line.page) (Some line)
