-- What each machine that runs keeps so that a snapshot of it can be written and read, alongside its soundness. This project's own.
use Rattle.std.specs.Prelude.{◌≡◌, ℕ, ◌+◌, ◌*◌, ◌%◌, ◌<◌, ◌≤◌, true, List, [], ◌∷◌, length, min, Option, Some, None, slice_get}
use Rattle.spec_processor.specs.Bytes.{page_size, instruction_size}
use Rattle.spec_processor.specs.Requests.{reserved_bytes}
use Rattle.spec_processor.specs.declared.mode.Mode.TheVariants.{Kernel}
use Rattle.sv_types.specs.Limits.{max_notes, max_harts}
use Rattle.sv_types.specs.Clock.{Clock, latest, timer_of}
use Rattle.sv_types.specs.Console.{max_queued}
use Rattle.sv_types.specs.Policies.{Rules}
use Rattle.sv_types.specs.declared.event.Event.{Event}
use Rattle.sv_types.specs.declared.event.Note.{Note}
use Rattle.sv_types.specs.declared.event.Note.TheVariants.{Demote, Denied, Load, Unload, Retire}
use Rattle.sv_types.specs.declared.event.Rule.TheVariants.{Entry, Write}
use Rattle.sv_types.specs.declared.event.Verdict.{Verdict}
use Rattle.sv_types.specs.declared.event.Verdict.TheVariants.{Running, Shutdown, Stopped}
use Rattle.sv_types.specs.declared.saved.ModulePlacement.{ModulePlacement}
use Rattle.spec_reference.specs.Run.{run}
use Rattle.spec_reference.specs.Soundness.{IsSound}
use Rattle.spec_reference.specs.Start.{IsStart}
use Rattle.spec_reference.specs.States.{State, Hart, Loading, has_number}

-- ---- harts

abbrev pub ram_size : Rules → ℕ
ram_size rules = page_size * rules.ram_pages

-- 8 aligned bytes of RAM
abbrev pub IsReservable : (size : ℕ) → Option ℕ → Type 0
IsReservable size None = Unit {0}
IsReservable size (Some place) = (place % reserved_bytes ≡ 0) × (place < size)

-- register 0 is 0
pub record IsKeepableHart (size : ℕ) (hart : Hart) : Type 0 where
  pub zero : slice_get hart.registers 0 ≡ Some 0
  pub reservation : IsReservable size hart.reservation

abbrev pub AreKeepable : (size : ℕ) → List Hart → Type 0
AreKeepable size [] = Unit {0}
AreKeepable size (hart ∷ harts) = IsKeepableHart size hart × AreKeepable size harts

-- ---- the journal

-- the hart of a note is there, and its pc is an instruction's address
abbrev pub IsKeepableNote : (harts : ℕ) → Note → Type 0
IsKeepableNote harts (Demote h turn pc gpa) = (h < harts) × (pc % instruction_size ≡ 0)
IsKeepableNote harts (Denied gpa) = Unit {0}
IsKeepableNote harts (Load h turn id code) = h < harts
IsKeepableNote harts (Unload h turn id code) = h < harts
IsKeepableNote harts (Retire h turn code) = h < harts

abbrev pub AreKeepableNotes : (harts : ℕ) → List Note → Type 0
AreKeepableNotes harts [] = Unit {0}
AreKeepableNotes harts (note ∷ notes) = IsKeepableNote harts note × AreKeepableNotes harts notes

abbrev pub IsKeepableVerdict : (harts : ℕ) → Verdict → Type 0
IsKeepableVerdict harts Running = Unit {0}
IsKeepableVerdict harts Shutdown = Unit {0}
IsKeepableVerdict harts (Stopped (Entry target) h turn) = h < harts
IsKeepableVerdict harts (Stopped (Write pc gpa) h turn) = (h < harts) × (pc % instruction_size ≡ 0)

-- of all that was noted the first 4,096 are kept
pub record IsKeepableJournal (harts : ℕ) (notes : List Note) (all : ℕ) (verdict : Verdict) : Type 0 where
  pub number : length notes ≡ min max_notes all
  pub each : AreKeepableNotes harts notes
  pub last : IsKeepableVerdict harts verdict

-- ---- devices

-- of the four timers those of harts that aren't there are never set
pub record IsKeepableClock (harts : ℕ) (clock : Clock) : Type 0 where
  pub four : length clock.timers ≡ max_harts
  pub unset : (h : ℕ) → harts ≤ h → h < max_harts → timer_of clock h ≡ latest

-- ---- modules

-- each module's own addresses begin with a page
abbrev pub AreAligned : List ModulePlacement → Type 0
AreAligned [] = Unit {0}
AreAligned (m ∷ modules) = (m.va % page_size ≡ 0) × AreAligned modules

-- the hart of the load under way is there, started and in kernel mode
pub record MayGoOn (harts : List Hart) (load : Loading) : Type 0 where
  pub hart : Hart
  pub found : slice_get harts load.hart ≡ Some hart
  pub started : hart.started ≡ true
  pub mode : hart.mode ≡ Kernel
  pub aligned : load.about.va % page_size ≡ 0

abbrev pub IsKeepableLoad : List Hart → Option Loading → Type 0
IsKeepableLoad harts None = Unit {0}
IsKeepableLoad harts (Some load) = MayGoOn harts load

-- ---- text

abbrev pub AscendFrom : (first : ℕ) → List ℕ → Type 0
AscendFrom first [] = Unit {0}
AscendFrom first (page ∷ pages) = (first ≤ page) × AscendFrom (page + 1) pages

-- the pages that were approved at boot ascend, and lie in RAM
pub record IsKeepableText (ram_pages : ℕ) (text : List ℕ) : Type 0 where
  pub ascends : AscendFrom 0 text
  pub inside : (page : ℕ) → has_number text page ≡ true → page < ram_pages

-- ---- the whole

pub record IsKeepable (r : State) : Type 0 where
  pub harts : AreKeepable (ram_size r.rules) r.harts
  pub journal : IsKeepableJournal r.rules.harts r.journal.notes r.journal.counts.notes r.journal.verdict
  pub clock : IsKeepableClock r.rules.harts r.devices.clock
  pub console : length r.devices.console ≤ max_queued
  pub modules : AreAligned r.loaded
  pub load : IsKeepableLoad r.harts r.loading
  pub text : IsKeepableText r.rules.ram_pages r.text

-- a run keeps it, from any sound state on
abbrev pub KeepsLaw : Type 0
KeepsLaw = (s : State) (events : List Event) → IsSound s → IsKeepable s → IsKeepable (run s events)

-- and each start has it
abbrev pub KeepableLaw : Type 0
KeepableLaw = (s : State) (events : List Event) → IsStart s → IsKeepable (run s events)
