-- What one event may change of the machine. This project's own: the hardware moves the harts, and SecVisor's answers stay
-- within the parts that are theirs. Counts and notes are left aside: they are the reference machine's.
use Rattle.std.specs.Prelude.{◌≡◌, ℕ, ◌+◌, ◌≤◌, Bool, true, false, not, List, [], ◌∷◌, ◌++◌, map, length, ◌==◌, if◌then◌else◌, Option, Some}
use Rattle.std.specs.Prelude.{None, slice_get, slice_set, ⊤, IsTrue}
use Rattle.spec_processor.specs.Bytes.{page_size, place_in_page, overwrite, ram_offset, page_of, in_ram}
use Rattle.spec_processor.specs.Hardware.{Attempted}
use Rattle.spec_processor.specs.HardwareAttempt.{attempt}
use Rattle.spec_processor.specs.HypervisorRegisters.{HypervisorRegisters, virtual_software_bit}
use Rattle.sv_types.specs.declared.event.Counts.{Counts}
use Rattle.sv_types.specs.declared.event.Event.{Event}
use Rattle.sv_types.specs.declared.event.Event.TheVariants.{Turn, Beat, Key, Tick, Poke}
use Rattle.spec_processor.specs.declared.outcome.Outcome.{Outcome}
use Rattle.sv_types.specs.declared.protection.Protection.{Protection}
use Rattle.sv_types.specs.declared.event.Note.{Note}
use Rattle.sv_types.specs.declared.event.Verdict.{Verdict}
use Rattle.sv_types.specs.declared.event.Verdict.TheVariants.{Running, Shutdown, Stopped}
use Rattle.sv_types.specs.declared.saved.ModulePlacement.{ModulePlacement}
use Rattle.spec_reference.specs.Calls.{mask_names}
use Rattle.spec_reference.specs.Devices.{lines_at}
use Rattle.spec_reference.specs.States.{Devices, Disk, Journal}
use Rattle.spec_hardware.specs.HwHarts.{with_hw, hw_outside, asks_again}
use Rattle.spec_hardware.specs.Machine.{Machine, HwHart, HwLoad, update, forgets, with_core, after_attempt}

-- ---- counts and notes

pub record Recorded : Type 0 where
  pub counts : Counts
  pub notes : List Note

abbrev pub with_records : Machine → Recorded → Machine
with_records m new = record m { journal = record m.journal { counts = new.counts; notes = new.notes } }

-- nothing but counts and notes changes
pub record SameButForCounts (before after : Machine) : Type 0 where
  pub new : Recorded
  pub same : after ≡ with_records before new

-- ---- an answer of SecVisor's to hart h

-- what it does to other harts: nothing, all of a stopped one, or the software interrupts of some
pub data Others : Type 0 where
  Nobody : Others
  Starts : (other : ℕ) → (hart : HwHart) → Others
  Interrupts : (mask base : ℕ) → Others

-- all that it may change
pub record Answer : Type 0 where
  pub tables : List ℕ
  pub protections : List Protection
  pub dma : List Bool
  -- hart h, but for its exit registers and scounteren
  pub hart : HwHart
  pub others : Others
  pub loaded : List ModulePlacement
  pub loading : Option HwLoad
  pub retired : Bool
  pub console : List ℕ
  pub disk : Disk
  pub timers : List ℕ
  -- bytes that are printed after those that were
  pub printed : List ℕ
  pub notes : List Note
  pub counts : Counts
  pub verdict : Verdict

-- registers with the exit registers and scounteren of others
abbrev pub with_own : HypervisorRegisters → HypervisorRegisters → HypervisorRegisters
with_own new old = record new {
  scounteren = old.scounteren;
  sepc = old.sepc;
  scause = old.scause;
  stval = old.stval;
  htval = old.htval;
  htinst = old.htinst;
}

abbrev pub hart_answered : HwHart → HwHart → HwHart
hart_answered new old = record new { core = record new.core { csrs = with_own new.core.csrs old.core.csrs } }

-- time stays
abbrev pub devices_answered : Devices → List ℕ → Disk → List ℕ → Devices
devices_answered old console disk timers = record { console = console; disk = disk; clock = record old.clock { timers = timers } }

-- what was printed stays
abbrev pub journal_answered : Journal → List ℕ → List Note → Counts → Verdict → Journal
journal_answered old printed notes counts verdict = record { printed = old.printed ++ printed; notes = notes; counts = counts; verdict = verdict }

-- the guest's software interrupt waits
abbrev pub software_set : HwHart → HwHart
software_set hart = record hart { core = record hart.core { csrs = record hart.core.csrs { hvip = virtual_software_bit } } }

unfoldable pub interrupted_hw_harts : (ℕ → Bool) → ℕ → List HwHart → List HwHart
interrupted_hw_harts named first [] = []
interrupted_hw_harts named first (hart ∷ harts) = (if named first then software_set hart else hart) ∷ interrupted_hw_harts named (first + 1) harts

unfoldable pub others_changed : Others → List HwHart → List HwHart
others_changed Nobody harts = harts
others_changed (Starts other hart) harts = slice_set harts other hart
others_changed (Interrupts mask base) harts = interrupted_hw_harts (mask_names mask base) 0 harts

abbrev pub is_stopped : Option HwHart → Bool
is_stopped None = false
is_stopped (Some hart) = not hart.started

-- only a stopped hart begins
abbrev pub MayChange : List HwHart → Others → Type 0
MayChange harts Nobody = ⊤
MayChange harts (Starts other hart) = IsTrue (is_stopped (slice_get harts other))
MayChange harts (Interrupts mask base) = ⊤

-- RAM, the policy, time and both counts of the machine's own stay
abbrev pub machine_after_answer : Machine → ℕ → Answer → Machine
machine_after_answer m h a = record {
  rules = m.rules;
  region = record m.region { tables = a.tables };
  harts = others_changed a.others (update m.harts h (hart_answered a.hart));
  protections = a.protections;
  dma = a.dma;
  loaded = a.loaded;
  loading = a.loading;
  retired = a.retired;
  devices = devices_answered m.devices a.console a.disk a.timers;
  journal = journal_answered m.journal a.printed a.notes a.counts a.verdict;
  cleared = m.cleared;
  attempts = m.attempts;
}

-- the table part keeps its size
pub record Answers (before : Machine) (h : ℕ) (after : Machine) : Type 0 where
  pub answer : Answer
  pub size : length answer.tables ≡ length before.region.tables
  pub may : MayChange before.harts answer.others
  pub same : after ≡ machine_after_answer before h answer

-- ---- turns

-- an attempt; SecVisor's answer follows where it gave an exit
abbrev pub AfterOutcome : Outcome → Machine → ℕ → Attempted → Machine → Type 0
AfterOutcome (Outcome.Exit exit) m h a after = Answers (after_attempt m h a) h after
AfterOutcome (Outcome.Retired wrote) m h a after = SameButForCounts (after_attempt m h a) after
AfterOutcome Outcome.GuestTrap m h a after = SameButForCounts (after_attempt m h a) after

abbrev pub attempt_of : Machine → ℕ → HwHart → Attempted
attempt_of m h hart = attempt m.region hart.core (lines_at m.devices h)

abbrev pub Attempts : Machine → ℕ → HwHart → Machine → Type 0
Attempts m h hart after = AfterOutcome (attempt_of m h hart).outcome m h (attempt_of m h hart) after

-- the machine that an attempt leaves to SecVisor
abbrev pub left_by : Machine → ℕ → HwHart → Machine
left_by m h hart = after_attempt m h (attempt_of m h hart)

-- the same with the hart sent to attempt again: it has left its entry, and nothing else was changed
abbrev pub sent_again : Machine → ℕ → HwHart → Machine
sent_again m h hart = with_hw (left_by m h hart) h hw_outside

abbrev pub hart_again : Machine → ℕ → HwHart → HwHart
hart_again m h hart = hw_outside (with_core (attempt_of m h hart).core hart)

-- one attempt, or two. After the second none follows, since the hart is in no entry
abbrev pub OneOrTwo : (again : Bool) → Machine → ℕ → HwHart → Machine → Type 0
OneOrTwo false m h hart after = Attempts m h hart after
OneOrTwo true m h hart after = Attempts (sent_again m h hart) h (hart_again m h hart) after

-- the load under way is hart h's
abbrev pub is_loading : Option HwLoad → ℕ → Bool
is_loading None h = false
is_loading (Some load) h = load.hart == h

-- a load of this hart goes on, by an answer alone, or else it makes an attempt
abbrev pub StartedTurn : (loads : Bool) → Machine → ℕ → HwHart → Machine → Type 0
StartedTurn true m h hart after = Answers m h after
StartedTurn false m h hart after = OneOrTwo (asks_again m.region.ram m.rules hart (attempt_of m h hart).outcome) m h hart after

abbrev pub HartTurn : (started : Bool) → Machine → ℕ → HwHart → Machine → Type 0
HartTurn true m h hart after = StartedTurn (is_loading m.loading h) m h hart after
HartTurn false m h hart after = SameButForCounts m after

-- a hart that is stopped or isn't there changes nothing but counts
abbrev pub TurnOf : Machine → ℕ → Option HwHart → Machine → Type 0
TurnOf m h None after = SameButForCounts m after
TurnOf m h (Some hart) after = HartTurn hart.started m h hart after

-- ---- other events

-- what a device writes: bytes at a guest-physical address, all in one page, which its bit permits
pub record Written : Type 0 where
  pub gpa : ℕ
  pub bytes : List ℕ

pub record IsPermittedWrite (m : Machine) (w : Written) : Type 0 where
  pub inside : in_ram m.region.ram w.gpa (length w.bytes) ≡ true
  pub one_page : place_in_page w.gpa + length w.bytes ≤ page_size
  pub permitted : slice_get m.dma (page_of w.gpa) ≡ Some true

abbrev pub IsPermitted : Machine → Option Written → Type 0
IsPermitted m None = ⊤
IsPermitted m (Some w) = IsPermittedWrite m w

abbrev pub with_bytes_at : Machine → Option Written → Machine
with_bytes_at m None = m
with_bytes_at m (Some w) = record m {
  region = record m.region { ram = overwrite m.region.ram (ram_offset w.gpa) w.bytes };
  harts = map (forgets (length m.region.tables + ram_offset w.gpa) (length w.bytes)) m.harts;
}

-- the block device, bytes that it may write with the reservations that they touch, counts and notes
pub record OnlyDisk (before after : Machine) : Type 0 where
  pub disk : Disk
  pub bytes : Option Written
  pub new : Recorded
  pub permitted : IsPermitted before bytes
  pub same : after ≡ with_records (record (with_bytes_at before bytes) { devices = record before.devices { disk = disk } }) new

-- bytes that a device may write with the reservations that they touch, counts and notes
pub record OnlyBytes (before after : Machine) : Type 0 where
  pub bytes : Option Written
  pub new : Recorded
  pub permitted : IsPermitted before bytes
  pub same : after ≡ with_records (with_bytes_at before bytes) new

-- the console's input and counts
pub record OnlyConsole (before after : Machine) : Type 0 where
  pub console : List ℕ
  pub new : Recorded
  pub same : after ≡ with_records (record before { devices = record before.devices { console = console } }) new

-- time and counts
pub record OnlyTime (before after : Machine) : Type 0 where
  pub time : ℕ
  pub new : Recorded
  pub same : after ≡ with_records (record before { devices = record before.devices { clock = record before.devices.clock { time = time } } }) new

-- ---- an event

abbrev pub Happens : Machine → Event → Machine → Type 0
Happens m (Turn h) after = TurnOf m h (slice_get m.harts h) after
Happens m Beat after = OnlyDisk m after
Happens m (Key byte) after = OnlyConsole m after
Happens m (Tick n) after = OnlyTime m after
Happens m (Poke gpa value) after = OnlyBytes m after

abbrev pub HappensUnder : Verdict → Machine → Event → Machine → Type 0
HappensUnder Running m e after = Happens m e after
HappensUnder Shutdown m e after = after ≡ m
HappensUnder (Stopped rule hart at) m e after = after ≡ m

unfoldable pub IsEvent : Machine → Event → Machine → Type 0
IsEvent m e after = HappensUnder m.journal.verdict m e after
