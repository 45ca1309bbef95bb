-- What plain data keeps of the machine: SecVisor's own parts are left out. This project's own.
use Rattle.std.specs.Prelude.{◌≡◌, ℕ, ◌+◌, ◌-◌, ◌^◌, ◌<◌, ◌≤◌, List, [], ◌∷◌, length, IfSome, Option, option_map}
use Rattle.sv_types.specs.Clock.{Clock, timer_of}
use Rattle.spec_processor.specs.HypervisorRegisters.{at_guest_places}
use Rattle.spec_hardware.specs.Machine.{Machine, HwHart, HwLoad}
use Rattle.spec_reference.specs.SavedStates.{gpa_at, disk_of}
use Rattle.hw_platform.specs.Attempts.{hart_in}
use Rattle.spec_reference.specs.declared.saved_machine.harts.SavedHart.{SavedHart}
use Rattle.spec_reference.specs.declared.saved_machine.whole.Saved.{Saved}
use Rattle.spec_reference.specs.declared.saved_machine.whole.SavedLoad.{SavedLoad}

-- ---- harts

-- the guest-physical address of a host place after so many bytes of tables
abbrev pub gpa_after : ℕ → ℕ → ℕ
gpa_after tables place = gpa_at (place - tables)

-- the place lies after the tables, and its address is a number of 64 bits
pub record IsAddressed (tables place : ℕ) : Type 0 where
  pub behind : tables ≤ place
  pub small : gpa_after tables place < 2 ^ 64

-- a reservation that can be kept as an address
abbrev pub IsKeepable : ℕ → Option ℕ → Type 0
IsKeepable tables reservation = IfSome reservation (IsAddressed tables)

-- the reservation of every hart can
abbrev pub AreKeepable : ℕ → List HwHart → Type 0
AreKeepable tables hw_all = (h : ℕ) → IsKeepable tables (hart_in hw_all h).core.reservation

-- a hart of the hardware, as its guest sees it
abbrev pub kept_hart : (tables timer : ℕ) → HwHart → SavedHart
kept_hart tables timer hw = record {
  started = hw.started;
  mode = hw.core.hregs.mode;
  pc = hw.core.pc;
  registers = hw.core.registers;
  sstatus = hw.core.csrs.vsstatus;
  sie = at_guest_places hw.core.csrs.hie;
  stvec = hw.core.csrs.vstvec;
  scounteren = hw.core.csrs.scounteren;
  sscratch = hw.core.csrs.vsscratch;
  sepc = hw.core.csrs.vsepc;
  scause = hw.core.csrs.vscause;
  stval = hw.core.csrs.vstval;
  sip = at_guest_places hw.core.csrs.hvip;
  satp = hw.core.csrs.vsatp;
  reservation = option_map (gpa_after tables) hw.core.reservation;
  entry = hw.entry;
  timer = timer;
}

-- the harts from one on
unfoldable pub kept_harts : ℕ → Clock → ℕ → List HwHart → List SavedHart
kept_harts tables clock h [] = []
kept_harts tables clock h (hw ∷ hw_all) = kept_hart tables (timer_of clock h) hw ∷ kept_harts tables clock (h + 1) hw_all

-- ---- a load under way

abbrev pub kept_load : HwLoad → SavedLoad
kept_load load = record { hart = load.hart; «module» = load.about; left = load.left }

-- ---- the whole

pub record IsKept (m : Machine) (s : Saved) : Type 0 where
  pub harts : s.harts.items ≡ kept_harts (length m.region.tables) m.devices.clock 0 m.harts
  pub ram : s.ram.items ≡ m.region.ram
  pub protection : s.protection.items ≡ m.protections
  pub modules : s.modules.items ≡ m.loaded
  pub retired : s.retired ≡ m.retired
  pub loading : s.loading ≡ option_map kept_load m.loading
  pub console : s.console.items ≡ m.devices.console
  pub disk : disk_of s.port s.disk.items ≡ m.devices.disk
  pub time : s.time ≡ m.devices.clock.time
  pub counts : s.counts ≡ m.journal.counts
  pub notes : s.notes.items ≡ m.journal.notes
  pub verdict : s.verdict ≡ m.journal.verdict
