-- When plain data is a state of the reference machine. This project's own.
use Rattle.std.specs.Prelude.{◌≡◌, ℕ, ◌+◌, ◌*◌, List, [], ◌∷◌, option_map}
use Rattle.spec_processor.specs.Bits.{flag}
use Rattle.spec_processor.specs.Bytes.{ram_base}
use Rattle.spec_processor.specs.Registers.{software_bit}
use Rattle.sv_types.specs.Clock.{Clock, timer_of}
use Rattle.sv_types.specs.declared.port.PortState.{PortState}
use Rattle.spec_reference.specs.States.{State, Hart, Disk, BlockDisk, VirtioDisk, Loading, protections_of}
use Rattle.spec_reference.specs.VirtioStates.{virtio_of}
use Rattle.spec_reference.specs.declared.saved_machine.harts.SavedHart.{SavedHart}
use Rattle.spec_reference.specs.declared.saved_machine.whole.Saved.{Saved}
use Rattle.spec_reference.specs.declared.saved_machine.whole.SavedLoad.{SavedLoad}

-- ---- harts

-- the guest-physical address of a place in RAM
abbrev pub gpa_at : ℕ → ℕ
gpa_at place = ram_base + place

-- of the pending interrupts the software interrupt alone is a register's
abbrev pub saved_hart : Clock → ℕ → Hart → SavedHart
saved_hart clock h hart = record {
  started = hart.started;
  mode = hart.mode;
  pc = hart.pc;
  registers = hart.registers;
  sstatus = hart.supervisor.sstatus;
  sie = hart.supervisor.sie;
  stvec = hart.supervisor.stvec;
  scounteren = hart.supervisor.scounteren;
  sscratch = hart.supervisor.sscratch;
  sepc = hart.supervisor.sepc;
  scause = hart.supervisor.scause;
  stval = hart.supervisor.stval;
  sip = software_bit * flag hart.supervisor.software;
  satp = hart.supervisor.satp;
  reservation = option_map gpa_at hart.reservation;
  entry = hart.entry;
  timer = timer_of clock h;
}

-- the harts from one on
unfoldable pub saved_harts : Clock → ℕ → List Hart → List SavedHart
saved_harts clock h [] = []
saved_harts clock h (hart ∷ harts) = saved_hart clock h hart ∷ saved_harts clock (h + 1) harts

-- ---- a load under way

abbrev pub saved_load : Loading → SavedLoad
saved_load load = record { hart = load.hart; «module» = load.about; left = load.left }

-- ---- the disk

-- the disk behind its device
abbrev pub disk_of : PortState → (bytes : List ℕ) → Disk
disk_of (PortState.Block block) bytes = BlockDisk (record { block = block; bytes = bytes })
disk_of (PortState.Virtio state) bytes = VirtioDisk (virtio_of state bytes)

-- ---- the whole

pub record IsSaved (r : State) (s : Saved) : Type 0 where
  pub harts : s.harts.items ≡ saved_harts r.devices.clock 0 r.harts
  pub ram : s.ram.items ≡ r.ram
  pub protection : s.protection.items ≡ protections_of r
  pub modules : s.modules.items ≡ r.loaded
  pub retired : s.retired ≡ r.retired
  pub loading : s.loading ≡ option_map saved_load r.loading
  pub console : s.console.items ≡ r.devices.console
  pub disk : disk_of s.port s.disk.items ≡ r.devices.disk
  pub time : s.time ≡ r.devices.clock.time
  pub counts : s.counts ≡ r.journal.counts
  pub notes : s.notes.items ≡ r.journal.notes
  pub verdict : s.verdict ≡ r.journal.verdict
