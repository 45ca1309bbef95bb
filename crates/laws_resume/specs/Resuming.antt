-- The machine that goes on from a snapshot, and that it stands for the state that the snapshot says. This project's own.
use Rattle.std.specs.Prelude.{◌≡◌, ℕ, List, map, length, None, option_map, true, IsTrue}
use Rattle.spec_processor.specs.Bytes.{ram_offset}
use Rattle.spec_processor.specs.HypervisorRegisters.{HypervisorRegisters, at_hypervisor_places, registers_at_boot}
use Rattle.sv_types.specs.Policies.{Rules, rules_within}
use Rattle.sv_types.specs.Views.{with_ram}
use Rattle.sv_types.specs.Protections.{is_free}
use Rattle.spec_reference.specs.Start.{AreWords}
use Rattle.spec_hardware.specs.Machine.{Machine, HwHart, HwLoad}
use Rattle.spec_hardware.specs.Reaches.{IsNew}
use Rattle.spec_hardware.specs.StandsFor.{hw_reservation, hregs_in, load_kept}
use Rattle.spec_reference.specs.declared.saved_machine.harts.SavedHart.{SavedHart}
use Rattle.spec_reference.specs.declared.saved_machine.whole.SavedLoad.{SavedLoad}
use Rattle.snapshot_format.specs.Snapshots.{Contents, snapshot}
use Rattle.snapshot_format.specs.Judgements.{resume_refusal}
use Rattle.snapshot_format.specs.ResumedStates.{resumed_load, resumed_state}
use Rattle.laws_resume.specs.Starts.{IsGuarded}

-- ---- harts

-- interrupts stand one place higher; nothing stands in the registers that an exit writes
abbrev pub csrs_resumed : SavedHart → HypervisorRegisters
csrs_resumed h = record registers_at_boot {
  vsstatus = h.sstatus;
  vstvec = h.stvec;
  vsscratch = h.sscratch;
  vsepc = h.sepc;
  vscause = h.scause;
  vstval = h.stval;
  vsatp = h.satp;
  scounteren = h.scounteren;
  hie = at_hypervisor_places h.sie;
  hvip = at_hypervisor_places h.sip;
}

-- RAM lies after so many bytes of tables
abbrev pub hw_resumed : (tables : ℕ) → SavedHart → HwHart
hw_resumed tables h = record {
  core = record {
    registers = h.registers;
    pc = h.pc;
    csrs = csrs_resumed h;
    hregs = hregs_in h.mode h.entry;
    reservation = hw_reservation tables (option_map ram_offset h.reservation);
  };
  started = h.started;
  entry = h.entry;
}

-- ---- a load under way

-- the pages that were counted are counted again: digests and fields are those that RAM has now
abbrev pub load_resumed : Rules → (ram : List ℕ) → SavedLoad → HwLoad
load_resumed rules ram load = load_kept rules ram (resumed_load load)

-- ---- the machine

-- devices and journal are those of the state; no byte is printed, and no attempt made
unfoldable pub resumed_machine : (tables : List ℕ) → Rules → Contents → Machine
resumed_machine tables rules s = record {
  rules = rules;
  region = with_ram tables s.ram;
  harts = map (hw_resumed (length tables)) s.harts;
  protections = s.protection;
  dma = map is_free s.protection;
  loaded = s.modules;
  loading = option_map (load_resumed rules s.ram) s.loading;
  retired = s.retired;
  devices = (resumed_state rules s).devices;
  journal = (resumed_state rules s).journal;
  cleared = 0;
  attempts = 0;
}

-- ---- the law

-- a machine of a snapshot that isn't refused, under a policy within its limits, stands for the state that it says
abbrev pub ResumedStartLaw : Type 0
ResumedStartLaw = (m : Machine) (rules : Rules) (s : Contents) → IsTrue (rules_within rules) → AreWords rules.entries → snapshot.has s ≡ true
    → resume_refusal rules s ≡ None → IsGuarded m → m ≡ resumed_machine m.region.tables rules s → IsNew m (resumed_state rules s)
