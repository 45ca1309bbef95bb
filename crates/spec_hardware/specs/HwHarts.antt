-- What SecVisor's answers make of one hart of the hardware, and of the machine by its traps and accesses. Each function reads the
-- machine alone. RISC-V Privileged manual, H extension, for what the registers hold; the answers are this project's own.
use Rattle.std.specs.Prelude.{ℕ, List, Bool, true, false, if◌then◌else◌, Option, Some, None}
use Rattle.spec_processor.specs.Causes.{cause_number}
use Rattle.spec_processor.specs.Effects.{set_register, next_pc}
use Rattle.spec_processor.specs.HypervisorRegisters.{registers_at_trap, registers_at_return, registers_at_boot}
use Rattle.sv_types.specs.Policies.{Rules}
use Rattle.spec_processor.specs.IntegerRegisters as abi
use Rattle.spec_processor.specs.Requests.{loaded_value}
use Rattle.spec_processor.specs.Traps.{trap_target, mode_at_return}
use Rattle.spec_processor.specs.declared.cause.Cause.{Cause}
use Rattle.spec_processor.specs.declared.outcome.Outcome.{Outcome}
use Rattle.spec_processor.specs.declared.exit.Exit.{Exit}
use Rattle.spec_processor.specs.declared.mode.Mode.{Mode}
use Rattle.spec_processor.specs.declared.mode.Mode.TheVariants.{Kernel, User}
use Rattle.sv_types.specs.declared.event.Note.TheVariants.{Demote}
use Rattle.sv_types.specs.declared.event.Rule.TheVariants.{Entry, Write}
use Rattle.sv_types.specs.declared.event.Verdict.TheVariants.{Stopped}
use Rattle.spec_reference.specs.Counting.{with_count, with_note, machine_ended, count_trap, count_retired, count_return, count_demote}
use Rattle.spec_reference.specs.Calls.{started_hart}
use Rattle.spec_reference.specs.Turn.{bound_entry}
use Rattle.spec_reference.specs.Trapping.{may_enter, entry_at_trap, entry_in}
use Rattle.spec_reference.specs.Devices.{DeviceLoad, DeviceStore}
use Rattle.spec_hardware.specs.Machine.{Machine, HwHart, update}
use Rattle.spec_hardware.specs.Served.{Seen, transformed_effect, exit_answer, is_again}
use Rattle.spec_hardware.specs.StandsFor.{hregs_in}

-- ---- one hart

-- a hart of the hardware in its guest's trap handler
abbrev pub hw_entered : HwHart → (entry : Option ℕ) → (interrupt : Bool) → (cause tval : ℕ) → HwHart
hw_entered hart entry interrupt cause tval = record hart {
  core = record hart.core {
    pc = trap_target hart.core.csrs.vstvec interrupt cause;
    csrs = registers_at_trap hart.core.csrs hart.core.hregs.mode hart.core.pc interrupt cause tval;
    hregs = hregs_in Kernel entry;
    reservation = None;
  };
  entry = entry;
}

unfoldable pub hw_at_trap : Rules → (interrupt : Bool) → (cause tval : ℕ) → HwHart → HwHart
hw_at_trap rules interrupt cause tval hart =
    hw_entered hart (entry_at_trap rules hart.core.hregs.mode hart.entry (trap_target hart.core.csrs.vstvec interrupt cause)) interrupt cause tval

-- it returns from its trap, as its own registers say
unfoldable pub hw_at_return : HwHart → HwHart
hw_at_return hart = record hart {
  core = record hart.core {
    pc = hart.core.csrs.vsepc;
    csrs = registers_at_return hart.core.csrs;
    hregs = hregs_in (mode_at_return hart.core.csrs.vsstatus) (entry_in (mode_at_return hart.core.csrs.vsstatus) hart.entry);
    reservation = None;
  };
  entry = entry_in (mode_at_return hart.core.csrs.vsstatus) hart.entry;
}

-- it leaves kernel mode
unfoldable pub hw_demoted : HwHart → HwHart
hw_demoted hart = record hart { core = record hart.core { hregs = hregs_in User None; reservation = None }; entry = None }

-- it leaves its entry, and nothing else changes
unfoldable pub hw_outside : HwHart → HwHart
hw_outside hart = record hart { core = record hart.core { hregs = hregs_in hart.core.hregs.mode None }; entry = None }

-- it goes on after its instruction
unfoldable pub hw_passed : HwHart → HwHart
hw_passed hart = record hart { core = record hart.core { pc = next_pc hart.core.pc; reservation = None } }

-- with one register set
unfoldable pub hw_with : (rd value : ℕ) → HwHart → HwHart
hw_with rd value hart = record hart {
  core = record hart.core { registers = set_register hart.core.registers rd value; pc = next_pc hart.core.pc; reservation = None };
}

-- with a0 and a1 set
unfoldable pub hw_answered : (a0 a1 : ℕ) → HwHart → HwHart
hw_answered a0 a1 hart = record hart {
  core = record hart.core {
    registers = set_register (set_register hart.core.registers abi.a0 a0) abi.a1 a1;
    pc = next_pc hart.core.pc;
    reservation = None;
  };
}

-- it stays at its instruction
unfoldable pub hw_stayed : HwHart → HwHart
hw_stayed hart = record hart { core = record hart.core { reservation = None } }

unfoldable pub hw_stopped : HwHart → HwHart
hw_stopped hart =
    record hart { core = record hart.core { hregs = hregs_in hart.core.hregs.mode None; reservation = None }; started = false; entry = None }

-- whatever it was, it begins at an address with its number and a value, all its registers as at boot
unfoldable pub hw_started : (h pc opaque : ℕ) → HwHart → HwHart
hw_started h pc opaque hart = record {
  core = record {
    registers = (started_hart h pc opaque).registers;
    pc = pc;
    csrs = registers_at_boot;
    hregs = hregs_in Kernel None;
    reservation = None;
  };
  started = true;
  entry = None;
}

-- ---- the machine with hart h changed

abbrev pub with_hw : Machine → ℕ → (HwHart → HwHart) → Machine
with_hw m h change = record m { harts = update m.harts h change }

-- ---- traps, returns and demotion; `mode` is the one that the hart is in

-- from user mode only a permitted target is entered
abbrev pub trap_served : Machine → ℕ → Mode → (target : ℕ) → (interrupt : Bool) → (cause tval : ℕ) → Machine
trap_served m h from target interrupt cause tval =
    if may_enter m.rules from target
    then record m { harts = update m.harts h (hw_at_trap m.rules interrupt cause tval); journal = with_count (count_trap from) m.journal }
    else record m { journal = machine_ended (Stopped (Entry target) h m.journal.counts.turns) m.journal }

abbrev pub hw_trap : Machine → ℕ → HwHart → Mode → (interrupt : Bool) → (cause tval : ℕ) → Machine
hw_trap m h hw mode interrupt cause tval = trap_served m h mode (trap_target hw.core.csrs.vstvec interrupt cause) interrupt cause tval

abbrev pub hw_exception : Machine → ℕ → HwHart → Mode → Cause → ℕ → Machine
hw_exception m h hw mode cause tval = hw_trap m h hw mode false (cause_number cause) tval

abbrev pub hw_return : Machine → ℕ → HwHart → Machine
hw_return m h hw = record m {
  harts = update m.harts h hw_at_return;
  journal = with_count (count_return (mode_at_return hw.core.csrs.vsstatus)) m.journal;
}

abbrev pub hw_demote : Machine → ℕ → HwHart → ℕ → Machine
hw_demote m h hw gpa = record m {
  harts = update m.harts h hw_demoted;
  journal = with_note (Demote h m.journal.counts.turns hw.core.pc gpa) (with_count count_demote m.journal);
}

-- ---- what an answer depends on

abbrev pub hw_seen : (ram : List ℕ) → Rules → HwHart → Mode → Exit → Seen
hw_seen ram rules hw mode exit = record {
  ram = ram;
  mode = mode;
  pc = hw.core.pc;
  entry = bound_entry rules hw.entry;
  effect = transformed_effect exit.htinst hw.core.registers hw.core.pc;
}

-- the hart attempts again after an attempt with this outcome
unfoldable pub asks_again : (ram : List ℕ) → Rules → HwHart → Outcome → Bool
asks_again ram rules hw (Outcome.Retired wrote) = false
asks_again ram rules hw Outcome.GuestTrap = false
asks_again ram rules hw (Outcome.Exit exit) = is_again (exit_answer (hw_seen ram rules hw hw.core.hregs.mode exit) exit)

-- ---- accesses

unfoldable pub hw_device_load : Machine → ℕ → HwHart → Mode → (rd address width : ℕ) → (signed : Bool) → Option DeviceLoad → Machine
hw_device_load m h hw mode rd address width signed None = hw_exception m h hw mode Cause.LoadAccess address
hw_device_load m h hw mode rd address width signed (Some l) = record m {
  harts = update m.harts h (hw_with rd (loaded_value signed width l.value));
  devices = l.devices;
  journal = with_count count_retired m.journal;
}

unfoldable pub hw_device_store : Machine → ℕ → HwHart → Mode → (address : ℕ) → Option DeviceStore → Machine
hw_device_store m h hw mode address None = hw_exception m h hw mode Cause.StoreAccess address
hw_device_store m h hw mode address (Some s) = record m {
  harts = update m.harts h hw_passed;
  devices = s.devices;
  journal = with_count count_retired s.journal;
}

abbrev pub hw_write_stopped : Machine → ℕ → HwHart → ℕ → Machine
hw_write_stopped m h hw gpa = record m { journal = machine_ended (Stopped (Write hw.core.pc gpa) h m.journal.counts.turns) m.journal }
