-- Traps, returns, demotion, accesses of devices: SecVisor's answers go with the reference machine's.
use Rattle.std.proofs.Common.{◌≡◌, ℕ, ◌%◌, ◌≤◌, [], ◌∷◌, length, refl, sym, ap, subst, Bool, false}
use Rattle.std.specs.Prelude.{Option, Some, None, option_map}
use Rattle.spec_processor.specs.Causes.{cause_number}
use Rattle.spec_processor.specs.HypervisorRegisters.{registers_at_trap, HypervisorRegisters, registers_at_return}
use Rattle.sv_types.specs.Policies.{Rules}
use Rattle.spec_processor.specs.Requests.{loaded_value}
use Rattle.sv_types.specs.Console.{after_load, console_load}
use Rattle.spec_processor.specs.Traps.{supervisor_at_trap, trap_target, supervisor_at_return, mode_at_return}
use Rattle.spec_processor.specs.declared.cause.Cause.{Cause}
use Rattle.spec_processor.specs.declared.mode.Mode.{Mode}
use Rattle.sv_types.specs.declared.event.Note.TheVariants.{Demote}
use Rattle.sv_types.specs.declared.event.Rule.TheVariants.{Entry, Write}
use Rattle.sv_types.specs.declared.event.Verdict.TheVariants.{Stopped}
use Rattle.laws_simulation.specs.Agree.{IsAt}
use Rattle.spec_reference.specs.Counting.{with_count, with_note, machine_ended, count_retired, count_return, count_demote, count_trap, printed_low}
use Rattle.spec_reference.specs.Disk.{disk_load}
use Rattle.spec_reference.specs.Devices.{port_load, device_load_of, DeviceLoad, DeviceStore, Port, ConsoleAt, DiskAt, Nowhere, device_load, device_store, port_store, port_at}
use Rattle.spec_hardware.specs.HwHarts.{hw_at_return, hw_demoted, hw_outside, hw_passed, hw_with, hw_trap, hw_exception, hw_return}
use Rattle.spec_hardware.specs.HwHarts.{hw_demote, hw_device_load, hw_device_store, hw_write_stopped, hw_at_trap}
use Rattle.spec_hardware.specs.Machine.{HwHart}
use Rattle.spec_reference.specs.States.{State, Hart, Devices, Disk, Journal, without_reservation}
use Rattle.spec_reference.specs.Requests.{carry_out_device_load, carry_out_device_store, write_stopped, at_next_instruction, stepped_with}
use Rattle.spec_hardware.specs.StandsFor.{Unseen, machine_of, hw_hart, without_printed}
use Rattle.spec_reference.specs.Trapping.{hart_at_trap, hart_at_return, trap_from, exception, returned_from_trap, may_enter}
use Rattle.spec_reference.specs.Turn.{demote, in_user_mode, outside_entry}
use Rattle.laws_simulation.proofs.Mirrored.{Mirrors, choose, one_hart, no_hart, Adds, prints_none, dropped_more}
use Rattle.spec_hardware.proofs.Privileges.{same_mode}

abbrev pub hw_in : Unseen → HypervisorRegisters → Hart → HwHart
hw_in o c hart = hw_hart (length o.tables) c hart

-- ---- traps

stopped : (o : Unseen) (r : State) (h : ℕ) (hart : Hart) (c : HypervisorRegisters) (j : Journal) → IsAt o r h hart c → Adds r.journal.printed j.printed
    → Mirrors o r h (record (machine_of o r) { journal = without_printed o.cleared j }) (record r { journal = j })
unfolding machine_of
stopped o r h hart c j at adds = no_hart o r h hart c r.loading _ j at refl adds

pub mirror_trap : (t : ℕ) (c : HypervisorRegisters) (rules : Rules) (hart : Hart) (interrupt : Bool) (cause tval : ℕ)
    → hw_at_trap rules interrupt cause tval (hw_hart t c hart) ≡ hw_hart t c (hart_at_trap rules hart hart.mode interrupt cause tval)
unfolding hw_at_trap hart_at_trap registers_at_trap supervisor_at_trap
mirror_trap t c rules hart interrupt cause tval = rw (same_mode hart.mode hart.entry) refl

same_counteren : (rules : Rules) (hart : Hart) (from : Mode) (interrupt : Bool) (cause tval : ℕ)
    → hart.supervisor.scounteren ≡ (hart_at_trap rules hart from interrupt cause tval).supervisor.scounteren
unfolding hart_at_trap supervisor_at_trap
same_counteren rules hart from interrupt cause tval = refl

pub trap_mirrors : (o : Unseen) (r : State) (h : ℕ) (hart : Hart) (c : HypervisorRegisters) (interrupt : Bool) (cause tval : ℕ) → IsAt o r h hart c
    → Mirrors o r h (hw_trap (machine_of o r) h (hw_in o c hart) hart.mode interrupt cause tval) (trap_from r h hart hart.mode interrupt cause tval)
unfolding machine_of trap_from
trap_mirrors o r h hart c interrupt cause tval at =
    choose o r h (may_enter r.rules hart.mode (trap_target hart.supervisor.stvec interrupt cause)) _ _ _ _
    (one_hart o r h hart (hart_at_trap r.rules hart hart.mode interrupt cause tval) c (hw_at_trap r.rules interrupt cause tval) r.devices (with_count (count_trap hart.mode) r.journal) at
    (mirror_trap (length o.tables) c r.rules hart interrupt cause tval) (same_counteren r.rules hart hart.mode interrupt cause tval) refl (prints_none r.journal.printed))
    (stopped o r h hart c (machine_ended (Stopped (Entry (trap_target hart.supervisor.stvec interrupt cause)) h r.journal.counts.turns) r.journal) at (prints_none r.journal.printed))

pub exception_mirrors : (o : Unseen) (r : State) (h : ℕ) (hart : Hart) (c : HypervisorRegisters) (cause : Cause) (tval : ℕ) → IsAt o r h hart c
    → Mirrors o r h (hw_exception (machine_of o r) h (hw_in o c hart) hart.mode cause tval) (exception r h hart cause tval)
exception_mirrors o r h hart c cause tval at = trap_mirrors o r h hart c false (cause_number cause) tval at

-- ---- returns

mirror_return : (t : ℕ) (c : HypervisorRegisters) (hart : Hart) → hw_at_return (hw_hart t c hart) ≡ hw_hart t c (hart_at_return hart)
unfolding hw_at_return hart_at_return registers_at_return supervisor_at_return
mirror_return t c hart = refl

returned_counteren : (hart : Hart) → hart.supervisor.scounteren ≡ (hart_at_return hart).supervisor.scounteren
unfolding hart_at_return supervisor_at_return
returned_counteren hart = refl

pub return_mirrors : (o : Unseen) (r : State) (h : ℕ) (hart : Hart) (c : HypervisorRegisters) → IsAt o r h hart c
    → Mirrors o r h (hw_return (machine_of o r) h (hw_in o c hart)) (returned_from_trap r h hart)
unfolding machine_of returned_from_trap
return_mirrors o r h hart c at =
    one_hart o r h hart (hart_at_return hart) c hw_at_return r.devices (with_count (count_return (mode_at_return hart.supervisor.sstatus)) r.journal) at
    (mirror_return (length o.tables) c hart) (returned_counteren hart) refl (prints_none r.journal.printed)

-- ---- demotion

mirror_demoted : (t : ℕ) (c : HypervisorRegisters) (hart : Hart) → hw_demoted (hw_hart t c hart) ≡ hw_hart t c (in_user_mode hart)
unfolding hw_demoted
mirror_demoted t c hart = refl

pub demote_mirrors : (o : Unseen) (r : State) (h : ℕ) (hart : Hart) (c : HypervisorRegisters) (gpa : ℕ) → IsAt o r h hart c
    → Mirrors o r h (hw_demote (machine_of o r) h (hw_in o c hart) gpa) (demote r h hart gpa)
unfolding machine_of
demote_mirrors o r h hart c gpa at =
    one_hart o r h hart (in_user_mode hart) c hw_demoted r.devices (with_note (Demote h r.journal.counts.turns hart.pc gpa) (with_count count_demote r.journal)) at
    (mirror_demoted (length o.tables) c hart) refl refl (prints_none r.journal.printed)

-- the entry is left
pub mirror_outside : (t : ℕ) (c : HypervisorRegisters) (hart : Hart) → hw_outside (hw_hart t c hart) ≡ hw_hart t c (outside_entry hart)
unfolding hw_outside
mirror_outside t c hart = rw (same_mode hart.mode hart.entry) refl

-- ---- what is printed

pub printed_mirrors : (cleared value : ℕ) (j : Journal) → cleared ≤ length j.printed → printed_low value (without_printed cleared j) ≡ without_printed cleared (printed_low value j)
printed_mirrors cleared value j small = rw (dropped_more j.printed ((value % 256) ∷ []) cleared small) refl

-- a byte is printed
pub prints_low : (value : ℕ) (j : Journal) → Adds j.printed (printed_low value j).printed
prints_low value j = record { added = (value % 256) ∷ []; same = refl }

-- ---- devices

mirror_with : (t : ℕ) (c : HypervisorRegisters) (hart : Hart) (rd value : ℕ) → hw_with rd value (hw_hart t c hart) ≡ hw_hart t c (stepped_with (without_reservation hart) rd value)
unfolding hw_with
mirror_with t c hart rd value = refl

mirror_passed : (t : ℕ) (c : HypervisorRegisters) (hart : Hart) → hw_passed (hw_hart t c hart) ≡ hw_hart t c (at_next_instruction (without_reservation hart))
unfolding hw_passed
mirror_passed t c hart = refl

-- a device's load leaves time
abbrev pub LeavesTime : Devices → Option DeviceLoad → Type 0
LeavesTime d None = Unit {0}
LeavesTime d (Some l) = l.devices.clock.time ≡ d.clock.time

loads_time : (d e : Devices) (x : Option ℕ) → e.clock.time ≡ d.clock.time → LeavesTime d (option_map (device_load_of e) x)
loads_time d e None same = tt
loads_time d e (Some value) same = same

port_loads_time : (d : Devices) (p : Port) (width : ℕ) → LeavesTime d (port_load d p width)
unfolding port_load
port_loads_time d (ConsoleAt offset) width = loads_time d (record d { console = after_load d.console offset width }) (console_load d.console offset width) refl
port_loads_time d (DiskAt offset) width = loads_time d d (disk_load d.disk offset width) refl
port_loads_time d Nowhere width = tt

pub load_leaves_time : (d : Devices) (gpa width : ℕ) → LeavesTime d (device_load d gpa width)
unfolding device_load
load_leaves_time d gpa width = port_loads_time d (port_at gpa) width

pub device_load_mirrors : (o : Unseen) (r : State) (h : ℕ) (hart : Hart) (c : HypervisorRegisters) (rd address width : ℕ) (signed : Bool) (x : Option DeviceLoad) → IsAt o r h hart c
    → LeavesTime r.devices x
    → Mirrors o r h (hw_device_load (machine_of o r) h (hw_in o c hart) hart.mode rd address width signed x) (carry_out_device_load r h hart rd address width signed x)
unfolding machine_of hw_device_load carry_out_device_load
device_load_mirrors o r h hart c rd address width signed None at time = exception_mirrors o r h hart c Cause.LoadAccess address at
device_load_mirrors o r h hart c rd address width signed (Some l) at time =
    one_hart o r h hart (stepped_with (without_reservation hart) rd (loaded_value signed width l.value)) c (hw_with rd (loaded_value signed width l.value)) l.devices
    (with_count count_retired r.journal) at (mirror_with (length o.tables) c hart rd (loaded_value signed width l.value)) refl time (prints_none r.journal.printed)

-- a device's store with the journal's printed bytes as they are left
abbrev pub left_printed : ℕ → DeviceStore → DeviceStore
left_printed cleared s = record s { journal = without_printed cleared s.journal }

-- it leaves time, and takes no printed byte away
abbrev pub LeavesPrinted : Devices → Journal → Option DeviceStore → Type 0
LeavesPrinted d j None = Unit {0}
LeavesPrinted d j (Some s) = (s.devices.clock.time ≡ d.clock.time) × Adds j.printed s.journal.printed

prints : (cleared : ℕ) (d : Devices) (j : Journal) (x : Option ℕ) → cleared ≤ length j.printed
    → (option_map (λ byte. record { devices = d; journal = printed_low byte (without_printed cleared j) }) x
    ≡ option_map (left_printed cleared) (option_map (λ byte. record { devices = d; journal = printed_low byte j }) x))
    × LeavesPrinted d j (option_map (λ byte. record { devices = d; journal = printed_low byte j }) x)
prints cleared d j None small = (refl, tt)
prints cleared d j (Some byte) small =
    (ap (λ (k : Journal). Some (record { devices = d; journal = k })) (printed_mirrors cleared byte j small), (refl, prints_low byte j))

disk_stores : (cleared : ℕ) (d : Devices) (j : Journal) (x : Option Disk)
    → (option_map (λ (disk : Disk). record { devices = record d { disk = disk }; journal = without_printed cleared j }) x
    ≡ option_map (left_printed cleared) (option_map (λ (disk : Disk). record { devices = record d { disk = disk }; journal = j }) x))
    × LeavesPrinted d j (option_map (λ (disk : Disk). record { devices = record d { disk = disk }; journal = j }) x)
disk_stores cleared d j None = (refl, tt)
disk_stores cleared d j (Some disk) = (refl, (refl, prints_none j.printed))

port_stores : (cleared : ℕ) (d : Devices) (j : Journal) (p : Port) (width value : ℕ) → cleared ≤ length j.printed
    → (port_store d (without_printed cleared j) p width value ≡ option_map (left_printed cleared) (port_store d j p width value)) × LeavesPrinted d j (port_store d j p width value)
unfolding port_store
port_stores cleared d j (ConsoleAt offset) width value small = prints cleared d j _ small
port_stores cleared d j (DiskAt offset) width value small = disk_stores cleared d j _
port_stores cleared d j Nowhere width value small = (refl, tt)

stored_by : (o : Unseen) (r : State) (h : ℕ) (hart : Hart) (c : HypervisorRegisters) (address : ℕ) (x : Option DeviceStore) → IsAt o r h hart c → LeavesPrinted r.devices r.journal x
    → Mirrors o r h (hw_device_store (machine_of o r) h (hw_in o c hart) hart.mode address (option_map (left_printed o.cleared) x)) (carry_out_device_store r h hart address x)
unfolding machine_of hw_device_store carry_out_device_store
stored_by o r h hart c address None at leaves = exception_mirrors o r h hart c Cause.StoreAccess address at
stored_by o r h hart c address (Some s) at leaves =
    one_hart o r h hart (at_next_instruction (without_reservation hart)) c hw_passed s.devices (with_count count_retired s.journal) at (mirror_passed (length o.tables) c hart) refl leaves.0 leaves.1

pub device_store_mirrors : (o : Unseen) (r : State) (h : ℕ) (hart : Hart) (c : HypervisorRegisters) (address gpa width value : ℕ) → IsAt o r h hart c
    → Mirrors o r h (hw_device_store (machine_of o r) h (hw_in o c hart) hart.mode address (device_store (machine_of o r).devices (machine_of o r).journal gpa width value))
    (carry_out_device_store r h hart address (device_store r.devices r.journal gpa width value))
unfolding machine_of device_store
device_store_mirrors o r h hart c address gpa width value at =
    let k = port_stores o.cleared r.devices r.journal (port_at gpa) width value at.right.cleared in
    subst (λ (x : Option DeviceStore). Mirrors o r h (hw_device_store (machine_of o r) h (hw_in o c hart) hart.mode address x)
    (carry_out_device_store r h hart address (port_store r.devices r.journal (port_at gpa) width value)))
    (sym k.0) (stored_by o r h hart c address (port_store r.devices r.journal (port_at gpa) width value) at k.1)

-- ---- a store that stops the machine

pub write_stop_mirrors : (o : Unseen) (r : State) (h : ℕ) (hart : Hart) (c : HypervisorRegisters) (gpa : ℕ) → IsAt o r h hart c
    → Mirrors o r h (hw_write_stopped (machine_of o r) h (hw_in o c hart) gpa) (write_stopped r h hart gpa)
unfolding machine_of
write_stop_mirrors o r h hart c gpa at = stopped o r h hart c (machine_ended (Stopped (Write hart.pc gpa) h r.journal.counts.turns) r.journal) at (prints_none r.journal.printed)
