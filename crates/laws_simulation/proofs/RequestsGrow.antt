-- The journal after traps, loads, stores and register accesses.
use Rattle.std.proofs.Common.{ℕ, List, Bool, false}
use Rattle.std.specs.Prelude.{Option, Some, None, option_map}
use Rattle.spec_processor.specs.Bytes.{ram_offset}
use Rattle.spec_processor.specs.Causes.{cause_number}
use Rattle.sv_types.specs.Console.{stored_byte}
use Rattle.spec_processor.specs.Requests.{covers}
use Rattle.spec_processor.specs.Traps.{trap_target, mode_at_return}
use Rattle.spec_processor.specs.declared.cause.Cause.{Cause}
use Rattle.spec_processor.specs.declared.csr.Csr.{Csr}
use Rattle.sv_types.specs.declared.event.Rule.TheVariants.{Entry, Write}
use Rattle.sv_types.specs.declared.event.Verdict.TheVariants.{Stopped}
use Rattle.spec_processor.specs.declared.instruction.AmoOp.{AmoOp}
use Rattle.spec_processor.specs.declared.instruction.CsrOp.{CsrOp}
use Rattle.spec_processor.specs.declared.mode.Mode.{Mode}
use Rattle.spec_reference.specs.States.{State, Hart, Devices, Disk, Journal}
use Rattle.spec_reference.specs.Counting.{with_count, count_retired, printed_low}
use Rattle.spec_reference.specs.Disk.{disk_store}
use Rattle.spec_reference.specs.Devices.{DeviceLoad, DeviceStore, Port, ConsoleAt, DiskAt, Nowhere, port_at, port_store, device_load, device_store, with_bytes}
use Rattle.spec_reference.specs.Requests.{carried_out_writing, Source, NoSource, FromRam, FromDevice, Target, NoTarget, Guarded, ToRam}
use Rattle.spec_reference.specs.Requests.{ToDevice, carry_out_device_load, carry_out_load, carry_out_load_reserved, carry_out_device_store}
use Rattle.spec_reference.specs.Requests.{carry_out_store, write_stopped, carry_out_store_conditional, carry_out_amo, carry_out_csr}
use Rattle.spec_reference.specs.Trapping.{trap_from, exception, returned_from_trap, may_enter}
use Rattle.laws_simulation.proofs.Growth.{Moves, Gains, choose_gains, ended, retires, printed_retired, trapped, returned}

-- ---- traps

pub trap_gains : (r : State) (h : ℕ) (hart : Hart) (from : Mode) (interrupt : Bool) (cause tval : ℕ) → Gains r (trap_from r h hart from interrupt cause tval)
unfolding trap_from
trap_gains r h hart from interrupt cause tval =
    choose_gains r (may_enter r.rules from (trap_target hart.supervisor.stvec interrupt cause)) _ _
    (trapped r.journal from)
    (ended r.journal (Stopped (Entry (trap_target hart.supervisor.stvec interrupt cause)) h r.journal.counts.turns))

pub exception_gains : (r : State) (h : ℕ) (hart : Hart) (cause : Cause) (tval : ℕ) → Gains r (exception r h hart cause tval)
exception_gains r h hart cause tval = trap_gains r h hart hart.mode false (cause_number cause) tval

pub return_gains : (r : State) (h : ℕ) (hart : Hart) → Gains r (returned_from_trap r h hart)
unfolding returned_from_trap
return_gains r h hart = returned r.journal (mode_at_return hart.supervisor.sstatus)

-- ---- loads

device_load_gains : (r : State) (h : ℕ) (hart : Hart) (rd address width : ℕ) (signed : Bool) (x : Option DeviceLoad) → Gains r (carry_out_device_load r h hart rd address width signed x)
unfolding carry_out_device_load
device_load_gains r h hart rd address width signed None = exception_gains r h hart Cause.LoadAccess address
device_load_gains r h hart rd address width signed (Some l) = retires r.journal

pub load_gains : (r : State) (h : ℕ) (hart : Hart) (rd address width : ℕ) (signed : Bool) (x : Source) → Gains r (carry_out_load r h hart rd address width signed x)
unfolding carry_out_load
load_gains r h hart rd address width signed (NoSource cause) = exception_gains r h hart cause address
load_gains r h hart rd address width signed (FromRam gpa) = retires r.journal
load_gains r h hart rd address width signed (FromDevice gpa) = device_load_gains r h hart rd address width signed (device_load r.devices gpa width)

pub load_reserved_gains : (r : State) (h : ℕ) (hart : Hart) (rd address width : ℕ) (x : Source) → Gains r (carry_out_load_reserved r h hart rd address width x)
unfolding carry_out_load_reserved
load_reserved_gains r h hart rd address width (NoSource cause) = exception_gains r h hart cause address
load_reserved_gains r h hart rd address width (FromRam gpa) = retires r.journal
load_reserved_gains r h hart rd address width (FromDevice gpa) = exception_gains r h hart Cause.LoadAccess address

-- ---- stores

-- a store into a device's register prints a byte or none, and the instruction retires
abbrev StoreMoves : Journal → Option DeviceStore → Type 0
StoreMoves j None = Unit {0}
StoreMoves j (Some s) = Moves j (with_count count_retired s.journal)

console_moves : (d : Devices) (j : Journal) (x : Option ℕ) → StoreMoves j (option_map (λ byte. record { devices = d; journal = printed_low byte j }) x)
console_moves d j None = tt
console_moves d j (Some byte) = printed_retired j byte

disk_moves : (d : Devices) (j : Journal) (x : Option Disk) → StoreMoves j (option_map (λ (disk : Disk). record { devices = record d { disk = disk }; journal = j }) x)
disk_moves d j None = tt
disk_moves d j (Some disk) = retires j

port_moves : (d : Devices) (j : Journal) (port : Port) (width value : ℕ) → StoreMoves j (port_store d j port width value)
unfolding port_store
port_moves d j (ConsoleAt offset) width value = console_moves d j (stored_byte offset width value)
port_moves d j (DiskAt offset) width value = disk_moves d j (disk_store d.disk offset width value)
port_moves d j Nowhere width value = tt

device_moves : (d : Devices) (j : Journal) (gpa width value : ℕ) → StoreMoves j (device_store d j gpa width value)
unfolding device_store
device_moves d j gpa width value = port_moves d j (port_at gpa) width value

device_store_gains : (r : State) (h : ℕ) (hart : Hart) (address : ℕ) (x : Option DeviceStore) → StoreMoves r.journal x → Gains r (carry_out_device_store r h hart address x)
unfolding carry_out_device_store
device_store_gains r h hart address None moves = exception_gains r h hart Cause.StoreAccess address
device_store_gains r h hart address (Some s) moves = moves

written_gains : (r : State) (h : ℕ) (next : Hart) (at : ℕ) (bytes : List ℕ) → Gains r (carried_out_writing r h next at bytes)
unfolding with_bytes
written_gains r h next at bytes = retires r.journal

guarded_gains : (r : State) (h : ℕ) (hart : Hart) (gpa : ℕ) → Gains r (write_stopped r h hart gpa)
guarded_gains r h hart gpa = ended r.journal (Stopped (Write hart.pc gpa) h r.journal.counts.turns)

pub store_gains : (r : State) (h : ℕ) (hart : Hart) (address width value : ℕ) (x : Target) → Gains r (carry_out_store r h hart address width value x)
unfolding carry_out_store
store_gains r h hart address width value (NoTarget cause) = exception_gains r h hart cause address
store_gains r h hart address width value (Guarded gpa) = guarded_gains r h hart gpa
store_gains r h hart address width value (ToRam gpa) = written_gains r h _ (ram_offset gpa) _
store_gains r h hart address width value (ToDevice gpa) =
    device_store_gains r h hart address (device_store r.devices r.journal gpa width value) (device_moves r.devices r.journal gpa width value)

pub store_conditional_gains : (r : State) (h : ℕ) (hart : Hart) (rd address width value : ℕ) (x : Target) → Gains r (carry_out_store_conditional r h hart rd address width value x)
unfolding carry_out_store_conditional
store_conditional_gains r h hart rd address width value (NoTarget cause) = exception_gains r h hart cause address
store_conditional_gains r h hart rd address width value (Guarded gpa) = guarded_gains r h hart gpa
store_conditional_gains r h hart rd address width value (ToRam gpa) =
    choose_gains r (covers hart.reservation (ram_offset gpa) width) _ _ (written_gains r h _ (ram_offset gpa) _) (retires r.journal)
store_conditional_gains r h hart rd address width value (ToDevice gpa) = exception_gains r h hart Cause.StoreAccess address

pub amo_gains : (r : State) (h : ℕ) (hart : Hart) (rd address width : ℕ) (op : AmoOp) (value : ℕ) (x : Target) → Gains r (carry_out_amo r h hart rd address width op value x)
unfolding carry_out_amo
amo_gains r h hart rd address width op value (NoTarget cause) = exception_gains r h hart cause address
amo_gains r h hart rd address width op value (Guarded gpa) = guarded_gains r h hart gpa
amo_gains r h hart rd address width op value (ToRam gpa) = written_gains r h _ (ram_offset gpa) _
amo_gains r h hart rd address width op value (ToDevice gpa) = exception_gains r h hart Cause.StoreAccess address

-- ---- registers

pub csr_gains : (r : State) (h : ℕ) (hart : Hart) (w rd : ℕ) (op : CsrOp) (operand : ℕ) (writes : Bool) (x : Option Csr) → Gains r (carry_out_csr r h hart w rd op operand writes x)
unfolding carry_out_csr
csr_gains r h hart w rd op operand writes None = exception_gains r h hart Cause.Illegal w
csr_gains r h hart w rd op operand writes (Some csr) = retires r.journal
