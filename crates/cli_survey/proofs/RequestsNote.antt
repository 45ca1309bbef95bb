-- The notes of traps, loads, stores and register accesses.
use Rattle.std.proofs.Common.{◌≡◌, ℕ, List, Bool, false, refl, ap}
use Rattle.std.specs.Prelude.{Option, Some, None, option_map}
use Rattle.spec_processor.specs.Bytes.{ram_offset}
use Rattle.spec_processor.specs.Causes.{cause_number}
use Rattle.sv_types.specs.Console.{stored_byte}
use Rattle.spec_processor.specs.Requests.{covers}
use Rattle.spec_processor.specs.Traps.{trap_target}
use Rattle.spec_processor.specs.declared.cause.Cause.{Cause}
use Rattle.spec_processor.specs.declared.csr.Csr.{Csr}
use Rattle.sv_types.specs.declared.event.Note.{Note}
use Rattle.spec_processor.specs.declared.instruction.AmoOp.{AmoOp}
use Rattle.spec_processor.specs.declared.instruction.CsrOp.{CsrOp}
use Rattle.spec_processor.specs.declared.mode.Mode.{Mode}
use Rattle.spec_reference.specs.States.{State, Hart, Devices, Disk, Journal}
use Rattle.spec_reference.specs.Counting.{printed_low}
use Rattle.spec_reference.specs.Disk.{disk_store}
use Rattle.spec_reference.specs.Devices.{DeviceLoad, DeviceStore, Port, ConsoleAt, DiskAt, Nowhere, port_at, port_store, device_load, device_store, with_bytes}
use Rattle.spec_reference.specs.Requests.{carried_out_writing, Source, NoSource, FromRam, FromDevice, Target, NoTarget, Guarded, ToRam}
use Rattle.spec_reference.specs.Requests.{ToDevice, carry_out_device_load, carry_out_load, carry_out_load_reserved, carry_out_device_store}
use Rattle.spec_reference.specs.Requests.{carry_out_store, write_stopped, carry_out_store_conditional, carry_out_amo, carry_out_csr}
use Rattle.spec_reference.specs.Trapping.{trap_from, exception, returned_from_trap, may_enter}
use Rattle.machine.specs.Noting.{noting}
use Rattle.machine_journal.specs.Journals.{with_notes}
use Rattle.cli_survey.proofs.KeepsNotes.{Notes, choose, quiet, through}

-- ---- traps

pub trap_notes : (r : State) (h : ℕ) (hart : Hart) (from : Mode) (interrupt : Bool) (cause tval : ℕ) →
    Notes (λ notes. trap_from (noting notes r) h hart from interrupt cause tval) (trap_from r h hart from interrupt cause tval)
unfolding trap_from
trap_notes r h hart from interrupt cause tval =
    choose (may_enter r.rules from (trap_target hart.supervisor.stvec interrupt cause)) _ _ _ _ (quiet _) (quiet _)

pub exception_notes : (r : State) (h : ℕ) (hart : Hart) (cause : Cause) (tval : ℕ) → Notes (λ notes. exception (noting notes r) h hart cause tval) (exception r h hart cause tval)
exception_notes r h hart cause tval = trap_notes r h hart hart.mode false (cause_number cause) tval

pub return_notes : (r : State) (h : ℕ) (hart : Hart) → Notes (λ notes. returned_from_trap (noting notes r) h hart) (returned_from_trap r h hart)
unfolding returned_from_trap
return_notes r h hart = quiet _

-- ---- loads

device_load_notes : (r : State) (h : ℕ) (hart : Hart) (rd address width : ℕ) (signed : Bool) (x : Option DeviceLoad) →
    Notes (λ notes. carry_out_device_load (noting notes r) h hart rd address width signed x) (carry_out_device_load r h hart rd address width signed x)
unfolding carry_out_device_load
device_load_notes r h hart rd address width signed None = exception_notes r h hart Cause.LoadAccess address
device_load_notes r h hart rd address width signed (Some l) = quiet _

pub load_notes : (r : State) (h : ℕ) (hart : Hart) (rd address width : ℕ) (signed : Bool) (x : Source) →
    Notes (λ notes. carry_out_load (noting notes r) h hart rd address width signed x) (carry_out_load r h hart rd address width signed x)
unfolding carry_out_load
load_notes r h hart rd address width signed (NoSource cause) = exception_notes r h hart cause address
load_notes r h hart rd address width signed (FromRam gpa) = quiet _
load_notes r h hart rd address width signed (FromDevice gpa) = device_load_notes r h hart rd address width signed (device_load r.devices gpa width)

pub load_reserved_notes : (r : State) (h : ℕ) (hart : Hart) (rd address width : ℕ) (x : Source) →
    Notes (λ notes. carry_out_load_reserved (noting notes r) h hart rd address width x) (carry_out_load_reserved r h hart rd address width x)
unfolding carry_out_load_reserved
load_reserved_notes r h hart rd address width (NoSource cause) = exception_notes r h hart cause address
load_reserved_notes r h hart rd address width (FromRam gpa) = quiet _
load_reserved_notes r h hart rd address width (FromDevice gpa) = exception_notes r h hart Cause.LoadAccess address

-- ---- stores

-- a store into a device's register notes nothing
abbrev store_noting : List Note → DeviceStore → DeviceStore
store_noting notes s = record { devices = s.devices; journal = with_notes notes s.journal }

console_noting : (notes : List Note) (d : Devices) (j : Journal) (x : Option ℕ) → option_map (λ byte. record { devices = d; journal = printed_low byte (with_notes notes j) }) x ≡
    option_map (store_noting notes) (option_map (λ byte. record { devices = d; journal = printed_low byte j }) x)
console_noting notes d j None = refl
console_noting notes d j (Some byte) = refl

disk_noting : (notes : List Note) (d : Devices) (j : Journal) (x : Option Disk) →
    option_map (λ (disk : Disk). record { devices = record d { disk = disk }; journal = with_notes notes j }) x ≡
    option_map (store_noting notes) (option_map (λ (disk : Disk). record { devices = record d { disk = disk }; journal = j }) x)
disk_noting notes d j None = refl
disk_noting notes d j (Some disk) = refl

port_noting : (notes : List Note) (d : Devices) (j : Journal) (port : Port) (width value : ℕ) →
    port_store d (with_notes notes j) port width value ≡ option_map (store_noting notes) (port_store d j port width value)
unfolding port_store
port_noting notes d j (ConsoleAt offset) width value = console_noting notes d j (stored_byte offset width value)
port_noting notes d j (DiskAt offset) width value = disk_noting notes d j (disk_store d.disk offset width value)
port_noting notes d j Nowhere width value = refl

device_noting : (notes : List Note) (d : Devices) (j : Journal) (gpa width value : ℕ) →
    device_store d (with_notes notes j) gpa width value ≡ option_map (store_noting notes) (device_store d j gpa width value)
unfolding device_store
device_noting notes d j gpa width value = port_noting notes d j (port_at gpa) width value

stored_notes : (r : State) (h : ℕ) (hart : Hart) (address : ℕ) (x : Option DeviceStore) →
    Notes (λ notes. carry_out_device_store (noting notes r) h hart address (option_map (store_noting notes) x)) (carry_out_device_store r h hart address x)
unfolding carry_out_device_store
stored_notes r h hart address None = exception_notes r h hart Cause.StoreAccess address
stored_notes r h hart address (Some s) = quiet _

device_store_notes : (r : State) (h : ℕ) (hart : Hart) (address gpa width value : ℕ) →
    Notes (λ notes. carry_out_device_store (noting notes r) h hart address (device_store r.devices (with_notes notes r.journal) gpa width value))
    (carry_out_device_store r h hart address (device_store r.devices r.journal gpa width value))
device_store_notes r h hart address gpa width value =
    through _ _ _ (λ notes. ap (λ (x : Option DeviceStore). carry_out_device_store (noting notes r) h hart address x) (device_noting notes r.devices r.journal gpa width value))
    (stored_notes r h hart address (device_store r.devices r.journal gpa width value))

written_notes : (r : State) (h : ℕ) (next : Hart) (at : ℕ) (bytes : List ℕ) → Notes (λ notes. carried_out_writing (noting notes r) h next at bytes) (carried_out_writing r h next at bytes)
unfolding with_bytes
written_notes r h next at bytes = quiet _

guarded_notes : (r : State) (h : ℕ) (hart : Hart) (gpa : ℕ) → Notes (λ notes. write_stopped (noting notes r) h hart gpa) (write_stopped r h hart gpa)
guarded_notes r h hart gpa = quiet _

pub store_notes : (r : State) (h : ℕ) (hart : Hart) (address width value : ℕ) (x : Target) →
    Notes (λ notes. carry_out_store (noting notes r) h hart address width value x) (carry_out_store r h hart address width value x)
unfolding carry_out_store
store_notes r h hart address width value (NoTarget cause) = exception_notes r h hart cause address
store_notes r h hart address width value (Guarded gpa) = guarded_notes r h hart gpa
store_notes r h hart address width value (ToRam gpa) = written_notes r h _ (ram_offset gpa) _
store_notes r h hart address width value (ToDevice gpa) = device_store_notes r h hart address gpa width value

pub store_conditional_notes : (r : State) (h : ℕ) (hart : Hart) (rd address width value : ℕ) (x : Target) →
    Notes (λ notes. carry_out_store_conditional (noting notes r) h hart rd address width value x) (carry_out_store_conditional r h hart rd address width value x)
unfolding carry_out_store_conditional
store_conditional_notes r h hart rd address width value (NoTarget cause) = exception_notes r h hart cause address
store_conditional_notes r h hart rd address width value (Guarded gpa) = guarded_notes r h hart gpa
store_conditional_notes r h hart rd address width value (ToRam gpa) =
    choose (covers hart.reservation (ram_offset gpa) width) _ _ _ _ (written_notes r h _ (ram_offset gpa) _) (quiet _)
store_conditional_notes r h hart rd address width value (ToDevice gpa) = exception_notes r h hart Cause.StoreAccess address

pub amo_notes : (r : State) (h : ℕ) (hart : Hart) (rd address width : ℕ) (op : AmoOp) (value : ℕ) (x : Target) →
    Notes (λ notes. carry_out_amo (noting notes r) h hart rd address width op value x) (carry_out_amo r h hart rd address width op value x)
unfolding carry_out_amo
amo_notes r h hart rd address width op value (NoTarget cause) = exception_notes r h hart cause address
amo_notes r h hart rd address width op value (Guarded gpa) = guarded_notes r h hart gpa
amo_notes r h hart rd address width op value (ToRam gpa) = written_notes r h _ (ram_offset gpa) _
amo_notes r h hart rd address width op value (ToDevice gpa) = exception_notes r h hart Cause.StoreAccess address

-- ---- registers

pub csr_notes : (r : State) (h : ℕ) (hart : Hart) (w rd : ℕ) (op : CsrOp) (operand : ℕ) (writes : Bool) (x : Option Csr) →
    Notes (λ notes. carry_out_csr (noting notes r) h hart w rd op operand writes x) (carry_out_csr r h hart w rd op operand writes x)
unfolding carry_out_csr
csr_notes r h hart w rd op operand writes None = exception_notes r h hart Cause.Illegal w
csr_notes r h hart w rd op operand writes (Some csr) = quiet _
