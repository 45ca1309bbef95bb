-- Loads, stores and register accesses of the reference machine.
-- RISC-V Unprivileged manual, "Load and Store Instructions", the extension "A", "Zicsr"; Privileged manual, "Supervisor
-- Cause Register" for the order of exceptions. That a store into a protected page stops the machine is this project's own.
use Rattle.std.specs.Prelude.{ℕ, ◌%◌, Bool, true, List, ◌==◌, if◌then◌else◌, Option, Some, None}
use Rattle.spec_processor.specs.Bits.{bit}
use Rattle.spec_processor.specs.Bytes.{word, low_bytes, in_ram, ram_offset, page_of}
use Rattle.spec_processor.specs.Effects.{set_register, next_pc, amo_value}
use Rattle.spec_processor.specs.Registers.{Supervisor, sum_bit, mxr_bit, guest_access, read_csr, write_csr}
use Rattle.spec_processor.specs.Requests.{loaded_value, csr_value, reserved_at, covers}
use Rattle.spec_processor.specs.Translation.{Destination, At, PageFault, Unreadable, Settings, place}
use Rattle.spec_processor.specs.declared.cause.Cause.{Cause}
use Rattle.spec_processor.specs.declared.csr.Csr.{Csr}
use Rattle.spec_processor.specs.declared.instruction.AmoOp.{AmoOp}
use Rattle.spec_processor.specs.declared.instruction.CsrOp.{CsrOp}
use Rattle.spec_processor.specs.declared.access.Access.TheVariants as Access
use Rattle.spec_processor.specs.declared.mode.Mode.{Mode}
use Rattle.sv_types.specs.declared.event.Rule.TheVariants.{Write}
use Rattle.spec_reference.specs.States.{State, Hart, is_protected, with_hart, without_reservation}
use Rattle.spec_reference.specs.Counting.{count, count_retired, stopped_by}
use Rattle.spec_reference.specs.Devices.{DeviceLoad, DeviceStore, device_load, device_store, lines_at, with_bytes}
use Rattle.spec_reference.specs.Trapping.{exception}

-- ---- going on

-- the hart at its next instruction
abbrev pub at_next_instruction : Hart → Hart
at_next_instruction hart = record hart { pc = next_pc hart.pc }

abbrev pub stepped_with : Hart → (rd value : ℕ) → Hart
stepped_with hart rd value = at_next_instruction (record hart { registers = set_register hart.registers rd value })

-- the hart's instruction is carried out
abbrev pub carried_out : State → ℕ → Hart → State
carried_out r h hart = with_hart (count r count_retired) h hart

-- the same, with bytes written at a place in RAM. The write comes last, so that it takes this hart's reservation too
abbrev pub carried_out_writing : State → ℕ → Hart → ℕ → List ℕ → State
carried_out_writing r h hart at bytes = with_bytes (carried_out r h hart) at bytes

-- ---- where loads go

pub data Source : Type 0 where
  NoSource : (cause : Cause) → Source
  FromRam : (gpa : ℕ) → Source
  -- outside RAM
  FromDevice : (gpa : ℕ) → Source

unfoldable pub source_at : List ℕ → ℕ → Destination → Source
source_at ram width (At gpa) = if in_ram ram gpa width then FromRam gpa else FromDevice gpa
source_at ram width PageFault = NoSource Cause.LoadPage
source_at ram width (Unreadable entry) = NoSource Cause.LoadAccess

abbrev pub settings_of : Supervisor → Settings
settings_of s = record { satp = s.satp; sum = bit s.sstatus sum_bit; mxr = bit s.sstatus mxr_bit }

-- an address that is no multiple of the width isn't translated
unfoldable pub load_source : List ℕ → Settings → Mode → (address width : ℕ) → Source
load_source ram settings mode address width =
    if address % width == 0 then source_at ram width (place ram settings mode address Access.Load) else NoSource Cause.LoadMisaligned

abbrev pub source_of : State → Hart → (address width : ℕ) → Source
source_of r hart address width = load_source r.ram (settings_of hart.supervisor) hart.mode address width

-- ---- where stores go

pub data Target : Type 0 where
  NoTarget : (cause : Cause) → Target
  Guarded : (gpa : ℕ) → Target
  ToRam : (gpa : ℕ) → Target
  ToDevice : (gpa : ℕ) → Target

unfoldable pub target_at : List ℕ → (ℕ → Bool) → ℕ → Destination → Target
target_at ram protected width (At gpa) =
    if in_ram ram gpa width then (if protected (page_of gpa) then Guarded gpa else ToRam gpa) else ToDevice gpa
target_at ram protected width PageFault = NoTarget Cause.StorePage
target_at ram protected width (Unreadable entry) = NoTarget Cause.StoreAccess

unfoldable pub store_target : List ℕ → (ℕ → Bool) → Settings → Mode → (address width : ℕ) → Target
store_target ram protected settings mode address width =
    if address % width == 0 then target_at ram protected width (place ram settings mode address Access.Store) else NoTarget Cause.StoreMisaligned

abbrev pub target_of : State → Hart → (address width : ℕ) → Target
target_of r hart address width = store_target r.ram (is_protected r) (settings_of hart.supervisor) hart.mode address width

-- ---- loads

abbrev pub ram_word : State → (gpa width : ℕ) → ℕ
ram_word r gpa width = word r.ram (ram_offset gpa) width

-- a device register takes the reservation
unfoldable pub carry_out_device_load : State → ℕ → Hart → (rd address width : ℕ) → (signed : Bool) → Option DeviceLoad → State
carry_out_device_load r h hart rd address width signed None = exception r h hart Cause.LoadAccess address
carry_out_device_load r h hart rd address width signed (Some l) =
    carried_out (record r { devices = l.devices }) h (stepped_with (without_reservation hart) rd (loaded_value signed width l.value))

unfoldable pub carry_out_load : State → ℕ → Hart → (rd address width : ℕ) → (signed : Bool) → Source → State
carry_out_load r h hart rd address width signed (NoSource cause) = exception r h hart cause address
carry_out_load r h hart rd address width signed (FromRam gpa) = carried_out r h (stepped_with hart rd (loaded_value signed width (ram_word r gpa width)))
carry_out_load r h hart rd address width signed (FromDevice gpa) =
    carry_out_device_load r h hart rd address width signed (device_load r.devices gpa width)

unfoldable pub carry_out_load_reserved : State → ℕ → Hart → (rd address width : ℕ) → Source → State
carry_out_load_reserved r h hart rd address width (NoSource cause) = exception r h hart cause address
carry_out_load_reserved r h hart rd address width (FromRam gpa) =
    carried_out r h (stepped_with (record hart { reservation = Some (reserved_at (ram_offset gpa)) }) rd (loaded_value true width (ram_word r gpa width)))
carry_out_load_reserved r h hart rd address width (FromDevice gpa) = exception r h hart Cause.LoadAccess address

-- ---- stores

abbrev pub write_stopped : State → ℕ → Hart → ℕ → State
write_stopped r h hart gpa = stopped_by r h (Write hart.pc gpa)

unfoldable pub carry_out_device_store : State → ℕ → Hart → (address : ℕ) → Option DeviceStore → State
carry_out_device_store r h hart address None = exception r h hart Cause.StoreAccess address
carry_out_device_store r h hart address (Some s) =
    carried_out (record r { devices = s.devices; journal = s.journal }) h (at_next_instruction (without_reservation hart))

unfoldable pub carry_out_store : State → ℕ → Hart → (address width value : ℕ) → Target → State
carry_out_store r h hart address width value (NoTarget cause) = exception r h hart cause address
carry_out_store r h hart address width value (Guarded gpa) = write_stopped r h hart gpa
carry_out_store r h hart address width value (ToRam gpa) = carried_out_writing r h (at_next_instruction hart) (ram_offset gpa) (low_bytes width value)
carry_out_store r h hart address width value (ToDevice gpa) = carry_out_device_store r h hart address (device_store r.devices r.journal gpa width value)

-- the reservation goes in both cases; rd is 0 where the bytes were written, and else 1
unfoldable pub carry_out_store_conditional : State → ℕ → Hart → (rd address width value : ℕ) → Target → State
carry_out_store_conditional r h hart rd address width value (NoTarget cause) = exception r h hart cause address
carry_out_store_conditional r h hart rd address width value (Guarded gpa) = write_stopped r h hart gpa
carry_out_store_conditional r h hart rd address width value (ToRam gpa) =
    if covers hart.reservation (ram_offset gpa) width
    then carried_out_writing r h (stepped_with (without_reservation hart) rd 0) (ram_offset gpa) (low_bytes width value)
    else carried_out r h (stepped_with (without_reservation hart) rd 1)
carry_out_store_conditional r h hart rd address width value (ToDevice gpa) = exception r h hart Cause.StoreAccess address

unfoldable pub carry_out_amo : State → ℕ → Hart → (rd address width : ℕ) → AmoOp → ℕ → Target → State
carry_out_amo r h hart rd address width op value (NoTarget cause) = exception r h hart cause address
carry_out_amo r h hart rd address width op value (Guarded gpa) = write_stopped r h hart gpa
carry_out_amo r h hart rd address width op value (ToRam gpa) =
    carried_out_writing r h (stepped_with hart rd (loaded_value true width (ram_word r gpa width))) (ram_offset gpa)
    (low_bytes width (amo_value op width (ram_word r gpa width) value))
carry_out_amo r h hart rd address width op value (ToDevice gpa) = exception r h hart Cause.StoreAccess address

-- ---- registers

abbrev pub with_csr_set : Hart → Csr → ℕ → Hart
with_csr_set hart csr value = record hart { supervisor = write_csr hart.supervisor csr value }

abbrev pub csr_now : State → ℕ → Hart → Csr → ℕ
csr_now r h hart csr = read_csr hart.supervisor (lines_at r.devices h) csr

-- rd takes the value that was read before the write
unfoldable pub carry_out_csr : State → ℕ → Hart → (w rd : ℕ) → CsrOp → (operand : ℕ) → (writes : Bool) → Option Csr → State
carry_out_csr r h hart w rd op operand writes None = exception r h hart Cause.Illegal w
carry_out_csr r h hart w rd op operand writes (Some csr) =
    carried_out r h (stepped_with (if writes then with_csr_set hart csr (csr_value op (csr_now r h hart csr) operand) else hart) rd (csr_now r h hart csr))

abbrev pub csr_asked : Hart → (number : ℕ) → (writes : Bool) → Option Csr
csr_asked hart number writes = guest_access hart.mode hart.supervisor number writes
