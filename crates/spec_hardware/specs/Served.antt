-- What an exit is answered, by what it tells and by the hart's mode, and what such an answer makes of a state. RISC-V Privileged
-- manual, H extension, "Trap Cause Codes" and "Transformed Instruction or Pseudoinstruction for mtinst or htinst", for what an
-- exit tells; the answers are this project's own.
use Rattle.std.specs.Prelude.{ℕ, ◌+◌, ◌-◌, ◌*◌, ◌%◌, ◌^◌, min, Bool, true, false, ◌||◌, List, ◌==◌, if◌then◌else◌, Option, Some, None, option_map}
use Rattle.spec_processor.specs.Bytes.{in_ram}
use Rattle.spec_processor.specs.Effects.{effect_of}
use Rattle.spec_processor.specs.Instructions.{instruction_of}
use Rattle.spec_processor.specs.HardwareMemory.{implicit_read}
use Rattle.spec_processor.specs.declared.cause.Cause.{Cause}
use Rattle.spec_processor.specs.declared.effect.Effect.{Effect}
use Rattle.spec_processor.specs.declared.instruction.Instr.{Instr}
use Rattle.spec_processor.specs.declared.exit.Exit.{Exit}
use Rattle.spec_processor.specs.declared.exit.ExitCause.{ExitCause}
use Rattle.spec_processor.specs.declared.mode.Mode.{Mode}
use Rattle.spec_processor.specs.declared.mode.Mode.TheVariants.{Kernel, User}
use Rattle.spec_reference.specs.States.{State, Hart, Binding}
use Rattle.spec_reference.specs.Devices.{device_load, device_store}
use Rattle.spec_reference.specs.Trapping.{trap, returned_from_trap}
use Rattle.spec_reference.specs.Requests.{carry_out_device_load, carry_out_device_store, write_stopped}
use Rattle.spec_reference.specs.Answers.{call}
use Rattle.spec_reference.specs.Turn.{demote, bound_entry, leave_entry, turn}
use Rattle.spec_hardware.specs.declared.exits.ExitAnswer.{ExitAnswer}
use Rattle.spec_hardware.specs.declared.exits.ExitAnswer.TheVariants.{Traps, Returns, Demotes, LeavesEntry, StopsAtWrite, LoadsDevice, StoresDevice, Calls}
use Rattle.spec_processor.specs.GStage.{htval_unit}

-- ---- what an exit tells

-- a first-stage entry was read
abbrev pub is_implicit : Exit → Bool
is_implicit exit = exit.htinst == implicit_read

-- htval has the address without its two low bits, which are those of stval, or 0 for an implicit read
abbrev pub exit_gpa : Exit → ℕ
exit_gpa exit = htval_unit * exit.htval + (if is_implicit exit then 0 else exit.stval % htval_unit)

-- a device is asked by an address of 64 bits: the last one stands for all beyond, and no register lies at any of them
abbrev pub device_gpa : Exit → ℕ
device_gpa exit = min (exit_gpa exit) (2 ^ 64 - 1)

-- the effect of the transformed instruction, of which the address doesn't count
unfoldable pub transformed_effect : (htinst : ℕ) → (registers : List ℕ) → (pc : ℕ) → Option Effect
transformed_effect htinst registers pc = option_map (λ instr. effect_of instr registers pc) (instruction_of htinst)

-- ---- the fetch

abbrev pub raises : Cause → (tval : ℕ) → ExitAnswer
raises cause tval = Traps (ExitCause.Exception cause) tval

-- kernel mode leaves for user mode where the page isn't approved
unfoldable pub fetch_answer : List ℕ → Mode → Exit → ExitAnswer
fetch_answer ram User exit = raises Cause.InstrAccess exit.stval
fetch_answer ram Kernel exit =
    if is_implicit exit then raises Cause.InstrAccess exit.stval
    else if in_ram ram (exit_gpa exit) 4 then Demotes (exit_gpa exit)
    else raises Cause.InstrAccess exit.stval

-- ---- accesses

-- plain loads and stores reach device registers
unfoldable pub load_answer : Exit → Option Effect → ExitAnswer
load_answer exit (Some (Effect.Load rd address width signed)) =
    LoadsDevice (record { rd = rd; address = exit.stval; width = width; signed = signed; gpa = device_gpa exit })
load_answer exit _ = raises Cause.LoadAccess exit.stval

unfoldable pub store_answer : Exit → Option Effect → ExitAnswer
store_answer exit (Some (Effect.Store address width value)) =
    StoresDevice (record { address = exit.stval; gpa = device_gpa exit; width = width; value = value })
store_answer exit _ = raises Cause.StoreAccess exit.stval

-- a page of RAM that refuses a store is protected
unfoldable pub write_answer : List ℕ → Exit → Option Effect → ExitAnswer
write_answer ram exit effect =
    if is_implicit exit then raises Cause.StoreAccess exit.stval
    else if in_ram ram (exit_gpa exit) 1 then StopsAtWrite (exit_gpa exit)
    else store_answer exit effect

-- ---- traps

-- the word is SRET's
unfoldable pub is_sret : Option Instr → Bool
is_sret (Some Instr.Sret) = true
is_sret _ = false

abbrev pub is_sret_word : ℕ → Bool
is_sret_word w = is_sret (instruction_of w)

-- SRET in kernel mode is an instruction that the hardware leaves to SecVisor
unfoldable pub virtual_answer : Mode → Exit → ExitAnswer
virtual_answer Kernel exit = if is_sret_word exit.stval then Returns else raises Cause.Illegal exit.stval
virtual_answer User exit = raises Cause.Illegal exit.stval

-- ---- what an answer depends on

pub record Seen : Type 0 where
  pub ram : List ℕ
  pub mode : Mode
  pub pc : ℕ
  -- the entry that the hart is in
  pub entry : Option Binding
  -- of the exit's transformed instruction
  pub effect : Option Effect

abbrev pub seen_of : State → Hart → Exit → Seen
seen_of r hart exit = record {
  ram = r.ram;
  mode = hart.mode;
  pc = hart.pc;
  entry = bound_entry r.rules hart.entry;
  effect = transformed_effect exit.htinst hart.registers hart.pc;
}

-- ---- outside of an entry

-- the guest takes its interrupts, and those exceptions that have no answer of their own
abbrev pub answer_by : ExitCause → Seen → Exit → ExitAnswer
answer_by (ExitCause.Interrupt interrupt) seen exit = Traps (ExitCause.Interrupt interrupt) 0
answer_by (ExitCause.Exception Cause.GuestCall) seen exit = Calls
answer_by (ExitCause.Exception Cause.GuestFetch) seen exit = fetch_answer seen.ram seen.mode exit
answer_by (ExitCause.Exception Cause.GuestLoad) seen exit = load_answer exit seen.effect
answer_by (ExitCause.Exception Cause.Virtual) seen exit = virtual_answer seen.mode exit
answer_by (ExitCause.Exception Cause.GuestStore) seen exit = write_answer seen.ram exit seen.effect
answer_by (ExitCause.Exception cause) seen exit = raises cause exit.stval

unfoldable pub plain_answer : Seen → Exit → ExitAnswer
plain_answer seen exit = answer_by exit.cause seen exit

-- ---- the fetch in an entry

-- a fetch faulted in the first stage
abbrev pub is_fetch_fault : ExitCause → Bool
is_fetch_fault (ExitCause.Exception Cause.InstrPage) = true
is_fetch_fault _ = false

-- a fetch faulted in the second
abbrev pub is_guest_fetch_fault : ExitCause → Bool
is_guest_fetch_fault (ExitCause.Exception Cause.GuestFetch) = true
is_guest_fetch_fault _ = false

abbrev pub is_fetch_exit : Exit → Bool
is_fetch_exit exit = is_fetch_fault exit.cause || is_guest_fetch_fault exit.cause

-- the address in RAM that a refused fetch led to, 0 where it led to none
unfoldable pub exit_ram_gpa : List ℕ → Exit → ℕ
exit_ram_gpa ram exit =
    if is_fetch_fault exit.cause then 0
    else if is_implicit exit then 0
    else if in_ram ram (exit_gpa exit) 4 then exit_gpa exit
    else 0

-- at the entry's address the hart is demoted. At any other it leaves the entry, and attempts the same turn again
unfoldable pub entry_answer : Seen → (va : ℕ) → Exit → ExitAnswer
entry_answer seen va exit = if seen.pc == va then Demotes (exit_ram_gpa seen.ram exit) else LeavesEntry

-- ---- all exits

unfoldable pub answer_in : Seen → Exit → Option Binding → ExitAnswer
answer_in seen exit None = plain_answer seen exit
answer_in seen exit (Some entry) = if is_fetch_exit exit then entry_answer seen entry.va exit else plain_answer seen exit

unfoldable pub exit_answer : Seen → Exit → ExitAnswer
exit_answer seen exit = answer_in seen exit seen.entry

-- it asks for a second attempt
unfoldable pub is_again : ExitAnswer → Bool
is_again LeavesEntry = true
is_again _ = false

-- ---- what an answer makes of a state

-- with the entry left, the turn is that of the state where it was left before
unfoldable pub exit_answered : State → ℕ → Hart → ExitAnswer → State
exit_answered r h hart (Traps cause tval) = trap r h hart cause tval
exit_answered r h hart Returns = returned_from_trap r h hart
exit_answered r h hart (Demotes gpa) = demote r h hart gpa
exit_answered r h hart LeavesEntry = turn (leave_entry r h hart) h
exit_answered r h hart (StopsAtWrite gpa) = write_stopped r h hart gpa
exit_answered r h hart (LoadsDevice load) =
    carry_out_device_load r h hart load.rd load.address load.width load.signed (device_load r.devices load.gpa load.width)
exit_answered r h hart (StoresDevice store) =
    carry_out_device_store r h hart store.address (device_store r.devices r.journal store.gpa store.width store.value)
exit_answered r h hart Calls = call r h hart

unfoldable pub serve_exit : State → ℕ → Hart → Exit → State
serve_exit r h hart exit = exit_answered r h hart (exit_answer (seen_of r hart exit) exit)
