-- Calls from kernel mode, but for those about modules. Each call has one line, which says its answer.
-- RISC-V SBI, "Base Extension", "Legacy Extensions", "Timer Extension", "IPI Extension", "RFENCE Extension",
-- "Hart State Management Extension", "System Reset Extension". The extension 08534543 is this project's own.
use Rattle.std.specs.Prelude.{ℕ, ◌+◌, ◌-◌, ◌^◌, Bool, true, false, not, ◌&&◌, ◌||◌, List, [], ◌∷◌, map, length, replicate, slice_index}
use Rattle.std.specs.Prelude.{◌==◌, if◌then◌else◌, nat_le, nat_lt, Option, Some, None, slice_get, is_some}
use Rattle.std.specs.List.{list_all}
use Rattle.spec_processor.specs.Bits.{bit}
use Rattle.sv_types.specs.Console.{console_line}
use Rattle.spec_processor.specs.Effects.{register, set_register}
use Rattle.sv_types.specs.ApprovedPages.{numbers_from}
use Rattle.sv_types.specs.Policies.{Rules}
use Rattle.spec_processor.specs.Registers.{Supervisor}
use Rattle.sv_types.specs.SbiCodes.{code_word, implementation_number}
use Rattle.spec_processor.specs.IntegerRegisters as abi
use Rattle.sv_types.specs.declared.saved.ModulePlacement.{ModulePlacement}
use Rattle.sv_types.specs.declared.sbi.SbiCode.{SbiCode}
use Rattle.sv_types.specs.declared.sbi.SbiCode.TheVariants.{Success, NoInput, NotSupported, InvalidParameter, InvalidAddress, Already}
use Rattle.spec_processor.specs.declared.mode.Mode.TheVariants.{Kernel}
use Rattle.spec_reference.specs.SbiFunctions.{get_specification, get_implementation, get_version, probe, get_machine, set_the_timer}
use Rattle.spec_reference.specs.SbiFunctions.{send_ipi, last_fence, mask_width, hart_start, hart_stop, hart_status, state_started}
use Rattle.spec_reference.specs.SbiFunctions.{state_stopped, system_reset, shutdown_type, last_reset_type}
use Rattle.spec_reference.specs.States.{State, Hart, has_number, is_protected}
use Rattle.spec_reference.specs.declared.answers.Answer.{Answer}
use Rattle.spec_reference.specs.declared.answers.SideEffect.TheVariants.{Nothing, SetsTimer, Prints, TakesInput, ShutsDown, SendsInterrupts, StartsHart}
use Rattle.spec_reference.specs.declared.answers.Extension.{Extension}
use Rattle.spec_reference.specs.declared.answers.Reply.{Reply}
use Rattle.spec_reference.specs.declared.answers.Reply.TheVariants.{Gives, Replies, Stays, Stops}
use Rattle.sv_types.specs.SbiExtensions.{set_timer_extension, put_char_extension, get_char_extension, shut_down_extension, base_extension}
use Rattle.sv_types.specs.SbiExtensions.{timer_extension, interrupt_extension, fence_extension, hart_state_extension, reset_extension}
use Rattle.sv_types.specs.SbiExtensions.{modules_extension}

-- ---- what a call asks

pub record Asked : Type 0 where
  pub extension : ℕ
  pub function : ℕ
  pub a0 : ℕ
  pub a1 : ℕ
  pub a2 : ℕ
  pub a3 : ℕ

abbrev pub asked_by : List ℕ → Asked
asked_by registers = record {
  extension = register registers abi.a7;
  function = register registers abi.a6;
  a0 = register registers abi.a0;
  a1 = register registers abi.a1;
  a2 = register registers abi.a2;
  a3 = register registers abi.a3;
}

-- what an answer depends on besides
pub record Facts : Type 0 where
  pub rules : Rules
  -- of each hart, whether it is started
  pub started : List Bool
  -- input that waits
  pub input : List ℕ
  pub ram : List ℕ
  -- of a page, whether it is approved or held
  pub protected : ℕ → Bool
  -- a load is under way
  pub loads : Bool
  pub loaded : List ModulePlacement
  pub retired : Bool

abbrev pub facts_of : State → Facts
facts_of r = record {
  rules = r.rules;
  started = map (λ (hart : Hart). hart.started) r.harts;
  input = r.devices.console;
  ram = r.ram;
  protected = is_protected r;
  loads = is_some r.loading;
  loaded = r.loaded;
  retired = r.retired;
}

-- ---- answers

abbrev pub code : SbiCode → Reply
code how = Replies (code_word how) 0

abbrev pub value : ℕ → Reply
value number = Replies 0 number

abbrev pub not_supported : Reply
not_supported = code NotSupported

abbrev pub plain : Reply → Answer
plain reply = record { reply = reply; side_effect = Nothing }

-- ---- legacy calls, which set a0 alone

abbrev pub set_timer : ℕ → Answer
set_timer at = record { reply = Gives 0; side_effect = SetsTimer at }

abbrev pub put_char : ℕ → Answer
put_char byte = record { reply = Gives 0; side_effect = Prints byte }

abbrev pub first_input : List ℕ → ℕ
first_input queue = if console_line queue then slice_index queue 0 else code_word NoInput

abbrev pub get_char : Facts → Answer
get_char f = record { reply = Gives (first_input f.input); side_effect = TakesInput }

abbrev pub shut_down : Answer
shut_down = record { reply = Stays; side_effect = ShutsDown }

-- ---- base, timer, IPI, remote fences

unfoldable pub extension_of : ℕ → Option Extension
extension_of number =
    if number == set_timer_extension then Some Extension.SetTimer
    else if number == put_char_extension then Some Extension.PutChar
    else if number == get_char_extension then Some Extension.GetChar
    else if number == shut_down_extension then Some Extension.ShutDown
    else if number == base_extension then Some Extension.Base
    else if number == timer_extension then Some Extension.Timer
    else if number == interrupt_extension then Some Extension.Interrupt
    else if number == fence_extension then Some Extension.Fence
    else if number == hart_state_extension then Some Extension.HartState
    else if number == reset_extension then Some Extension.Reset
    else if number == modules_extension then Some Extension.Modules
    else None

-- the version of the SBI, 1.0, and that of this implementation
abbrev pub sbi_version : ℕ
sbi_version = 0x01000000

abbrev pub implementation_version : ℕ
implementation_version = 1

unfoldable pub base_call : Asked → Reply
base_call ask =
    if ask.function == get_specification then value sbi_version
    else if ask.function == get_implementation then value implementation_number
    else if ask.function == get_version then value implementation_version
    else if ask.function == probe then value (if is_some (extension_of ask.a0) then 1 else 0)
    else if nat_le ask.function get_machine then value 0
    else not_supported

unfoldable pub timer_call : Asked → Answer
timer_call ask = if ask.function == set_the_timer then record { reply = code Success; side_effect = SetsTimer ask.a0 } else plain not_supported

abbrev pub all_harts : ℕ
all_harts = 2 ^ 64 - 1

-- each hart that is named exists
unfoldable pub mask_exists : (harts mask base : ℕ) → Bool
mask_exists harts mask base = base == all_harts || list_all (λ i. not (bit mask i) || nat_lt (base + i) harts) (numbers_from 0 mask_width)

unfoldable pub ipi_call : Facts → Asked → Answer
ipi_call f ask =
    if not (ask.function == send_ipi) then plain not_supported
    else if mask_exists (length f.started) ask.a0 ask.a1 then record { reply = code Success; side_effect = SendsInterrupts ask.a0 ask.a1 }
    else plain (code InvalidParameter)

unfoldable pub fence_call : Facts → Asked → Reply
fence_call f ask =
    if not (nat_le ask.function last_fence) then not_supported
    else if mask_exists (length f.started) ask.a0 ask.a1 then code Success
    else code InvalidParameter

-- ---- hart state and reset

-- another hart begins, at a permitted entry
unfoldable pub start_other : Facts → Asked → Option Bool → Answer
start_other f ask None = plain (code InvalidParameter)
start_other f ask (Some true) = plain (code Already)
start_other f ask (Some false) =
    if has_number f.rules.entries ask.a1 then record { reply = code Success; side_effect = StartsHart ask.a0 ask.a1 ask.a2 } else plain (code InvalidAddress)

abbrev pub status_of_hart : Option Bool → Reply
status_of_hart None = code InvalidParameter
status_of_hart (Some started) = value (if started then state_started else state_stopped)

unfoldable pub hart_call : Facts → Asked → Answer
hart_call f ask =
    if ask.function == hart_start then start_other f ask (slice_get f.started ask.a0)
    else if ask.function == hart_stop then plain Stops
    else if ask.function == hart_status then plain (status_of_hart (slice_get f.started ask.a0))
    else plain not_supported

unfoldable pub reset_call : Asked → Answer
reset_call ask =
    if not (ask.function == system_reset) then plain not_supported
    else if ask.a0 == shutdown_type then shut_down
    else if nat_le ask.a0 last_reset_type then plain not_supported
    else plain (code InvalidParameter)

-- ---- harts that begin

abbrev pub supervisor_at_boot : Supervisor
supervisor_at_boot = record { sstatus = 0; sie = 0; stvec = 0; scounteren = 0; sscratch = 0; sepc = 0; scause = 0; stval = 0; software = false; satp = 0 }

abbrev pub integer_registers_at_boot : List ℕ
integer_registers_at_boot = replicate abi.register_count 0

-- a hart that begins at an address, in kernel mode
unfoldable pub hart_at : ℕ → List ℕ → Hart
hart_at pc registers = record {
  started = true;
  mode = Kernel;
  pc = pc;
  registers = registers;
  supervisor = supervisor_at_boot;
  reservation = None;
  entry = None;
}

unfoldable pub stopped_hart : Hart
stopped_hart = record (hart_at 0 integer_registers_at_boot) { started = false }

-- a hart that is started with its number in a0 and an opaque value in a1
abbrev pub started_hart : (h pc opaque : ℕ) → Hart
started_hart h pc opaque = hart_at pc (set_register (set_register integer_registers_at_boot abi.a0 h) abi.a1 opaque)

-- ---- harts that are interrupted

-- hart base + i for each bit i, or all of them
unfoldable pub mask_names : (mask base h : ℕ) → Bool
mask_names mask base h = base == all_harts || (nat_le base h && (nat_lt (h - base) mask_width && bit mask (h - base)))

abbrev pub with_software : Hart → Hart
with_software hart = record hart { supervisor = record hart.supervisor { software = true } }

-- of harts that are numbered from `first` on, those that a test names get their software interrupt
unfoldable pub interrupt_harts : (ℕ → Bool) → ℕ → List Hart → List Hart
interrupt_harts named first [] = []
interrupt_harts named first (hart ∷ harts) = (if named first then with_software hart else hart) ∷ interrupt_harts named (first + 1) harts
