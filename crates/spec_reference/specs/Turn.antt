-- One turn of a hart: an interrupt, a fetch, an instruction. The first case that applies is done.
-- RISC-V Unprivileged manual, "RV32I", "A", "Zicsr"; Privileged manual, "Supervisor Instructions", "Supervisor Cause
-- Register" (the priority of exceptions). Demotion is this project's own.
use Rattle.std.specs.Prelude.{ℕ, Bool, true, false, ◌&&◌, List, ◌==◌, if◌then◌else◌, Option, Some, None, option_map, slice_get}
use Rattle.spec_processor.specs.Bytes.{word, in_ram, ram_offset, page_of, place_in_page, instruction_size}
use Rattle.spec_processor.specs.Effects.{effect_of, set_register}
use Rattle.spec_processor.specs.Instructions.{instruction_of}
use Rattle.sv_types.specs.ApprovedPages.{ApprovedPage, approved_bytes}
use Rattle.spec_processor.specs.Translation.{Destination, At, PageFault, Unreadable, Settings, place}
use Rattle.sv_types.specs.Policies.{Rules}
use Rattle.spec_processor.specs.Traps.{deliverable}
use Rattle.spec_processor.specs.declared.cause.Cause.{Cause}
use Rattle.spec_processor.specs.declared.effect.Effect.{Effect}
use Rattle.spec_processor.specs.declared.instruction.Instr.{Instr}
use Rattle.spec_processor.specs.declared.access.Access.TheVariants as Access
use Rattle.spec_processor.specs.declared.interrupt.Interrupt.{Interrupt}
use Rattle.spec_processor.specs.declared.mode.Mode.{Mode}
use Rattle.spec_processor.specs.declared.mode.Mode.TheVariants.{Kernel, User}
use Rattle.sv_types.specs.declared.event.Note.TheVariants.{Demote}
use Rattle.spec_reference.specs.States.{State, Hart, Loading, Binding, binding_at, is_approved_in, with_hart}
use Rattle.spec_reference.specs.Counting.{count, note, count_demote}
use Rattle.spec_reference.specs.Devices.{lines_at}
use Rattle.spec_reference.specs.Trapping.{exception, take_interrupt, returned_from_trap}
use Rattle.spec_reference.specs.Requests.{at_next_instruction, carried_out, source_of, target_of, settings_of, csr_asked, carry_out_load}
use Rattle.spec_reference.specs.Requests.{carry_out_store, carry_out_load_reserved, carry_out_store_conditional, carry_out_amo}
use Rattle.spec_reference.specs.Requests.{carry_out_csr}
use Rattle.spec_reference.specs.Answers.{call}
use Rattle.spec_reference.specs.Loads.{load_step}

-- ---- instructions of the system

abbrev pub illegal_instruction : State → ℕ → Hart → ℕ → State
illegal_instruction r h hart w = exception r h hart Cause.Illegal w

-- in kernel mode the pc moves on, in user mode the instruction is illegal
unfoldable pub carry_out_kernel_only : State → ℕ → Hart → ℕ → Mode → State
carry_out_kernel_only r h hart w Kernel = carried_out r h (at_next_instruction hart)
carry_out_kernel_only r h hart w User = illegal_instruction r h hart w

unfoldable pub carry_out_ecall : State → ℕ → Hart → Mode → State
carry_out_ecall r h hart Kernel = call r h hart
carry_out_ecall r h hart User = exception r h hart Cause.UserCall 0

unfoldable pub carry_out_sret : State → ℕ → Hart → ℕ → Mode → State
carry_out_sret r h hart w Kernel = returned_from_trap r h hart
carry_out_sret r h hart w User = illegal_instruction r h hart w

-- ---- an instruction: one line for each effect

abbrev pub with_set : Hart → (rd value next : ℕ) → Hart
with_set hart rd value next = record hart { registers = set_register hart.registers rd value; pc = next }

unfoldable pub carry_out_effect : State → ℕ → Hart → ℕ → Effect → State
carry_out_effect r h hart w (Effect.Set rd value next) = carried_out r h (with_set hart rd value next)
carry_out_effect r h hart w (Effect.MisalignedJump target) = exception r h hart Cause.InstrMisaligned target
carry_out_effect r h hart w (Effect.Load rd address width signed) =
    carry_out_load r h hart rd address width signed (source_of r hart address width)
carry_out_effect r h hart w (Effect.Store address width value) = carry_out_store r h hart address width value (target_of r hart address width)
carry_out_effect r h hart w (Effect.LoadReserved rd address width) =
    carry_out_load_reserved r h hart rd address width (source_of r hart address width)
carry_out_effect r h hart w (Effect.StoreConditional rd address width value) =
    carry_out_store_conditional r h hart rd address width value (target_of r hart address width)
carry_out_effect r h hart w (Effect.Amo rd address width op value) =
    carry_out_amo r h hart rd address width op value (target_of r hart address width)
carry_out_effect r h hart w (Effect.Csr rd number op operand writes) =
    carry_out_csr r h hart w rd op operand writes (csr_asked hart number writes)
carry_out_effect r h hart w Effect.Ecall = carry_out_ecall r h hart hart.mode
carry_out_effect r h hart w Effect.Ebreak = exception r h hart Cause.Breakpoint hart.pc
carry_out_effect r h hart w Effect.Sret = carry_out_sret r h hart w hart.mode
carry_out_effect r h hart w Effect.Wfi = carry_out_kernel_only r h hart w hart.mode
carry_out_effect r h hart w Effect.SfenceVma = carry_out_kernel_only r h hart w hart.mode
carry_out_effect r h hart w Effect.Fence = carried_out r h (at_next_instruction hart)
carry_out_effect r h hart w Effect.Hyper = illegal_instruction r h hart w

unfoldable pub carry_out_instruction : State → ℕ → Hart → ℕ → Option Instr → State
carry_out_instruction r h hart w None = illegal_instruction r h hart w
carry_out_instruction r h hart w (Some instr) = carry_out_effect r h hart w (effect_of instr hart.registers hart.pc)

unfoldable pub carry_out_word : State → ℕ → Hart → ℕ → State
carry_out_word r h hart w = carry_out_instruction r h hart w (instruction_of w)

-- what a word does, none where it is no instruction
abbrev pub effect_of_word : ℕ → Hart → Option Effect
effect_of_word w hart = option_map (λ i. effect_of i hart.registers hart.pc) (instruction_of w)

-- ---- the fetch

pub data Fetched : Type 0 where
  NoWord : (cause : Cause) → Fetched
  -- kernel mode, in a page that is not approved
  Stray : (gpa : ℕ) → Fetched
  Word : (word : ℕ) → Fetched

-- kernel mode fetches from approved pages alone, as they were approved, and user mode from the others alone
unfoldable pub fetched_in : List ℕ → Mode → ℕ → Option (List ℕ) → Fetched
fetched_in ram Kernel gpa (Some bytes) = Word (word bytes (place_in_page gpa) instruction_size)
fetched_in ram Kernel gpa None = Stray gpa
fetched_in ram User gpa (Some bytes) = NoWord Cause.InstrAccess
fetched_in ram User gpa None = Word (word ram (ram_offset gpa) instruction_size)

unfoldable pub fetched_at : List ℕ → List ApprovedPage → Mode → Destination → Fetched
fetched_at ram approved mode PageFault = NoWord Cause.InstrPage
fetched_at ram approved mode (Unreadable entry) = NoWord Cause.InstrAccess
fetched_at ram approved mode (At gpa) =
    if in_ram ram gpa instruction_size then fetched_in ram mode gpa (approved_bytes approved (page_of gpa)) else NoWord Cause.InstrAccess

unfoldable pub fetch : List ℕ → List ApprovedPage → Settings → Mode → ℕ → Fetched
fetch ram approved settings mode pc = fetched_at ram approved mode (place ram settings mode pc Access.Fetch)

abbrev pub fetch_of : State → Hart → Fetched
fetch_of r hart = fetch r.ram r.approved (settings_of hart.supervisor) hart.mode hart.pc

-- the mode becomes user, the pc stays, and nothing executes
abbrev pub in_user_mode : Hart → Hart
in_user_mode hart = record hart { mode = User; reservation = None; entry = None }

abbrev pub demote : State → ℕ → Hart → ℕ → State
demote r h hart gpa = note (count (with_hart r h (in_user_mode hart)) count_demote) (Demote h r.journal.counts.turns hart.pc gpa)

unfoldable pub act_on_fetch : State → ℕ → Hart → Fetched → State
act_on_fetch r h hart (NoWord cause) = exception r h hart cause hart.pc
act_on_fetch r h hart (Stray gpa) = demote r h hart gpa
act_on_fetch r h hart (Word w) = carry_out_word r h hart w

abbrev pub fetch_and_act : State → ℕ → Hart → State
fetch_and_act r h hart = act_on_fetch r h hart (fetch_of r hart)

-- ---- the fetch in an entry

-- where the pc leads
abbrev pub place_of_pc : State → Hart → Destination
place_of_pc r hart = place r.ram (settings_of hart.supervisor) hart.mode hart.pc Access.Fetch

-- into a page, which is approved
unfoldable pub leads_into : State → (page : ℕ) → Destination → Bool
leads_into r page PageFault = false
leads_into r page (Unreadable entry) = false
leads_into r page (At gpa) = in_ram r.ram gpa instruction_size && is_approved_in r.approved (page_of gpa) && page_of gpa == page

-- the address in RAM that a note names, 0 where there is none
unfoldable pub noted_gpa : List ℕ → Destination → ℕ
noted_gpa ram PageFault = 0
noted_gpa ram (Unreadable entry) = 0
noted_gpa ram (At gpa) = if in_ram ram gpa instruction_size then gpa else 0

-- the entry is left, and nothing else changes
abbrev pub outside_entry : Hart → Hart
outside_entry hart = record hart { entry = None }

abbrev pub leave_entry : State → ℕ → Hart → State
leave_entry r h hart = with_hart r h (outside_entry hart)

-- a hart that goes on, and the machine then, by whether the hart left its entry
abbrev pub going_hart : (left : Bool) → Hart → Hart
going_hart false hart = hart
going_hart true hart = outside_entry hart

abbrev pub after_going : (left : Bool) → State → ℕ → Hart → State
after_going false r h hart = r
after_going true r h hart = leave_entry r h hart

-- in an entry, a hart whose pc leads into the page that the entry is bound to goes on there. If it doesn't, then at the entry's
-- own address the hart is demoted, and at any other it leaves the entry and fetches as the kernel does, in this same turn
unfoldable pub fetch_in_entry : State → ℕ → Hart → Option Binding → State
fetch_in_entry r h hart None = fetch_and_act r h hart
fetch_in_entry r h hart (Some entry) =
    if leads_into r (page_of entry.gpa) (place_of_pc r hart) then fetch_and_act r h hart
    else if hart.pc == entry.va then demote r h hart (noted_gpa r.ram (place_of_pc r hart))
    else fetch_and_act (leave_entry r h hart) h (outside_entry hart)

unfoldable pub bound_entry : Rules → Option ℕ → Option Binding
bound_entry rules None = None
bound_entry rules (Some i) = binding_at rules i

-- ---- the turn

-- an interrupt, or else a fetch
unfoldable pub act_on_pending : State → ℕ → Hart → Option Interrupt → State
act_on_pending r h hart (Some interrupt) = take_interrupt r h hart interrupt
act_on_pending r h hart None = fetch_in_entry r h hart (bound_entry r.rules hart.entry)

unfoldable pub act : State → ℕ → Hart → State
act r h hart = act_on_pending r h hart (deliverable hart.mode hart.supervisor (lines_at r.devices h))

-- a load of this hart goes on, or else the hart attempts an instruction
unfoldable pub turn_of_started : State → ℕ → Hart → Option Loading → State
turn_of_started r h hart None = act r h hart
turn_of_started r h hart (Some load) = if load.hart == h then load_step r h hart load else act r h hart

unfoldable pub turn_of : State → ℕ → Option Hart → State
turn_of r h None = r
turn_of r h (Some hart) = if hart.started then turn_of_started r h hart r.loading else r

-- the turn of a hart, the count of turns raised already
unfoldable pub turn : State → ℕ → State
turn r h = turn_of r h (slice_get r.harts h)
