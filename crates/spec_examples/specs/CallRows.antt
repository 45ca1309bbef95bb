-- Calls from kernel mode, a row for each line. RISC-V SBI; the codes are two's complement. This project's own.
use Rattle.std.specs.Prelude.{◌≡◌, ℕ, List, [], ◌∷◌, ◌++◌, replicate, ◌-◌, ◌^◌, true, false}
use Rattle.sv_types.specs.Clock.{timer_of, latest}
use Rattle.sv_types.specs.declared.event.Verdict.TheVariants.{Shutdown}
use Rattle.spec_processor.specs.IntegerRegisters as abi
use Rattle.spec_processor.specs.declared.mode.Mode.TheVariants.{Kernel}
use Rattle.spec_reference.specs.States.{State, Hart}
use Rattle.spec_reference.specs.Calls.{started_hart}
use Rattle.spec_examples.specs.Guests.{small, hart_in, turn_of_hart, hart_of, register_of}

-- registers that ask: a7 the extension, a6 the function, a0 to a3 the arguments
abbrev pub call_registers : (extension function a0 a1 a2 a3 : ℕ) → List ℕ
call_registers extension function a0 a1 a2 a3 = replicate 10 0 ++ (a0 ∷ a1 ∷ a2 ∷ a3 ∷ 0 ∷ 0 ∷ function ∷ extension ∷ replicate 14 0)

-- the kernel's ECALL, of a hart with a reservation
abbrev pub caller : (extension function a0 a1 a2 a3 : ℕ) → Hart
caller extension function a0 a1 a2 a3 = hart_in Kernel 0x80000000 (call_registers extension function a0 a1 a2 a3)

abbrev pub after_call : (extension function a0 a1 a2 a3 : ℕ) → State
after_call extension function a0 a1 a2 a3 = turn_of_hart (small 0x00000073 0) (caller extension function a0 a1 a2 a3)

abbrev pub with_input : State → List ℕ → State
with_input r bytes = record r { devices = record r.devices { console = bytes } }

-- a0, a1 and the pc
abbrev pub answer : State → List ℕ
answer r = register_of r abi.a0 ∷ register_of r abi.a1 ∷ (hart_of r 0).pc ∷ []

-- an answer with a code of the error, from 1 on as -1, -2, ..; and one with a value
abbrev pub error_answer : (code : ℕ) → List ℕ
error_answer code = (2 ^ 64 - code) ∷ 0 ∷ 0x80000004 ∷ []

abbrev pub value_answer : (value : ℕ) → List ℕ
value_answer value = 0 ∷ value ∷ 0x80000004 ∷ []

pub record CallRows : Type 0 where
  -- ---- legacy: they change a0 alone
  pub set_timer : answer (after_call 0 9 5 77 0 0) ≡ 0 ∷ 77 ∷ 0x80000004 ∷ []
  pub timer_is_set : timer_of (after_call 0 9 5 77 0 0).devices.clock 0 ≡ 5
  pub print : answer (after_call 1 9 0x141 77 0 0) ≡ 0 ∷ 77 ∷ 0x80000004 ∷ []
  pub printed_byte : (after_call 1 9 0x141 77 0 0).journal.printed ≡ 0x41 ∷ []
  pub no_input : answer (after_call 2 9 5 77 0 0) ≡ (2 ^ 64 - 1) ∷ 77 ∷ 0x80000004 ∷ []
  pub input : answer (turn_of_hart (with_input (small 0x00000073 0) (65 ∷ 66 ∷ [])) (caller 2 9 5 77 0 0)) ≡ 65 ∷ 77 ∷ 0x80000004 ∷ []
  pub input_taken : (turn_of_hart (with_input (small 0x00000073 0) (65 ∷ 66 ∷ [])) (caller 2 9 5 77 0 0)).devices.console ≡ 66 ∷ []
  pub shutdown : (after_call 8 9 5 77 0 0).journal.verdict ≡ Shutdown
  pub shutdown_leaves_the_hart : answer (after_call 8 9 5 77 0 0) ≡ 5 ∷ 77 ∷ 0x80000000 ∷ []
  -- ---- base
  pub version : answer (after_call 0x10 0 0 0 0 0) ≡ value_answer 0x01000000
  pub implementation : answer (after_call 0x10 1 0 0 0 0) ≡ value_answer 0x00534543
  pub implementation_version : answer (after_call 0x10 2 0 0 0 0) ≡ value_answer 1
  pub extension_there : answer (after_call 0x10 3 0x08534543 0 0 0) ≡ value_answer 1
  pub extension_not_there : answer (after_call 0x10 3 3 0 0 0) ≡ value_answer 0
  pub vendor : answer (after_call 0x10 4 0 0 0 0) ≡ value_answer 0
  pub architecture : answer (after_call 0x10 5 0 0 0 0) ≡ value_answer 0
  pub machine_version : answer (after_call 0x10 6 0 0 0 0) ≡ value_answer 0
  pub base_has_no_more : answer (after_call 0x10 7 0 0 0 0) ≡ error_answer 2
  -- ---- timer
  pub timer : answer (after_call 0x54494D45 0 5 77 0 0) ≡ value_answer 0
  pub timer_set_too : timer_of (after_call 0x54494D45 0 5 77 0 0).devices.clock 0 ≡ 5
  pub timer_has_no_more : answer (after_call 0x54494D45 1 5 77 0 0) ≡ error_answer 2
  -- ---- software interrupts and fences
  pub interrupt_of_both : answer (after_call 0x735049 0 3 0 0 0) ≡ value_answer 0
  pub interrupt_of_the_caller : (hart_of (after_call 0x735049 0 3 0 0 0) 0).supervisor.software ≡ true
  pub interrupt_of_the_other : (hart_of (after_call 0x735049 0 1 1 0 0) 1).supervisor.software ≡ true
  pub interrupt_of_the_other_alone : (hart_of (after_call 0x735049 0 1 1 0 0) 0).supervisor.software ≡ false
  pub interrupt_of_all : (hart_of (after_call 0x735049 0 0 (2 ^ 64 - 1) 0 0) 1).supervisor.software ≡ true
  pub interrupt_of_none : answer (after_call 0x735049 0 0 9 0 0) ≡ value_answer 0
  pub interrupt_of_a_third : answer (after_call 0x735049 0 5 0 0 0) ≡ error_answer 3
  pub interrupt_of_a_third_does_nothing : (hart_of (after_call 0x735049 0 5 0 0 0) 0).supervisor.software ≡ false
  pub interrupt_of_the_last_bit : answer (after_call 0x735049 0 (2 ^ 63) 0 0 0) ≡ error_answer 3
  pub interrupts_have_no_more : answer (after_call 0x735049 1 3 0 0 0) ≡ error_answer 2
  pub remote_fence : answer (after_call 0x52464E43 0 3 0 0 0) ≡ value_answer 0
  pub remote_fence_of_pages : answer (after_call 0x52464E43 1 3 0 0 0) ≡ value_answer 0
  pub remote_fence_of_a_space : answer (after_call 0x52464E43 2 3 0 0 0) ≡ value_answer 0
  pub remote_fence_of_a_third : answer (after_call 0x52464E43 0 4 0 0 0) ≡ error_answer 3
  pub fences_have_no_more : answer (after_call 0x52464E43 3 3 0 0 0) ≡ error_answer 2
  -- ---- harts
  pub start : answer (after_call 0x48534D 0 1 0x80000100 99 0) ≡ value_answer 0
  pub started : hart_of (after_call 0x48534D 0 1 0x80000100 99 0) 1 ≡ started_hart 1 0x80000100 99
  pub started_has_its_number : (hart_of (after_call 0x48534D 0 1 0x80000100 99 0) 1).registers ≡ replicate 10 0 ++ (1 ∷ 99 ∷ replicate 20 0)
  pub started_has_no_timer : timer_of (after_call 0x48534D 0 1 0x80000100 99 0).devices.clock 1 ≡ latest
  pub start_of_a_third : answer (after_call 0x48534D 0 2 0x80000100 99 0) ≡ error_answer 3
  pub start_of_a_started_one : answer (after_call 0x48534D 0 0 0x80000100 99 0) ≡ error_answer 6
  pub start_at_no_entry : answer (after_call 0x48534D 0 1 0x80000104 99 0) ≡ error_answer 5
  pub stop : (hart_of (after_call 0x48534D 1 0 0 0 0) 0).started ≡ false
  pub stop_leaves_the_registers : answer (after_call 0x48534D 1 7 8 0 0) ≡ 7 ∷ 8 ∷ 0x80000000 ∷ []
  pub status_of_a_started_one : answer (after_call 0x48534D 2 0 0 0 0) ≡ value_answer 0
  pub status_of_a_stopped_one : answer (after_call 0x48534D 2 1 0 0 0) ≡ value_answer 1
  pub status_of_a_third : answer (after_call 0x48534D 2 2 0 0 0) ≡ error_answer 3
  pub harts_have_no_more : answer (after_call 0x48534D 3 0 0 0 0) ≡ error_answer 2
  -- ---- reset
  pub reset : (after_call 0x53525354 0 0 0 0 0).journal.verdict ≡ Shutdown
  pub cold_reboot : answer (after_call 0x53525354 0 1 0 0 0) ≡ error_answer 2
  pub warm_reboot : answer (after_call 0x53525354 0 2 0 0 0) ≡ error_answer 2
  pub reset_of_the_next_type : answer (after_call 0x53525354 0 3 0 0 0) ≡ error_answer 3
  pub unknown_reset : answer (after_call 0x53525354 0 (2 ^ 32) 0 0 0) ≡ error_answer 3
  pub reset_has_no_more : answer (after_call 0x53525354 1 0 0 0 0) ≡ error_answer 2
  -- ---- no such extension
  pub unknown_extension : answer (after_call 3 0 0 0 0 0) ≡ error_answer 2
  pub modules_have_no_more : answer (after_call 0x08534543 3 0 0 0 0) ≡ error_answer 2
