-- What SecVisor makes of an exit, a row for each line: kernel mode, user mode, and both. This project's own.
use Rattle.std.specs.Prelude.{◌≡◌, ℕ, ◌+◌, ◌/◌, ◌^◌, true, Some, None}
use Rattle.spec_processor.specs.HardwareMemory.{implicit_read}
use Rattle.spec_processor.specs.HypervisorRegisters.{registers_at_boot, registers_at_exit}
use Rattle.spec_processor.specs.declared.cause.Cause.{Cause}
use Rattle.spec_processor.specs.declared.exit.Exit.{Exit}
use Rattle.spec_processor.specs.declared.exit.ExitCause.{ExitCause}
use Rattle.spec_processor.specs.declared.interrupt.Interrupt.{Interrupt}
use Rattle.spec_processor.specs.declared.mode.Mode.TheVariants.{Kernel, User}
use Rattle.spec_reference.specs.Devices.{device_load, device_store}
use Rattle.spec_reference.specs.Answers.{call}
use Rattle.spec_reference.specs.Requests.{carry_out_device_load, carry_out_device_store, write_stopped}
use Rattle.spec_reference.specs.States.{State, Hart}
use Rattle.spec_reference.specs.Trapping.{exception, take_interrupt, returned_from_trap}
use Rattle.spec_reference.specs.Turn.{demote}
use Rattle.spec_hardware.specs.Served.{Seen, exit_answer, serve_exit}
use Rattle.spec_hardware.specs.declared.exits.ExitAnswer.TheVariants.{Calls, Demotes, LeavesEntry, Traps}
use Rattle.spec_examples.specs.Guests.{small, hart_in, with_two}
use Rattle.spec_processor.specs.GStage.{htval_unit}

abbrev pub before : State
before = small 0x13 0x13

abbrev pub of_kernel : Hart
of_kernel = hart_in Kernel 0x80000000 (with_two 0x10000000 65)

abbrev pub of_user : Hart
of_user = hart_in User 0x80001000 (with_two 0x10000000 65)

-- what an exit by an exception tells: the guest-physical address, and the transformed instruction
abbrev pub by_cause : Cause → (stval gpa htinst : ℕ) → Exit
by_cause cause stval gpa htinst = record { cause = ExitCause.Exception cause; pc = 0; stval = stval; htval = gpa / htval_unit; htinst = htinst }

abbrev pub by_interrupt : Interrupt → Exit
by_interrupt interrupt = record { cause = ExitCause.Interrupt interrupt; pc = 0; stval = 0; htval = 0; htinst = 0 }

abbrev pub kernel_makes : Exit → State
kernel_makes exit = serve_exit before 0 of_kernel exit

abbrev pub user_makes : Exit → State
user_makes exit = serve_exit before 0 of_user exit

-- a hart in the entry at 0x80000100
abbrev pub inside : ℕ → Seen
inside pc = record { ram = before.ram; mode = Kernel; pc = pc; entry = Some (record { va = 0x80000100; gpa = 0x80000100 }); effect = None }

-- LB, LW, SB and SW of x6, as htinst has them
abbrev pub load_byte : ℕ
load_byte = 0x0303

abbrev pub load_word : ℕ
load_word = 0x2303

abbrev pub store_byte : ℕ
store_byte = 0x00600023

abbrev pub store_word : ℕ
store_word = 0x00602023

-- the cause as the hypervisor's scause shows it
abbrev pub shown_cause : Exit → ℕ
shown_cause exit = (registers_at_exit registers_at_boot exit).scause

pub record ExitRows : Type 0 where
  -- ---- what is shown
  pub shown_fetch : shown_cause (by_cause Cause.GuestFetch 0 0 0) ≡ 20
  pub shown_software : shown_cause (by_interrupt Interrupt.Software) ≡ 2 ^ 63 + 2
  pub shown_timer : shown_cause (by_interrupt Interrupt.Timer) ≡ 2 ^ 63 + 6
  pub shown_external : shown_cause (by_interrupt Interrupt.External) ≡ 2 ^ 63 + 10
  -- ---- kernel mode
  pub kernel_call : kernel_makes (by_cause Cause.GuestCall 0 0 0) ≡ call before 0 of_kernel
  pub kernel_fetch : kernel_makes (by_cause Cause.GuestFetch 0x80002000 0x80002000 0) ≡ demote before 0 of_kernel 0x80002000
  pub kernel_return : kernel_makes (by_cause Cause.Virtual 0x10200073 0 0) ≡ returned_from_trap before 0 of_kernel
  pub kernel_virtual : kernel_makes (by_cause Cause.Virtual 0x20002373 0 0) ≡ exception before 0 of_kernel Cause.Illegal 0x20002373
  pub kernel_fetch_implicit : kernel_makes (by_cause Cause.GuestFetch 0x80002000 0x80002000 implicit_read) ≡
      exception before 0 of_kernel Cause.InstrAccess 0x80002000
  -- ---- user mode
  pub user_fetch : user_makes (by_cause Cause.GuestFetch 0x80000000 0x80000000 0) ≡ exception before 0 of_user Cause.InstrAccess 0x80000000
  pub user_virtual : user_makes (by_cause Cause.Virtual 0x10200073 0 0) ≡ exception before 0 of_user Cause.Illegal 0x10200073
  pub user_software : user_makes (by_interrupt Interrupt.Software) ≡ take_interrupt before 0 of_user Interrupt.Software
  pub user_timer : user_makes (by_interrupt Interrupt.Timer) ≡ take_interrupt before 0 of_user Interrupt.Timer
  pub user_external : user_makes (by_interrupt Interrupt.External) ≡ take_interrupt before 0 of_user Interrupt.External
  pub user_0 : user_makes (by_cause Cause.InstrMisaligned 9 0 0) ≡ exception before 0 of_user Cause.InstrMisaligned 9
  pub user_1 : user_makes (by_cause Cause.InstrAccess 9 0 0) ≡ exception before 0 of_user Cause.InstrAccess 9
  pub user_2 : user_makes (by_cause Cause.Illegal 9 0 0) ≡ exception before 0 of_user Cause.Illegal 9
  pub user_3 : user_makes (by_cause Cause.Breakpoint 9 0 0) ≡ exception before 0 of_user Cause.Breakpoint 9
  pub user_4 : user_makes (by_cause Cause.LoadMisaligned 9 0 0) ≡ exception before 0 of_user Cause.LoadMisaligned 9
  pub user_5 : user_makes (by_cause Cause.LoadAccess 9 0 0) ≡ exception before 0 of_user Cause.LoadAccess 9
  pub user_6 : user_makes (by_cause Cause.StoreMisaligned 9 0 0) ≡ exception before 0 of_user Cause.StoreMisaligned 9
  pub user_7 : user_makes (by_cause Cause.StoreAccess 9 0 0) ≡ exception before 0 of_user Cause.StoreAccess 9
  pub user_8 : user_makes (by_cause Cause.UserCall 0 0 0) ≡ exception before 0 of_user Cause.UserCall 0
  pub user_12 : user_makes (by_cause Cause.InstrPage 9 0 0) ≡ exception before 0 of_user Cause.InstrPage 9
  pub user_13 : user_makes (by_cause Cause.LoadPage 9 0 0) ≡ exception before 0 of_user Cause.LoadPage 9
  pub user_15 : user_makes (by_cause Cause.StorePage 9 0 0) ≡ exception before 0 of_user Cause.StorePage 9
  -- ---- both
  pub kernel_fetch_outside_ram : kernel_makes (by_cause Cause.GuestFetch 0x90000000 0x90000000 0) ≡ exception before 0 of_kernel Cause.InstrAccess 0x90000000
  pub user_fetch_outside_ram : user_makes (by_cause Cause.GuestFetch 0x90000000 0x90000000 0) ≡ exception before 0 of_user Cause.InstrAccess 0x90000000
  pub device_loads : kernel_makes (by_cause Cause.GuestLoad 0x10000005 0x10000005 load_byte)
      ≡ carry_out_device_load before 0 of_kernel 6 0x10000005 1 true (device_load before.devices 0x10000005 1)
  pub device_loads_of_another_width : kernel_makes (by_cause Cause.GuestLoad 0x10000000 0x10000000 load_word) ≡
      exception before 0 of_kernel Cause.LoadAccess 0x10000000
  pub loads_of_no_device : user_makes (by_cause Cause.GuestLoad 0x90000000 0x90000000 load_word) ≡ exception before 0 of_user Cause.LoadAccess 0x90000000
  pub load_of_an_unreadable_entry : user_makes (by_cause Cause.GuestLoad 0x5000 0x10000000 implicit_read) ≡ exception before 0 of_user Cause.LoadAccess 0x5000
  pub protected_store : kernel_makes (by_cause Cause.GuestStore 0x80000003 0x80000003 store_byte) ≡ write_stopped before 0 of_kernel 0x80000003
  pub device_stores : kernel_makes (by_cause Cause.GuestStore 0x10000000 0x10000000 store_byte)
      ≡ carry_out_device_store before 0 of_kernel 0x10000000 (device_store before.devices before.journal 0x10000000 1 65)
  pub device_stores_of_another_width : kernel_makes (by_cause Cause.GuestStore 0x10000000 0x10000000 store_word) ≡
      exception before 0 of_kernel Cause.StoreAccess 0x10000000
  pub stores_to_no_device : user_makes (by_cause Cause.GuestStore 0x90000000 0x90000000 store_word) ≡ exception before 0 of_user Cause.StoreAccess 0x90000000
  -- ---- in an entry
  pub fetch_at_the_entry : exit_answer (inside 0x80000100) (by_cause Cause.GuestFetch 0x80000100 0x80002100 0) ≡ Demotes 0x80002100
  pub fetch_at_the_entry_outside_ram : exit_answer (inside 0x80000100) (by_cause Cause.GuestFetch 0x80000100 0x90000100 0) ≡ Demotes 0
  pub fault_at_the_entry : exit_answer (inside 0x80000100) (by_cause Cause.InstrPage 0x80000100 0 0) ≡ Demotes 0
  pub implicit_at_the_entry : exit_answer (inside 0x80000100) (by_cause Cause.GuestFetch 0x80000100 0x80002100 implicit_read) ≡ Demotes 0
  pub fetch_elsewhere : exit_answer (inside 0x80000104) (by_cause Cause.GuestFetch 0x80000104 0x80002104 0) ≡ LeavesEntry
  pub fault_elsewhere : exit_answer (inside 0x80000104) (by_cause Cause.InstrPage 0x80000104 0 0) ≡ LeavesEntry
  pub call_inside : exit_answer (inside 0x80000100) (by_cause Cause.GuestCall 0 0 0) ≡ Calls
  pub interrupt_inside : exit_answer (inside 0x80000100) (by_interrupt Interrupt.Timer) ≡ Traps (ExitCause.Interrupt Interrupt.Timer) 0
