-- One turn, a row for each case: interrupts, fetches, and each kind of effect. This project's own.
use Rattle.std.specs.Prelude.{◌≡◌, ℕ, List, [], ◌∷◌, length, replicate, slice_get, Option, Some, None, true}
use Rattle.spec_processor.specs.Bytes.{word}
use Rattle.sv_types.specs.declared.event.Note.TheVariants.{Demote, Denied}
use Rattle.sv_types.specs.declared.event.Rule.TheVariants.{Write}
use Rattle.sv_types.specs.declared.event.Verdict.TheVariants.{Stopped}
use Rattle.spec_processor.specs.declared.mode.Mode.{Mode}
use Rattle.spec_processor.specs.declared.mode.Mode.TheVariants.{Kernel, User}
use Rattle.spec_reference.specs.Calls.{integer_registers_at_boot}
use Rattle.sv_types.specs.declared.event.Event.TheVariants.{Turn}
use Rattle.spec_reference.specs.Run.{step}
use Rattle.spec_reference.specs.States.{State, Hart, with_hart}
use Rattle.spec_examples.specs.Guests.{small, hart_in, with_two, with_vector, turn_of_hart, as_kernel, as_user, hart_of, register_of}
use Rattle.spec_examples.specs.Guests.{trap_facts, trap_of, at_pc}

-- Sv39 whose root is a page of zeros: nothing is mapped
abbrev pub without_mappings : Hart → Hart
without_mappings hart = record hart { supervisor = record hart.supervisor { satp = 0x8000000000080002 } }

abbrev pub plain : List ℕ
plain = integer_registers_at_boot

-- its software interrupt is pending and may be taken
abbrev pub interrupted_hart : Hart
interrupted_hart = record (hart_in Kernel 0x80000000 plain) { supervisor = record with_vector { sstatus = 2; sie = 2; software = true } }

-- x5 names these bytes, which are reserved
abbrev pub reserving_hart : ℕ → Hart
reserving_hart place = record (hart_in Kernel 0x80000000 (with_two 0x80002000 7)) { reservation = Some place }

abbrev pub reservation_of : State → Option ℕ
reservation_of r = (hart_of r 0).reservation

-- a reservation elsewhere, and x5 names this address
abbrev pub keeping_hart : Mode → (pc x5 : ℕ) → Hart
keeping_hart mode pc x5 = record (hart_in mode pc (with_two x5 7)) { reservation = Some 0x2000 }

abbrev pub sc : ℕ
sc = 0x1862B3AF

abbrev pub status_of : State → ℕ
status_of r = (hart_of r 0).supervisor.sstatus

-- so many notes stand in the journal, and the kernel's hart is demoted, which makes one more
abbrev pub after_notes : ℕ → State
after_notes n =
    let r : State = with_hart (small 0x13 0x13) 0 (hart_in Kernel 0x80001000 plain) in
    step (record r { journal = record r.journal { notes = replicate n (Denied 0) } }) (Turn 0)

pub record TurnRows : Type 0 where
  -- ---- before the fetch
  pub interrupt : trap_facts (turn_of_hart (small 0x13 0) interrupted_hart) ≡ 0x8000000000000001 ∷ 0 ∷ 1 ∷ 0 ∷ []
  pub interrupt_masked : at_pc
      (turn_of_hart (small 0x13 0) (record interrupted_hart { supervisor = record interrupted_hart.supervisor { sstatus = 0 } })) ≡ 0x80000004 ∷ 1 ∷ []
  -- ---- the fetch
  pub fetch_page_fault : trap_facts (turn_of_hart (small 0x13 0) (without_mappings (hart_in Kernel 0x80000000 plain))) ≡ trap_of 12 0x80000000
  pub fetch_outside_ram : trap_facts (turn_of_hart (small 0x13 0) (hart_in Kernel 0x90000000 plain)) ≡ trap_of 1 0x90000000
  pub kernel_fetch_of_a_free_page : (turn_of_hart (small 0x13 0x13) (hart_in Kernel 0x80001000 plain)).journal.notes ≡ Demote 0 1 0x80001000 0x80001000 ∷ []
  pub demoted_hart : (hart_of (turn_of_hart (small 0x13 0x13) (hart_in Kernel 0x80001000 plain)) 0).mode ≡ User
  pub demoted_stays : at_pc (turn_of_hart (small 0x13 0x13) (hart_in Kernel 0x80001000 plain)) ≡ 0x80001000 ∷ 0 ∷ []
  pub user_fetch_of_an_approved_page : trap_facts (turn_of_hart (small 0x13 0x13) (hart_in User 0x80000000 plain)) ≡ trap_of 1 0x80000000
  pub word_of_no_row : trap_facts (as_kernel 0xFFFFFFFF plain) ≡ trap_of 2 0xFFFFFFFF
  -- ---- registers and jumps
  pub sets_a_register : register_of (as_kernel 0x00728313 (with_two 5 0)) 6 ≡ 12
  pub misaligned_jump : trap_facts (as_kernel 0x00028067 (with_two 0x80000002 0)) ≡ trap_of 0 0x80000002
  -- ---- loads
  pub misaligned_load : trap_facts (as_kernel 0x0002A303 (with_two 0x80001002 0)) ≡ trap_of 4 0x80001002
  pub load_outside_ram : trap_facts (as_kernel 0x0002A303 (with_two 0x90000000 0)) ≡ trap_of 5 0x90000000
  pub loads_a_word : register_of (turn_of_hart (small 0x0002A303 0x12345678) (hart_in Kernel 0x80000000 (with_two 0x80001000 0))) 6 ≡ 0x12345678
  pub loads_of_protected_pages : register_of (as_kernel 0x0002A303 (with_two 0x80000000 0)) 6 ≡ 0x0002A303
  pub reserves : (hart_of (as_kernel 0x1002A32F (with_two 0x80001004 0)) 0).reservation ≡ Some 0x1000
  pub misaligned_reserve : trap_facts (as_kernel 0x1002A32F (with_two 0x80001002 0)) ≡ trap_of 4 0x80001002
  pub reserve_of_a_device : trap_facts (as_kernel 0x1002A32F (with_two 0x10000000 0)) ≡ trap_of 5 0x10000000
  -- ---- stores
  pub misaligned_store : trap_facts (as_kernel 0x0062A023 (with_two 0x80001002 7)) ≡ trap_of 6 0x80001002
  pub store_outside_ram : trap_facts (as_kernel 0x0062A023 (with_two 0x90000000 7)) ≡ trap_of 7 0x90000000
  pub stores_a_word : word (as_kernel 0x0062A023 (with_two 0x80001008 7)).ram 0x1008 8 ≡ 7
  pub store_into_a_protected_page : (as_kernel 0x0062A023 (with_two 0x80000FFC 7)).journal.verdict ≡ Stopped (Write 0x80000000 0x80000FFC) 0 1
  pub store_leaves_the_byte : (as_kernel 0x0062A023 (with_two 0x80000FFC 7)).ram ≡ (small 0x0062A023 0).ram
  -- ---- SC and atomic operations
  pub conditional_store : register_of (turn_of_hart (small sc 0) (reserving_hart 0x2000)) 7 ≡ 0
  pub conditional_store_writes : word (turn_of_hart (small sc 0) (reserving_hart 0x2000)).ram 0x2000 4 ≡ 7
  pub conditional_store_spends_it : (hart_of (turn_of_hart (small sc 0) (reserving_hart 0x2000)) 0).reservation ≡ None
  pub conditional_store_elsewhere : register_of (turn_of_hart (small sc 0) (reserving_hart 0x2008)) 7 ≡ 1
  pub conditional_store_elsewhere_spends_it : (hart_of (turn_of_hart (small sc 0) (reserving_hart 0x2008)) 0).reservation ≡ None
  pub conditional_store_elsewhere_writes_nothing : word (turn_of_hart (small sc 0) (reserving_hart 0x2008)).ram 0x2000 4 ≡ 0
  pub conditional_store_to_text_stops : (as_kernel sc (with_two 0x80000000 7)).journal.verdict ≡ Stopped (Write 0x80000000 0x80000000) 0 1
  pub misaligned_conditional_store : trap_facts (as_kernel sc (with_two 0x80002002 7)) ≡ trap_of 6 0x80002002
  pub adds_in_memory : word (turn_of_hart (small 0x0062A3AF 5) (hart_in Kernel 0x80000000 (with_two 0x80001000 7))).ram 0x1000 4 ≡ 12
  pub adds_gives_the_old : register_of (turn_of_hart (small 0x0062A3AF 5) (hart_in Kernel 0x80000000 (with_two 0x80001000 7))) 7 ≡ 5
  pub adds_to_text_stops : (as_kernel 0x0062A3AF (with_two 0x80000000 7)).journal.verdict ≡ Stopped (Write 0x80000000 0x80000000) 0 1
  -- ---- registers of the system
  pub reads_stvec : register_of (as_kernel 0x10502373 plain) 6 ≡ 0x80000100
  pub register_refused_to_user : trap_facts (as_user 0x10502373 plain) ≡ trap_of 2 0x10502373
  pub no_such_register : trap_facts (as_kernel 0x20002373 plain) ≡ trap_of 2 0x20002373
  -- ---- the other effects
  pub call_of_the_user : trap_facts (as_user 0x00000073 plain) ≡ trap_of 8 0
  pub breakpoint : trap_facts (as_kernel 0x00100073 plain) ≡ trap_of 3 0x80000000
  pub return_of_the_user : trap_facts (as_user 0x10200073 plain) ≡ trap_of 2 0x10200073
  pub return_of_the_kernel : (hart_of (as_kernel 0x10200073 plain) 0).mode ≡ User
  pub wait_of_the_user : trap_facts (as_user 0x10500073 plain) ≡ trap_of 2 0x10500073
  pub wait_of_the_kernel : at_pc (as_kernel 0x10500073 plain) ≡ 0x80000004 ∷ 1 ∷ []
  pub fence_of_translation_of_the_user : trap_facts (as_user 0x12000073 plain) ≡ trap_of 2 0x12000073
  pub fence_of_translation_of_the_kernel : at_pc (as_kernel 0x12000073 plain) ≡ 0x80000004 ∷ 1 ∷ []
  pub fence : at_pc (as_user 0x0FF0000F plain) ≡ 0x80001004 ∷ 1 ∷ []
  pub instruction_of_a_hypervisor : trap_facts (as_kernel 0x6002C373 plain) ≡ trap_of 2 0x6002C373
  -- ---- what takes a reservation: traps, returns, a demotion and device registers
  pub trap_takes_it : reservation_of (turn_of_hart (small 0x00100073 0) (keeping_hart Kernel 0x80000000 0)) ≡ None
  pub return_takes_it : reservation_of (turn_of_hart (small 0x10200073 0) (keeping_hart Kernel 0x80000000 0)) ≡ None
  pub demotion_takes_it : reservation_of (turn_of_hart (small 0x13 0x13) (keeping_hart Kernel 0x80001000 0)) ≡ None
  pub device_load_takes_it : reservation_of (turn_of_hart (small 0x0002C303 0) (keeping_hart Kernel 0x80000000 0x10000005)) ≡ None
  pub device_load : register_of (turn_of_hart (small 0x0002C303 0) (keeping_hart Kernel 0x80000000 0x10000005)) 6 ≡ 0x60
  pub device_store_takes_it : reservation_of (turn_of_hart (small 0x00628023 0) (keeping_hart Kernel 0x80000000 0x10000000)) ≡ None
  pub device_store : (turn_of_hart (small 0x00628023 0) (keeping_hart Kernel 0x80000000 0x10000000)).journal.printed ≡ 7 ∷ []
  pub load_leaves_it : reservation_of (turn_of_hart (small 0x0002C303 0) (keeping_hart Kernel 0x80000000 0x80001000)) ≡ Some 0x2000
  pub store_elsewhere_leaves_it : reservation_of (turn_of_hart (small 0x00628023 0) (keeping_hart Kernel 0x80000000 0x80001000)) ≡ Some 0x2000
  -- ---- the mode that a trap came from, in SPP
  pub previous_mode_of_the_kernel : status_of (turn_of_hart (small 0x13 0) interrupted_hart) ≡ 0x120
  pub previous_mode_of_the_user : status_of
      (turn_of_hart (small 0 0x73) (record (hart_in User 0x80001000 plain) { supervisor = record with_vector { sstatus = 0x102 } })) ≡ 0x20
  -- ---- notes, of which the first 4,096 are kept
  pub last_note : slice_get (after_notes 4095).journal.notes 4095 ≡ Some (Demote 0 1 0x80001000 0x80001000)
  pub no_room_for_a_note : slice_get (after_notes 4096).journal.notes 4095 ≡ Some (Denied 0)
  pub max_notes_are_kept : length (after_notes 4096).journal.notes ≡ 4096
  pub note_is_counted : (after_notes 4096).journal.counts.notes ≡ 1
  -- ---- traps from user mode
  pub trap_to_an_address_that_is_no_entry :
      (turn_of_hart (small 0 0) (record (hart_in User 0x80001000 plain) { supervisor = record with_vector { stvec = 0x80000104 } })).journal.counts.traps ≡ 0
