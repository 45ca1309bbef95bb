-- Turns in an entry, a row for each case. This project's own.
use Rattle.std.specs.Prelude.{◌≡◌, ℕ, [], ◌∷◌, Option, Some, None}
use Rattle.spec_processor.specs.Bytes.{overwrite}
use Rattle.sv_types.specs.declared.event.Note.TheVariants.{Demote}
use Rattle.spec_processor.specs.declared.mode.Mode.{Mode}
use Rattle.spec_processor.specs.declared.mode.Mode.TheVariants.{Kernel, User}
use Rattle.spec_reference.specs.States.{State, Hart}
use Rattle.spec_reference.specs.Start.{start, block_disk}
use Rattle.spec_examples.specs.Guests.{small_rules, small_ram, doubles, hart_in, turn_of_hart, hart_of, trap_facts, trap_of, at_pc}
use Rattle.spec_examples.specs.TurnRows.{plain, without_mappings}

-- the entry at 0x80000100 is bound to an address; the first two pages are approved
abbrev pub bound_to : (gpa word : ℕ) → State
bound_to gpa word = start (record small_rules { format = 2; bound = gpa ∷ [] }) (small_ram word word) (0 ∷ 1 ∷ []) 0x80000000 (block_disk [])

-- in kernel mode, in that entry
abbrev pub inside : ℕ → Hart
inside pc = record (hart_in Kernel pc plain) { entry = Some 0 }

abbrev pub entry_of : State → Option ℕ
entry_of r = (hart_of r 0).entry

abbrev pub mode_of : State → Mode
mode_of r = (hart_of r 0).mode

-- Sv39 whose root maps the gigabyte of RAM to one outside RAM, readable and executable
abbrev pub mapped_outside : State
mapped_outside = record (bound_to 0x80000100 0x13) { ram = overwrite (bound_to 0x80000100 0x13).ram 0x2010 (doubles (0x1000004B ∷ [])) }

abbrev pub returning_hart : Hart
returning_hart = record (inside 0x80000000) { supervisor = record (inside 0).supervisor { sstatus = 0x100; sepc = 0x80000200 } }

pub record EntryRows : Type 0 where
  -- ---- ways in
  pub enters : entry_of (turn_of_hart (bound_to 0x80000100 0x73) (hart_in User 0x80002000 plain)) ≡ Some 0
  pub enters_at : at_pc (turn_of_hart (bound_to 0x80000100 0x73) (hart_in User 0x80002000 plain)) ≡ 0x80000100 ∷ 0 ∷ []
  pub trap_of_the_kernel : entry_of (turn_of_hart (bound_to 0x80000100 0x00100073) (hart_in Kernel 0x80000000 plain)) ≡ None
  pub trap_inside : entry_of (turn_of_hart (bound_to 0x80000100 0x00100073) (inside 0x80000000)) ≡ Some 0
  -- ---- at the entry's address
  pub word_that_is_bound : trap_facts (turn_of_hart (bound_to 0x80000100 0x13) (inside 0x80000100)) ≡ trap_of 2 0
  pub elsewhere : (turn_of_hart (bound_to 0x80001100 0x13) (inside 0x80000100)).journal.notes ≡ Demote 0 1 0x80000100 0x80000100 ∷ []
  pub elsewhere_demotes : mode_of (turn_of_hart (bound_to 0x80001100 0x13) (inside 0x80000100)) ≡ User
  pub elsewhere_leaves : entry_of (turn_of_hart (bound_to 0x80001100 0x13) (inside 0x80000100)) ≡ None
  pub bound_to_a_free_page : (turn_of_hart (bound_to 0x80002100 0x13) (inside 0x80000100)).journal.notes ≡ Demote 0 1 0x80000100 0x80000100 ∷ []
  pub page_fault : (turn_of_hart (bound_to 0x80000100 0x13) (without_mappings (inside 0x80000100))).journal.notes ≡ Demote 0 1 0x80000100 0 ∷ []
  pub mapping_outside_ram : (turn_of_hart mapped_outside (without_mappings (inside 0x80000100))).journal.notes ≡ Demote 0 1 0x80000100 0 ∷ []
  -- ---- at another address
  pub same_page : at_pc (turn_of_hart (bound_to 0x80000100 0x13) (inside 0x80000000)) ≡ 0x80000004 ∷ 1 ∷ []
  pub same_page_stays : entry_of (turn_of_hart (bound_to 0x80000100 0x13) (inside 0x80000000)) ≡ Some 0
  pub other_page : at_pc (turn_of_hart (bound_to 0x80001100 0x13) (inside 0x80000000)) ≡ 0x80000004 ∷ 1 ∷ []
  pub other_page_leaves : entry_of (turn_of_hart (bound_to 0x80001100 0x13) (inside 0x80000000)) ≡ None
  pub free_page : (turn_of_hart (bound_to 0x80000100 0x13) (inside 0x80002000)).journal.notes ≡ Demote 0 1 0x80002000 0x80002000 ∷ []
  pub outside_ram : trap_facts (turn_of_hart (bound_to 0x80000100 0x13) (inside 0x90000000)) ≡ trap_of 1 0x90000000
  pub other_page_fault : trap_facts (turn_of_hart (bound_to 0x80000100 0x13) (without_mappings (inside 0x80000000))) ≡ trap_of 12 0x80000000
  pub other_page_fault_leaves : entry_of (turn_of_hart (bound_to 0x80000100 0x13) (without_mappings (inside 0x80000000))) ≡ None
  pub other_mapping_outside_ram : trap_facts (turn_of_hart mapped_outside (without_mappings (inside 0x80000000))) ≡ trap_of 1 0x80000000
  -- ---- ways out
  pub returns_to_the_user : entry_of (turn_of_hart (bound_to 0x80000100 0x10200073) (inside 0x80000000)) ≡ None
  pub returns_to_the_kernel : entry_of (turn_of_hart (bound_to 0x80000100 0x10200073) returning_hart) ≡ Some 0
