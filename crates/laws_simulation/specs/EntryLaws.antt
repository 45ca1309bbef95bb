-- What follows an entry from user mode where the policy binds entries, in any sound state, as each is that a run reaches. This
-- project's own.
use Rattle.std.specs.Prelude.{◌≡◌, ℕ, ◌⊎◌, Bool, true, false, List, [], ◌∷◌, ◌==◌, Some, None, slice_get}
use Rattle.sv_types.specs.ApprovedPages.{approved_bytes}
use Rattle.spec_processor.specs.Bits.{bit}
use Rattle.spec_processor.specs.Bytes.{word, page_of, place_in_page, instruction_size}
use Rattle.spec_processor.specs.Translation.{At}
use Rattle.spec_processor.specs.Traps.{trap_target, deliverable}
use Rattle.sv_types.specs.declared.event.Event.{Event}
use Rattle.sv_types.specs.declared.event.Event.TheVariants.{Turn, Beat, Key, Tick, Poke}
use Rattle.sv_types.specs.declared.event.Verdict.TheVariants.{Running}
use Rattle.spec_processor.specs.declared.mode.Mode.TheVariants.{Kernel, User}
use Rattle.spec_reference.specs.Counting.{count, count_turn}
use Rattle.spec_reference.specs.Devices.{lines_at}
use Rattle.spec_reference.specs.Run.{run, step}
use Rattle.spec_reference.specs.Soundness.{IsSound}
use Rattle.spec_reference.specs.States.{State, Hart, Binding, binding_at, has_number}
use Rattle.spec_reference.specs.Trapping.{trap_from}
use Rattle.spec_reference.specs.Turn.{demote, carry_out_word, place_of_pc}
use Rattle.laws_simulation.specs.Agree.{IsNotLoading}
use Rattle.spec_processor.specs.Registers.{sie_bit}
use Rattle.sv_types.specs.Limits.{bound_format}

-- ---- the turn of a hart at its entry's address

-- the hart is in an entry, in kernel mode, and at the entry's address
pub record IsAtEntry (r : State) (h : ℕ) (hart : Hart) (entry : Binding) : Type 0 where
  pub found : slice_get r.harts h ≡ Some hart
  pub started : hart.started ≡ true
  pub mode : hart.mode ≡ Kernel
  pub place : ℕ
  pub in_entry : hart.entry ≡ Some place
  pub bound : binding_at r.rules place ≡ Some entry
  pub there : hart.pc ≡ entry.va
  pub free : IsNotLoading h r.loading

-- nothing is executed, and the hart leaves for user mode
pub record Demotes (r : State) (h : ℕ) (hart : Hart) (next : State) : Type 0 where
  pub gpa : ℕ
  pub same : next ≡ demote r h hart gpa

-- the word is the one at the address that the entry is bound to, in an approved page
pub record ReadsBound (r : State) (h : ℕ) (hart : Hart) (entry : Binding) (next : State) : Type 0 where
  pub bytes : List ℕ
  pub place : place_of_pc r hart ≡ At entry.gpa
  pub approved : approved_bytes r.approved (page_of entry.gpa) ≡ Some bytes
  pub same : next ≡ carry_out_word r h hart (word bytes (place_in_page entry.gpa) instruction_size)

abbrev pub DemotesOrReads : State → ℕ → Hart → Binding → Type 0
DemotesOrReads r h hart entry =
    Demotes (count r count_turn) h hart (step r (Turn h)) ⊎ ReadsBound (count r count_turn) h hart entry (step r (Turn h))

-- without an interrupt its turn is one of the two, so no other word is ever carried out there
abbrev pub AtEntryLaw : Type 0
AtEntryLaw = (r : State) (h : ℕ) (hart : Hart) (entry : Binding) → IsSound r → IsAtEntry r h hart entry → r.journal.verdict ≡ Running
    → deliverable hart.mode hart.supervisor (lines_at r.devices h) ≡ None → DemotesOrReads r h hart entry

-- ---- from an entry to the hart's next turn

-- the hart's turn is a trap from user mode, at a permitted address
pub record TrapsIn (r : State) (h : ℕ) : Type 0 where
  pub hart : Hart
  pub found : slice_get r.harts h ≡ Some hart
  pub started : hart.started ≡ true
  pub free : IsNotLoading h r.loading
  pub interrupt : Bool
  pub cause : ℕ
  pub tval : ℕ
  pub same : step r (Turn h) ≡ trap_from (count r count_turn) h hart User interrupt cause tval
  pub permitted : has_number r.rules.entries (trap_target hart.supervisor.stvec interrupt cause) ≡ true

abbrev pub IsNoTurnOf : ℕ → Event → Type 0
IsNoTurnOf h (Turn other) = (other == h) ≡ false
IsNoTurnOf h Beat = Unit {0}
IsNoTurnOf h (Key byte) = Unit {0}
IsNoTurnOf h (Tick n) = Unit {0}
IsNoTurnOf h (Poke gpa value) = Unit {0}

abbrev pub AreNoTurnsOf : ℕ → List Event → Type 0
AreNoTurnsOf h [] = Unit {0}
AreNoTurnsOf h (event ∷ events) = IsNoTurnOf h event × AreNoTurnsOf h events

-- whatever happens in between, the hart stands at its entry's address, which is the trap's target, with its interrupts off, and its
-- next turn demotes it or reads the word that the entry is bound to
pub record StandsAtEntry (r : State) (h target : ℕ) : Type 0 where
  pub hart : Hart
  pub entry : Binding
  pub its : entry.va ≡ target
  pub at : IsAtEntry r h hart entry
  pub masked : bit hart.supervisor.sstatus sie_bit ≡ false
  pub next : r.journal.verdict ≡ Running → DemotesOrReads r h hart entry

abbrev pub EntryLaw : Type 0
EntryLaw = (r : State) (between : List Event) (h : ℕ) → IsSound r → r.rules.format ≡ bound_format → (k : TrapsIn r h) → AreNoTurnsOf h between
    → StandsAtEntry (run (step r (Turn h)) between) h (trap_target k.hart.supervisor.stvec k.interrupt k.cause)
