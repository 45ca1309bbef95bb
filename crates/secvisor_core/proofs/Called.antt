-- What the registers of a hart ask, and what its call is answered.
use Rattle.std.proofs.Common.{◌≡◌, ℕ, ◌<◌, List, length, vec_len, sym, ◌∙◌, ap, subst}
use Rattle.std.specs.Prelude.{slice_index_or}
use Rattle.spec_reference.specs.Calls.{Asked, asked_by}
use Rattle.spec_reference.specs.ModuleCalls.{answer_of}
use Rattle.spec_reference.specs.States.{Journal}
use Rattle.spec_reference.specs.declared.answers.Answer.{Answer}
use Rattle.spec_hardware.specs.HwCalls.{hw_facts}
use Rattle.spec_hardware.specs.Machine.{HwHart}
use Rattle.monitor_exits.proofs.HwOfSlots.{hw_harts_length}
use Rattle.monitor_exits.specs.HwOfSlots.{hw_harts_of}
use Rattle.monitor_exits.specs.declared.slots.HartSlot.{HartSlot}
use Rattle.hw_platform.proofs.HwOfSlots.{hw_there}
use Rattle.hw_platform.specs.Attempts.{hart_in}
use Rattle.hw_platform.specs.declared.hardware.Hardware.{Hardware}
use Rattle.secvisor_core.specs.Visors.{machine_of}
use Rattle.secvisor_core.specs.declared.visor.Visor.{Visor}

-- a hart that is there has a slot
pub slot_below : (w : Hardware) (h : ℕ) → h < length (hw_harts_of w.slots.items) → h < length w.slots.items
slot_below w h below = subst (λ (n : ℕ). h < n) (hw_harts_length w.slots.items) below

pub slot_indexed : (w : Hardware) (h : ℕ) → h < length (hw_harts_of w.slots.items) → h < vec_len w.slots
slot_indexed w h below = subst (λ (n : ℕ). h < n) (sym w.slots.ok.0) (slot_below w h below)

pub registers_there : (slots : List HartSlot) (h : ℕ) (d : HartSlot) → h < length slots → d ≡ slice_index_or slots h d
    → asked_by (hart_in (hw_harts_of slots) h).core.registers ≡ asked_by d.hart.core.regs
registers_there slots h d below is =
    ap (λ (x : HwHart). asked_by x.core.registers) (hw_there slots h d below) ∙ sym (ap (λ (s : HartSlot). asked_by s.hart.core.regs) is)

-- an answer by what a hart's registers ask
pub answered_there : (v : Visor) (w : Hardware) (j : Journal) (h : ℕ) (d : HartSlot) (ask : Asked) (answer : Answer) → d ≡ slice_index_or w.slots.items h d
    → h < length (hw_harts_of w.slots.items) → ask ≡ asked_by d.hart.core.regs → answer ≡ answer_of (hw_facts (machine_of v w j)) ask
    → answer ≡ answer_of (hw_facts (machine_of v w j)) (asked_by (hart_in (hw_harts_of w.slots.items) h).core.registers)
answered_there v w j h d ask answer is below asks made =
    made ∙ ap (λ (x : Asked). answer_of (hw_facts (machine_of v w j)) x) (asks ∙ sym (registers_there w.slots.items h d (slot_below w h below) is))
