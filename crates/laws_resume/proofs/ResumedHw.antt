-- The harts that go on from a snapshot are the hardware's of the harts that it says.
use Rattle.std.proofs.Common.{◌≡◌, ℕ, zero, suc, ◌*◌, List, [], ◌∷◌, ◌++◌, length, map, replicate, refl, sym, ◌∙◌, ap, subst, Bool, true, false, ◌||◌}
use Rattle.std.specs.Prelude.{◌==◌}
use Rattle.std.proofs.lemmas.Bool.{eqb-true}
use Rattle.spec_processor.specs.Bits.{flag as bit_of}
use Rattle.spec_processor.specs.HypervisorRegisters.{registers_at_boot, at_hypervisor_places, virtual_software_bit}
use Rattle.spec_processor.specs.Registers.{software_bit}
use Rattle.spec_hardware.specs.Machine.{HwHart}
use Rattle.spec_hardware.specs.StandsFor.{hw_hart, hw_harts}
use Rattle.spec_reference.specs.declared.saved_machine.harts.SavedHart.{SavedHart}
use Rattle.snapshot_format.specs.Forms.{has_all}
use Rattle.snapshot_format.specs.HartForms.{hart, harts}
use Rattle.snapshot_format.proofs.FormLaws.{first_true, second_true}
use Rattle.snapshot_format.specs.ResumedStates.{resumed_hart}
use Rattle.laws_resume.specs.Resuming.{hw_resumed}
use Rattle.laws_resume.proofs.ResumedHarts.{supervisor_of}

-- ---- the software interrupt

hvip_by : (n : ℕ) (none some : Bool) → (n == 0) ≡ none → (n == software_bit) ≡ some → (none || some) ≡ true
    → at_hypervisor_places n ≡ virtual_software_bit * bit_of (n == software_bit)
hvip_by n true some z t e = subst (λ (k : ℕ). at_hypervisor_places k ≡ virtual_software_bit * bit_of (k == software_bit)) (sym (eqb-true n 0 z)) refl
hvip_by n false true z t e = subst (λ (k : ℕ). at_hypervisor_places k ≡ virtual_software_bit * bit_of (k == software_bit)) (sym (eqb-true n software_bit t)) refl
hvip_by n false false z t e = absurd cc

hvip_is : (n : ℕ) → (n == 0 || n == software_bit) ≡ true → at_hypervisor_places n ≡ virtual_software_bit * bit_of (n == software_bit)
hvip_is n e = hvip_by n (n == 0) (n == software_bit) refl refl e

-- ---- one hart

-- with its interrupts as the hypervisor keeps them
abbrev hw_with : (tables : ℕ) → SavedHart → (hvip : ℕ) → HwHart
hw_with tables h hvip =
    let hw = hw_resumed tables h in
    record hw { core = record hw.core { csrs = record hw.core.csrs { hvip = hvip } } }

hw_is : (tables pages : ℕ) (h : SavedHart) → (hart pages).has h ≡ true → hw_resumed tables h ≡ hw_hart tables registers_at_boot (resumed_hart h)
hw_is tables pages h has = ap (hw_with tables h) (hvip_is h.sip (supervisor_of pages h has).1)

-- ---- all of them

hw_harts_by : (tables pages n : ℕ) (before hs : List SavedHart) → has_all (λ before. hart pages) before n hs ≡ true
    → map (hw_resumed tables) hs ≡ hw_harts tables (replicate n registers_at_boot) (map resumed_hart hs)
unfolding has_all hw_harts
hw_harts_by tables pages zero before [] has = refl
hw_harts_by tables pages (suc n) before [] has = absurd cc
hw_harts_by tables pages zero before (h ∷ hs) has = absurd cc
hw_harts_by tables pages (suc n) before (h ∷ hs) has =
    ap (λ (first : HwHart). first ∷ map (hw_resumed tables) hs) (hw_is tables pages h (first_true ((hart pages).has h) _ has))
    ∙ ap (λ (rest : List HwHart). hw_hart tables registers_at_boot (resumed_hart h) ∷ rest)
    (hw_harts_by tables pages n (before ++ h ∷ []) hs (second_true ((hart pages).has h) _ has))

pub hw_harts_are : (tables pages : ℕ) (hs : List SavedHart) → (harts pages (length hs)).has hs ≡ true
    → map (hw_resumed tables) hs ≡ hw_harts tables (replicate (length hs) registers_at_boot) (map resumed_hart hs)
unfolding harts
hw_harts_are tables pages hs has = hw_harts_by tables pages (length hs) [] hs has
