-- The harts of the hardware, alongside those of the reference machine.
use Rattle.std.proofs.Common.{◌≡◌, ℕ, zero, suc, ◌+◌, List, [], ◌∷◌, length, map, refl, ◌∙◌, ap, slice_get, slice_set}
use Rattle.std.specs.Prelude.{Some, option_map}
use Rattle.spec_processor.specs.HypervisorRegisters.{HypervisorRegisters}
use Rattle.laws_processor.proofs.Reservations.{after_write_after}
use Rattle.spec_reference.specs.States.{Hart}
use Rattle.spec_reference.specs.Devices.{hart_after_write}
use Rattle.spec_hardware.specs.Machine.{HwHart, update, forgets}
use Rattle.spec_hardware.specs.StandsFor.{hw_hart, hw_harts}

-- each hart of the reference has one of the hardware, with registers of its own for exits
pub hw_harts_get : (t : ℕ) (exits : List HypervisorRegisters) (harts : List Hart) (h : ℕ) (hart : Hart) → length exits ≡ length harts → slice_get harts h ≡ Some hart
    → (c : HypervisorRegisters) × ((slice_get exits h ≡ Some c) × (slice_get (hw_harts t exits harts) h ≡ Some (hw_hart t c hart)))
unfolding hw_harts
hw_harts_get t exits [] h hart size found = cc
hw_harts_get t [] (x ∷ harts) h hart size found = cc
hw_harts_get t (c ∷ exits) (x ∷ harts) zero hart size found = (c, (refl, ap (option_map (hw_hart t c)) found))
hw_harts_get t (c ∷ exits) (x ∷ harts) (suc h) hart size found = hw_harts_get t exits harts h hart (cc) found

-- a hart is changed in place on both sides
pub hw_harts_update : (t : ℕ) (exits : List HypervisorRegisters) (harts : List Hart) (h : ℕ) (c : HypervisorRegisters) (hart next : Hart) (change : HwHart → HwHart)
    → slice_get exits h ≡ Some c → slice_get harts h ≡ Some hart → change (hw_hart t c hart) ≡ hw_hart t c next
    → update (hw_harts t exits harts) h change ≡ hw_harts t exits (slice_set harts h next)
unfolding hw_harts update
hw_harts_update t [] harts h c hart next change e f g = cc
hw_harts_update t (d ∷ exits) [] h c hart next change e f g = cc
hw_harts_update t (d ∷ exits) (x ∷ harts) zero c hart next change e f g = let p : d ≡ c = cc in let q : x ≡ hart = cc in rw (p, q, g) refl
hw_harts_update t (d ∷ exits) (x ∷ harts) (suc h) c hart next change e f g = ap (◌∷◌ (hw_hart t d x)) (hw_harts_update t exits harts h c hart next change e f g)

-- an exit changes the hardware's side alone
pub hw_harts_exit : (t : ℕ) (exits : List HypervisorRegisters) (harts : List Hart) (h : ℕ) (was now : HypervisorRegisters) (hart : Hart) (change : HwHart → HwHart)
    → slice_get exits h ≡ Some was → slice_get harts h ≡ Some hart → change (hw_hart t was hart) ≡ hw_hart t now hart
    → update (hw_harts t exits harts) h change ≡ hw_harts t (slice_set exits h now) harts
unfolding hw_harts update
hw_harts_exit t [] harts h was now hart change e f g = cc
hw_harts_exit t (d ∷ exits) [] h was now hart change e f g = cc
hw_harts_exit t (d ∷ exits) (x ∷ harts) zero was now hart change e f g = let p : d ≡ was = cc in let q : x ≡ hart = cc in rw (p, q, g) refl
hw_harts_exit t (d ∷ exits) (x ∷ harts) (suc h) was now hart change e f g = ap (◌∷◌ (hw_hart t d x)) (hw_harts_exit t exits harts h was now hart change e f g)

pub forgets_hw : (t : ℕ) (c : HypervisorRegisters) (hart : Hart) (place width : ℕ)
    → forgets (t + place) width (hw_hart t c hart) ≡ hw_hart t c (hart_after_write place width hart)
forgets_hw t c hart place width = rw (after_write_after t place width hart.reservation) refl

-- a write in RAM takes the same reservations on both sides
pub hw_harts_forget : (t : ℕ) (exits : List HypervisorRegisters) (harts : List Hart) (place width : ℕ)
    → map (forgets (t + place) width) (hw_harts t exits harts) ≡ hw_harts t exits (map (hart_after_write place width) harts)
unfolding hw_harts
hw_harts_forget t [] harts place width = refl
hw_harts_forget t (e ∷ exits) [] place width = refl
hw_harts_forget t (e ∷ exits) (x ∷ harts) place width =
    ap (λ (y : HwHart). y ∷ map (forgets (t + place) width) (hw_harts t exits harts)) (forgets_hw t e x place width)
    ∙ ap (◌∷◌ (hw_hart t e (hart_after_write place width x))) (hw_harts_forget t exits harts place width)
