-- A hart that was put in is changed in place.
use Rattle.std.proofs.Common.{◌≡◌, ℕ, zero, suc, List, [], ◌∷◌, refl, ap, slice_set}
use Rattle.spec_hardware.specs.Machine.{HwHart, update}

pub update_there : (harts : List HwHart) (h : ℕ) (hw : HwHart) (change : HwHart → HwHart)
    → update (slice_set harts h hw) h change ≡ slice_set harts h (change hw)
unfolding update
update_there [] h hw change = refl
update_there (x ∷ harts) zero hw change = refl
update_there (x ∷ harts) (suc h) hw change = ap (◌∷◌ x) (update_there harts h hw change)
