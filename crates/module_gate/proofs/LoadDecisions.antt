-- The decision of a load, from its parts.
use Rattle.std.proofs.Common.{◌≡◌, sym, subst, refl, Bool, ◌&&◌}
use Rattle.std.specs.Prelude.{Option, Some}
use Rattle.std.specs.Str.{bytes_eq}
use Rattle.sv_types.specs.Measure.{joined_digests}
use Rattle.sv_types.specs.Policies.{ModuleRule}
use Rattle.spec_hardware.specs.HwExits.{hw_is_good}
use Rattle.spec_hardware.specs.Machine.{HwLoad}

pub good_where : (load : HwLoad) (rule : ModuleRule) (found : Option ModuleRule) (same : Bool) → found ≡ Some rule → bytes_eq (joined_digests load.digests) rule.measure ≡ same
    → hw_is_good load found ≡ (same && load.right)
unfolding hw_is_good
good_where load rule found same there measured = subst (λ (o : Option ModuleRule). hw_is_good load o ≡ (same && load.right)) (sym there) (rw measured refl)
