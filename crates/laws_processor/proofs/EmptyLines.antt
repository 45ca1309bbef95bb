-- A cache without lines holds none at any place.
use Rattle.std.proofs.Common.{◌≡◌, ℕ, zero, suc, get_or, replicate, refl}
use Rattle.std.specs.Prelude.{Option, None}
use Rattle.spec_processor.specs.declared.cached.CacheLine.{CacheLine}

pub none_at : (n i : ℕ) → get_or (replicate {A = Option CacheLine} n None) i None ≡ None
none_at zero i = refl
none_at (suc n) zero = refl
none_at (suc n) (suc i) = none_at n i
