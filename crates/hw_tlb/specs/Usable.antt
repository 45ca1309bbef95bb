-- What a hart keeps of walks, and when it is usable. This project's own.
use Rattle.std.specs.Prelude.{◌≡◌, ℕ, zero, suc, List, [], ◌∷◌, Some, slice_get}
use Rattle.spec_processor.specs.CachedWalks.{CacheAgrees, no_lines}
use Rattle.hw_tlb.specs.Kept.{no_lines as none_led, ReachAgrees}
use Rattle.hw_tlb.specs.declared.caches.HartCaches.{HartCaches}

-- what a hart keeps of walks agrees with the tables
pub record IsUsable (tables : List ℕ) (own : HartCaches) : Type 0 where
  pub second : CacheAgrees tables own.second
  pub both : ReachAgrees tables own.both

-- what each hart keeps does
pub record AreUsable (tables : List ℕ) (caches : List HartCaches) : Type 0 where
  pub each : (h : ℕ) (own : HartCaches) → slice_get caches h ≡ Some own → IsUsable tables own

abbrev pub nothing_kept : HartCaches
nothing_kept = record { second = no_lines; both = none_led }

-- the first n caches emptied
unfoldable pub first_emptied : ℕ → List HartCaches → List HartCaches
first_emptied zero caches = caches
first_emptied (suc n) [] = []
first_emptied (suc n) (own ∷ caches) = nothing_kept ∷ first_emptied n caches
