-- What a write and walks leave of a cache.
use Rattle.std.proofs.Common.{◌≡◌, ℕ, ◌≤◌, length, refl, arith, false}
use Rattle.std.specs.Prelude.{nat_lt}
use Rattle.std.proofs.lemmas.Bool.Decides.{nat_tests}
use Rattle.spec_processor.specs.Regions.{Region, write_host}

-- ---- a write to RAM

pub write_after : (r : Region) (place width value : ℕ) → length r.tables ≤ place → (write_host r place width value).tables ≡ r.tables
unfolding write_host
write_after r place width value behind = let test : nat_lt place (length r.tables) ≡ false = grind (arith, nat_tests) in rw test refl
