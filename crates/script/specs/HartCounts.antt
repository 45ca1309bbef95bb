-- For how many harts a script draws its events. This project's own.
use Rattle.std.specs.Prelude.{ℕ, ◌<◌, ◌≤◌}
use Rattle.sv_types.specs.Limits.{max_harts}

-- a machine may have so many harts
pub record IsHartCount (harts : ℕ) : Type 0 where
  pub some : 0 < harts
  pub few : harts ≤ max_harts
