-- What a device moves: a beat of a disk's, or a write of an attacker's. This project's own.
use Rattle.std.specs.Prelude.{ℕ, List}

-- what a beat or a write moves
pub data Move : Type 0 where
  -- nothing, since nothing is under way
  Idle : Move
  -- bytes of RAM to the disk
  FromRam : (gpa : ℕ) → Move
  -- bytes of the disk into RAM
  IntoRam : (gpa : ℕ) → (bytes : List ℕ) → Move
  -- nothing, since the page there is protected; the transfer ends
  DeniedAt : (gpa : ℕ) → Move
  -- nothing, since no RAM is there; the transfer ends
  OutsideRam : Move
