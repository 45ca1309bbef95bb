-- The permitted entries, as contracts see them. This project's own.
use Rattle.std.specs.Prelude.{ℕ, List}

-- the addresses, and the guest-physical address that each of the first ones is bound to
pub record Permitted : Type 0 where
  pub entries : List ℕ
  pub bound : List ℕ
