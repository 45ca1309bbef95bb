-- Sums with nothing.
use Rattle.std.proofs.Common.{◌≡◌, ℕ, ◌+◌, arith}

pub plus_none : (n : ℕ) → n ≡ n + 0
plus_none n = omega arith

pub nothing_plus : (n : ℕ) → n ≡ 0 + n
nothing_plus n = omega arith
