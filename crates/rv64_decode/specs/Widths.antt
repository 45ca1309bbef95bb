-- Which function code an atomic instruction's width has.
-- RISC-V Unprivileged manual, "A" Extension for Atomic Instructions.
use Rattle.std.specs.Prelude.{ℕ, ◌≡◌, ◌⊎◌}

abbrev pub IsWidthCode : ℕ → ℕ → Type 0
IsWidthCode width funct3 = ((width ≡ 4) × (funct3 ≡ 2)) ⊎ ((width ≡ 8) × (funct3 ≡ 3))
