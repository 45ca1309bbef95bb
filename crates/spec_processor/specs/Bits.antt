-- Single bits of a register of 64 bits. RISC-V Unprivileged manual, "RV64I Base Integer Instruction Set".
use Rattle.std.specs.Prelude.{ℕ, ◌-◌, ◌/◌, ◌%◌, ◌^◌, Bool, true, false, ◌==◌, if◌then◌else◌, bit_and, bit_or}

-- bit i of a number is set
abbrev pub bit : ℕ → ℕ → Bool
bit n i = n / 2 ^ i % 2 == 1

-- the number of a bit that is set or not
abbrev pub flag : Bool → ℕ
flag set = if set then 1 else 0

-- a register without the bits of a mask
abbrev pub without : ℕ → ℕ → ℕ
without register mask = bit_and register (2 ^ 64 - 1 - mask)

-- a register with the bits of a mask set or cleared
abbrev pub with_bits : ℕ → ℕ → Bool → ℕ
with_bits register mask true = bit_or register mask
with_bits register mask false = without register mask
