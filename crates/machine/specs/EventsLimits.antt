-- How high the counts of a machine may come. This project's own.
use Rattle.std.specs.Prelude.{ℕ, ◌-◌, ◌^◌}

-- a turn makes two attempts at most, and the attempts are counted in 64 bits
abbrev pub max_counts : ℕ
max_counts = 2 ^ 63 - 1
