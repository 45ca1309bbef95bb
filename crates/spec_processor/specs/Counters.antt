-- Counters of 64 bits.
-- RISC-V Unprivileged manual, "Zicntr" Extension for Base Counters and Timers: counters of 64 bits. What they count here is
-- this project's own.
use Rattle.std.specs.Prelude.{ℕ, ◌+◌, ◌-◌, ◌^◌, ◌<◌, min}

-- the highest number that 64 bits hold
abbrev pub highest_count : ℕ
highest_count = 2 ^ 64 - 1

-- one more can be counted
abbrev pub CanCount : ℕ → Type 0
CanCount n = n < highest_count

-- two more can be counted
abbrev pub CanCountTwo : ℕ → Type 0
CanCountTwo n = n < highest_count - 1

-- one more, where counts end at the highest
abbrev pub next_count : ℕ → ℕ
next_count n = min (n + 1) highest_count
