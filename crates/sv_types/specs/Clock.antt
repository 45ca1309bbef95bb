-- The clock: the time, and the timer of each of four harts. This project's own; the timers are those of RISC-V SBI,
-- "Timer Extension".
use Rattle.std.specs.Prelude.{ℕ, ◌+◌, ◌-◌, ◌^◌, Bool, not, ◌&&◌, List, replicate, min, slice_index, slice_set, ◌==◌, nat_le}
use Rattle.sv_types.specs.Limits.{max_harts}

pub record Clock : Type 0 where
  pub time : ℕ
  pub timers : List ℕ

-- the latest time, and the timer that never is due
abbrev pub latest : ℕ
latest = 2 ^ 64 - 1

-- time begins at 0, and no timer is set
abbrev pub clock_at_boot : Clock
clock_at_boot = record { time = 0; timers = replicate max_harts latest }

-- time goes on, and stands still at the latest
abbrev pub after_tick : Clock → ℕ → Clock
after_tick c n = record c { time = min (c.time + n) latest }

-- the timer of a hart
abbrev pub timer_of : Clock → ℕ → ℕ
timer_of c hart = slice_index c.timers hart

abbrev pub with_timer : Clock → ℕ → ℕ → Clock
with_timer c hart at = record c { timers = slice_set c.timers hart at }

-- a timer is set, and time has reached it
abbrev pub timer_is_due : Clock → ℕ → Bool
timer_is_due c hart = not (timer_of c hart == latest) && nat_le (timer_of c hart) c.time
