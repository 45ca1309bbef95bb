-- Numbers of the generator that draw turns.
use Rattle.std.specs.Prelude.{◌≡◌, ℕ, zero, suc, ◌/◌, ◌^◌, Bool, true, nat_lt}
use Rattle.sv_types.specs.Schedule.{next_random, kind_shift, first_beat}

-- a number draws a turn
abbrev pub is_turn : ℕ → Bool
is_turn x = nat_lt (x / 2 ^ kind_shift) first_beat

-- so many numbers in a row draw turns
abbrev pub DrawTurns : ℕ → (old new : ℕ) → Type 0
DrawTurns zero old new = new ≡ old
DrawTurns (suc n) old new = (mid : ℕ) × (DrawTurns n old mid × ((is_turn (next_random mid) ≡ true) × (new ≡ next_random mid)))
