-- How many turns a row has. This project's own.
use Rattle.std.specs.Prelude.{ℕ, ◌+◌, Bool, true, false}
use Rattle.hw_fast_path.specs.declared.leaving.Leaving.{Leaving}
use Rattle.hw_fast_path.specs.declared.leaving.Leaving.TheVariants.{Stays, Calls, Returns}
use Rattle.hw_fast_path.specs.declared.batch.Batch.{Batch}

-- the turn after it was made
abbrev pub is_left : Leaving → Bool
is_left Stays = false
is_left Calls = true
is_left Returns = true

-- the one after it too, where that was made
abbrev pub with_leaving : Leaving → ℕ → ℕ
with_leaving Stays n = n
with_leaving Calls n = n + 1
with_leaving Returns n = n + 1

abbrev pub turns_of : Batch → ℕ
turns_of batch = with_leaving batch.left batch.made
