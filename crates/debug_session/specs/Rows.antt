-- Events that are made in a row. This project's own.
use Rattle.std.specs.Prelude.{◌≡◌, ◌<◌, ◌≤◌, ◌+◌, ◌==◌, ◌&&◌, ℕ, Bool, true, List, length, Option, is_none}
use Rattle.debug_session.specs.Runs.{Run, after, is_running, state}
use Rattle.debug_session.specs.declared.watches.Watch.{Watch}

-- so many events more are made, at least one, and the run goes on after each of them but the last
pub record IsRow {T : Type 0} (stands : T → Run → Type 0) (run : Run) (count : ℕ) (there : T) : Type 0 where
  pub some : 0 < count
  pub within : run.made + count ≤ length run.events
  pub stands_there : stands there (after run (run.made + count))
  pub running : (n : ℕ) → run.made < n → n < run.made + count → is_running (state (after run n)).journal.verdict ≡ true

-- nothing is looked at on the way
abbrev pub is_free : (breaks : List ℕ) → (watches : List Watch) → (steps : Option ℕ) → Bool
is_free breaks watches steps = length breaks == 0 && length watches == 0 && is_none steps
