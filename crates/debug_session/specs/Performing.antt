-- What a performer owes to a session. This project's own.
use Rattle.std.specs.Prelude.{◌≡◌, ℕ, List, ◌++◌}
use Rattle.debug_session.specs.Runs.{Run}
use Rattle.debug_session.specs.Sessions.{Desk, Outcome, remembered, frames}

-- the target stands where the outcome leads, what is kept is its desk with the last answer, and the answers' frames were put after
-- some bytes
pub record Performs {T : Type 0} (stands : T → Run → Type 0) (outcome : Outcome) (before : List ℕ) (target : T) (desk : Desk) (bytes : List ℕ) : Type 0 where
  pub stands_there : stands target outcome.run
  pub desk_is : desk ≡ remembered outcome
  pub bytes_are : bytes ≡ before ++ frames outcome.answers
