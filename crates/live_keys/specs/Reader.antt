-- What is taken of a reader's bytes, where those are known. This project's own.
use Rattle.std.specs.Prelude.{ℕ, List, [], ◌∷◌, Bool, true, false, Option, Some, None, Result, Ok, Err}
use Rattle.std.specs.Io.KnownBytes.{Consumes, Keeps, IsAtEnd as HasNoneLeft}

-- The first byte that was left; none only where none is left, or where the end was met before. A read that failed took nothing.
abbrev pub TakesFrom : {E : Type 0} → (ended : Bool) → (old new : Option (List ℕ)) → Result (Option ℕ) E → Type 0
TakesFrom ended old new (Ok (Some byte)) = Consumes old new (byte ∷ [])
TakesFrom true old new (Ok None) = Keeps old new
TakesFrom false old new (Ok None) = Keeps old new × HasNoneLeft new
TakesFrom ended old new (Err failed) = Keeps old new
