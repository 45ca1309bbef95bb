-- What is taken of a reader's bytes over several reads.
use Rattle.std.proofs.Common.{◌≡◌, ℕ, List, [], ◌∷◌, ◌++◌, take, length, refl, sym, ◌∙◌, ap, subst, false, true, Option, Some, None, Result, Ok, Err}
use Rattle.std.specs.Io.KnownBytes.{Consumes, Keeps, IsAtEnd}
use Rattle.live_keys.specs.Reader.{TakesFrom}

pub keeps_same : (known : Option (List ℕ)) → Keeps known known
keeps_same None = tt
keeps_same (Some bytes) = refl

pub keeps_on : (old now new : Option (List ℕ)) → Keeps old now → Keeps now new → Keeps old new
keeps_on None now new first second = tt
keeps_on (Some xs) None new first second = absurd first
keeps_on (Some xs) (Some ys) None first second = absurd second
keeps_on (Some xs) (Some ys) (Some zs) first second = second ∙ first

consumes_on : (old now new : Option (List ℕ)) (bytes : List ℕ) → Keeps old now → Consumes now new bytes → Consumes old new bytes
consumes_on None now new bytes first second = tt
consumes_on (Some xs) None new bytes first second = absurd first
consumes_on (Some xs) (Some ys) None bytes first second = absurd second
consumes_on (Some xs) (Some ys) (Some zs) bytes first second = sym first ∙ second

pub takes_on : {E : Type 0} (old now new : Option (List ℕ)) (result : Result (Option ℕ) E) → Keeps old now → TakesFrom false now new result → TakesFrom false old new result
takes_on old now new (Ok (Some byte)) first second = consumes_on old now new (byte ∷ []) first second
takes_on old now new (Ok None) first second = (keeps_on old now new first second.0, second.1)
takes_on old now new (Err e) first second = keeps_on old now new first second

-- no byte was taken
pub consumes_none : (old new : Option (List ℕ)) (bytes : List ℕ) → bytes ≡ [] → Consumes old new bytes → Keeps old new
consumes_none None new bytes none it = tt
consumes_none (Some xs) None bytes none it = absurd it
consumes_none (Some xs) (Some ys) bytes none it = sym (it ∙ ap (λ (b : List ℕ). b ++ ys) none)

pub consumes_as : (old new : Option (List ℕ)) (bytes more : List ℕ) → bytes ≡ more → Consumes old new bytes → Consumes old new more
consumes_as old new bytes more same it = subst (λ (b : List ℕ). Consumes old new b) same it
