-- Items that are judged one after another.
use Rattle.std.specs.Prelude.{List, [], ◌∷◌, ◌++◌, Result, Ok}
use Rattle.sv_types.specs.Steps.{◌>>=◌}

-- each item is judged, and joins those before it
abbrev pub each : {A B E : Type 0} → (A → Result B E) → List B → List A → Result (List B) E
each judged before [] = Ok before
each judged before (x ∷ xs) = judged x >>= λ b. each judged (before ++ b ∷ []) xs
