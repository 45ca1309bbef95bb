-- What a step that didn't refuse gave.
use Rattle.std.proofs.Common.{◌≡◌, Ok}
use Rattle.std.specs.Prelude.{Result}

pub ok_same : {A E : Type 0} (a b : A) → ◌≡◌ {A = Result A E} (Ok a) (Ok b) → a ≡ b
ok_same a b e = cc e
