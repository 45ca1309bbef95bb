-- The table of wanted names.
use Rattle.std.specs.Prelude.{◌≡◌, ℕ, List, All}
use Rattle.std.specs.BTreeMap.{BTreeMap, values}
use Rattle.std.specs.Borrow.{Bor}

-- the names, in the order of their bytes
abbrev pub names_of : BTreeMap (Bor (List ℕ)) (List ℕ) → List (List ℕ)
names_of table = values table

-- each stands alongside its own bytes
abbrev pub AreNamed : BTreeMap (Bor (List ℕ)) (List ℕ) → Type 0
AreNamed table = All (λ e. e.1 ≡ e.0.now) table.entries
