-- Lists of modules that ascend by id. This project's own.
use Rattle.std.specs.Prelude.{ℕ, ◌+◌, ◌≤◌, List, [], ◌∷◌}
use Rattle.sv_types.specs.Limits.{max_modules}
use Rattle.sv_types.specs.declared.saved.ModulePlacement.{ModulePlacement}

-- each id is above the one before, from a lowest one on, and below the limit
abbrev pub AscendsFrom : ℕ → List ModulePlacement → Type 0
AscendsFrom low [] = low ≤ max_modules
AscendsFrom low (m ∷ ms) = (low ≤ m.id) × AscendsFrom (m.id + 1) ms
