-- The names of the exports that were read so far.
use Rattle.std.specs.Prelude.{◌≡◌, ℕ, List, String}
use Rattle.std.specs.BTreeSet.{BTreeSet, contains_text}
use Rattle.std.specs.declared.alloc.Global.{Global}
use Rattle.sv_types.specs.Policies.{is_exported}
use Rattle.sv_types.specs.declared.policy.Export.{Export}

-- the set has a name where one of the exports has it
abbrev pub HasNames : BTreeSet (String Global) → List Export → Type 0
HasNames names exports = (name : List ℕ) → contains_text names name ≡ is_exported name exports
