-- What the types of a policy's fields give. This project's own.
use Rattle.std.specs.Prelude.{◌≡◌, ◌^◌, ◌<◌, ℕ, true, List, length}
use Rattle.std.specs.List.{All}
use Rattle.hex.specs.Hex.{IsBytes}
use Rattle.sv_types.specs.Measure.{digest_size}
use Rattle.sv_types.specs.Policies.{Rules, ModuleRule}
use Rattle.sv_types.specs.declared.policy.Export.{Export}
use Rattle.sv_types.specs.Names.{name_within}

abbrev pub IsAddress : ℕ → Type 0
IsAddress address = address < 2 ^ 64

abbrev pub IsDigest : List ℕ → Type 0
IsDigest bytes = (length bytes ≡ digest_size) × IsBytes bytes

pub record IsExport (export : Export) : Type 0 where
  pub name : name_within export.name ≡ true
  pub addr : IsAddress export.addr

pub record IsModule (m : ModuleRule) : Type 0 where
  pub name : name_within m.name ≡ true
  pub measure : IsDigest m.measure

-- the values are those of a policy's types
pub record IsPolicy (r : Rules) : Type 0 where
  pub entries : All IsAddress r.entries
  pub exports : All IsExport r.exports
  pub kernel : IsDigest r.kernel
  pub modules : All IsModule r.modules
