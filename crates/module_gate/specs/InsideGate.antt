-- What the gate's fields stand for, and what is true of them.
use Rattle.std.specs.Prelude.{◌≤◌, vec_capacity}
use Rattle.module_gate.specs.Ascending.{AscendsFrom}
use Rattle.module_gate.specs.Gates.{Records}
use Rattle.module_gate.specs.declared.gate.Gate.TheInside.{Inside}
use Rattle.sv_types.specs.Limits.{max_modules, max_module_pages}

abbrev pub records_of : Inside → Records
records_of g = record { loaded = g.loaded.items; digests = g.digests.items; retired = g.retired }

-- there is room for every module of a policy, and for the digests of a module's pages
pub record IsSoundGate (g : Inside) : Type 0 where
  pub ascends : AscendsFrom 0 g.loaded.items
  pub modules : max_modules ≤ vec_capacity g.loaded
  pub digests : max_module_pages ≤ vec_capacity g.digests
