use Rattle.std.proofs.Common.{◌≡◌, false}
use Rattle.std.specs.List.{list_any}
use Rattle.sv_types.specs.ApprovedPages.{numbers_from}
use Rattle.spec_reference.specs.Protections.{is_taken}
use Rattle.module_gate.proofs.places.any_taken.Given as goal

-- no page so far is taken
abbrev pub invariant-tested : goal.invariant-tested
invariant-tested l = list_any (is_taken l.guard.pages) (numbers_from l.span.first l.i) ≡ false
