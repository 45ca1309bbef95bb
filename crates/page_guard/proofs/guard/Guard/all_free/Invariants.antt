use Rattle.std.proofs.Common.{◌≡◌, not}
use Rattle.std.specs.Prelude.{find, None}
use Rattle.sv_types.specs.ApprovedPages.{numbers_from}
use Rattle.spec_reference.specs.Protections.{protection_at}
use Rattle.sv_types.specs.Protections.{is_free}
use Rattle.page_guard.proofs.guard.Guard.all_free.Given as goal

-- no page so far is taken
abbrev pub invariant-tested : goal.invariant-tested
invariant-tested l = find (λ page. not (is_free (protection_at l.self.pages page))) (numbers_from l.span.first l.i) ≡ None
