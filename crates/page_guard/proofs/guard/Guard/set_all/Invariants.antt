use Rattle.std.proofs.Common.{◌≡◌}
use Rattle.spec_reference.specs.Protections.{with_pages}
use Rattle.page_guard.specs.Guarded.{TablesStayMatched}
use Rattle.page_guard.proofs.guard.Guard.set_all.Given as goal

-- the pages so far have the protection
abbrev pub invariant-changed : goal.invariant-changed
invariant-changed l =
    (l.self.pages ≡ with_pages l.fn.self.pages l.span.first l.i l.protection)
    × TablesStayMatched l.fn.mem l.mem l.fn.self l.self
