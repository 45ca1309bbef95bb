use Rattle.std.proofs.Common.{◌≡◌}
use Rattle.sv_types.specs.Policies.{rules_of}
use Rattle.spec_reference.specs.Protections.{freed_by}
use Rattle.page_guard.specs.Guarded.{TablesStayMatched}
use Rattle.module_gate.specs.Retiring.{is_kernels}
use Rattle.module_gate.proofs.init.free_pages.Given as goal

-- the pages so far are freed
abbrev pub invariant-pages : goal.invariant-pages
invariant-pages l =
    (l.guard.pages ≡ freed_by (is_kernels (rules_of l.policy) l.loaded) l.fn.guard.pages l.span.first l.i)
    × TablesStayMatched l.fn.mem l.mem l.fn.guard l.guard
