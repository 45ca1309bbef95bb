use Rattle.std.proofs.Common.{◌≡◌, drop}
use Rattle.sv_types.specs.Policies.{rules_of}
use Rattle.sv_types.specs.declared.protection.Protection.TheVariants.{Approved}
use Rattle.page_guard.specs.Guarded.{TablesStayMatched}
use Rattle.snapshot_format.specs.Judgements.{take_pages}
use Rattle.snapshot_format.specs.Taking.{left_of}
use Rattle.machine.proofs.resumed.guard.approve_text.Given as goal

-- the rest is to be approved after those that were
abbrev pub invariant-pages : goal.invariant-pages
invariant-pages l =
    (take_pages Approved l.fn.guard.pages (left_of (rules_of l.policy) l.retired l.text) ≡ take_pages Approved l.guard.pages (left_of (rules_of l.policy) l.retired (drop l.page-index l.text)))
    × TablesStayMatched l.fn.mem l.mem l.fn.guard l.guard
