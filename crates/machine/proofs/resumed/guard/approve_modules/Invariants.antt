use Rattle.std.proofs.Common.{◌≡◌, drop}
use Rattle.sv_types.specs.Policies.{rules_of}
use Rattle.sv_types.specs.declared.protection.Protection.TheVariants.{Approved}
use Rattle.page_guard.specs.Guarded.{TablesStayMatched}
use Rattle.snapshot_format.specs.Judgements.{loaded_pages, take_pages}
use Rattle.machine.proofs.resumed.guard.approve_modules.Given as goal

-- the rest is to be approved after those that were
abbrev pub invariant-modules : goal.invariant-modules
invariant-modules l =
    (take_pages Approved l.fn.guard.pages (loaded_pages (rules_of l.policy) l.modules) ≡ take_pages Approved l.guard.pages (loaded_pages (rules_of l.policy) (drop l.about-index l.modules)))
    × TablesStayMatched l.fn.mem l.mem l.fn.guard l.guard
