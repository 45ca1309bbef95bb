use Rattle.std.proofs.Common.{◌≡◌, drop}
use Rattle.sv_types.specs.Policies.{rules_of}
use Rattle.sv_types.specs.declared.protection.Protection.TheVariants.{Approved}
use Rattle.snapshot_format.specs.Judgements.{loaded_pages, take_pages}
use Rattle.snapshot_format.proofs.resume.pages.take_modules.Given as goal

-- the rest is to be taken after those that were
abbrev pub invariant-modules : goal.invariant-modules
invariant-modules l =
    take_pages Approved l.fn.guard (loaded_pages (rules_of l.policy) l.modules) ≡ take_pages Approved l.guard (loaded_pages (rules_of l.policy) (drop l.about-index l.modules))
