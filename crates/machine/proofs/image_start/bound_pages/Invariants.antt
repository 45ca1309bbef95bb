use Rattle.std.proofs.Common.{◌≡◌, ◌++◌, drop, map}
use Rattle.spec_processor.specs.Bytes.{page_of}
use Rattle.machine.proofs.image_start.bound_pages.Given as goal

-- the pages so far, and those that are left
abbrev pub invariant-entries : goal.invariant-entries
invariant-entries l = l.pages.items ++ map page_of (drop l.i l.policy.bound.items) ≡ map page_of l.policy.bound.items
