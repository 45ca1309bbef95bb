use Rattle.std.proofs.Common.{◌-◌}
use Rattle.secvisor_core.proofs.Walk.{IsWalk}
use Rattle.secvisor_core.proofs.boot.owners.claim_pages.Given as goal

-- the pages so far are claimed
abbrev pub invariant-pages : goal.invariant-pages
invariant-pages l = IsWalk l.range.first l.range.end l.number l.fn.owners l.fn.skips l.owners l.skips l.page

abbrev pub decreases-pages : goal.decreases-pages
decreases-pages l = l.range.end - l.page
