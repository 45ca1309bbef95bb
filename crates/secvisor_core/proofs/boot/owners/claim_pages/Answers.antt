use Rattle.std.proofs.Common.{ap, slice_set}
use Rattle.secvisor_core.proofs.Walk.{next_page}
use Rattle.secvisor_core.proofs.boot.owners.claim_pages.Goals as goal

pub pages-preserved : goal.pages-preserved
pages-preserved c =
    let range = c.whole_range-range.result in
    next_page range.first range.end c.args.number c.args.owners.now c.args.skips.now c.pages.owners c.pages.skips c.claim_page.new.owners
    (slice_set c.pages.skips c.pages.page c.max.result) c.pages.page c.max-next.result
    c.requires.number c.whole_range-range.ensures.within c.requires.skips c.requires.owned c.pages-test.true c.pages.invariant
    c.max-next.ensures c.claim_page.ensures.size c.claim_page.ensures.owners (ap (slice_set c.pages.skips c.pages.page) c.max.ensures)
