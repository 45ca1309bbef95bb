use Rattle.snapshot_format.proofs.SameProtections.{pairs_go_on, pairs_break, pairs_end}
use Rattle.snapshot_format.proofs.resume.pages.are_pairs_same.Goals as goal

pub pages-preserved : goal.pages-preserved
pages-preserved c =
    pairs_go_on c.args.ones.now c.args.others.now c.pages.page _ _ c.is_same.result _ c.requires c.pages-test.true c.if-not-is_same.false c.is_same.ensures c.pages.invariant

pub returns-then-not-is_same : goal.returns-then-not-is_same
returns-then-not-is_same c =
    pairs_break c.args.ones.now c.args.others.now c.pages.page _ _ c.is_same.result _ c.requires c.pages-test.true c.if-not-is_same.true c.is_same.ensures c.pages.invariant

pub returns : goal.returns
returns c = pairs_end c.args.ones.now c.args.others.now c.pages.page _ c.requires c.pages-test.false c.pages.invariant
