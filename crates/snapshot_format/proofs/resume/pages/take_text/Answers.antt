use Rattle.sv_types.specs.Policies.{rules_of}
use Rattle.snapshot_format.proofs.TakenLoops.{text_goes_on, text_breaks, text_ends}
use Rattle.snapshot_format.proofs.resume.pages.take_text.Goals as goal

pub pages-preserved : goal.pages-preserved
pages-preserved c =
    text_goes_on (rules_of c.args.policy.now) c.args.retired c.args.text.now c.pages.page-index _ _ c.pages.guard c.take_unretired.new.guard c.take_unretired.result c.pages-test.true
    c.if-not-take_unretired.false c.take_unretired.ensures c.pages.invariant

pub returns-then-not-take_unretired : goal.returns-then-not-take_unretired
returns-then-not-take_unretired c =
    text_breaks (rules_of c.args.policy.now) c.args.retired c.args.text.now c.pages.page-index _ _ c.pages.guard c.take_unretired.new.guard c.take_unretired.result c.pages-test.true
    c.if-not-take_unretired.true c.take_unretired.ensures c.pages.invariant

pub returns : goal.returns
returns c = text_ends (rules_of c.args.policy.now) c.args.retired c.args.text.now c.pages.page-index _ c.pages.guard c.pages-test.false c.pages.invariant
