use Rattle.std.proofs.Common.{true, refl}
use Rattle.sv_types.specs.Policies.{rules_of}
use Rattle.page_guard.proofs.Stays.{stays_same, stays_further}
use Rattle.snapshot_format.proofs.TakenLoops.{text_ends, text_goes_on}
use Rattle.snapshot_format.specs.Taking.{left_of}
use Rattle.machine.proofs.Approved.{text_free}
use Rattle.machine.proofs.resumed.guard.approve_text.Goals as goal

pub pages-init : goal.pages-init
pages-init c = (refl, stays_same c.args.mem.now c.args.guard.now c.requires.tables_match)

pub approve_unretired-requires-clause-free : goal.approve_unretired-requires-clause-free
approve_unretired-requires-clause-free c =
    text_free (rules_of c.args.policy.now) c.args.retired c.args.text.now c.pages.page-index _ c.args.guard.now.pages c.pages.guard.pages
    (left_of (rules_of c.args.policy.now) c.args.retired c.args.text.now) c.pages-test.true c.requires.free c.pages.invariant.0

pub pages-preserved : goal.pages-preserved
pages-preserved c = (
  text_goes_on (rules_of c.args.policy.now) c.args.retired c.args.text.now c.pages.page-index _ _ c.pages.guard.pages c.approve_unretired.new.guard.pages true c.pages-test.true refl
      c.approve_unretired.ensures.guard c.pages.invariant.0,
  stays_further c.args.mem.now c.pages.mem c.approve_unretired.new.mem c.args.guard.now c.pages.guard c.approve_unretired.new.guard c.pages.invariant.1 c.approve_unretired.ensures.tables_match,
)

pub returns-clause-guard : goal.returns-clause-guard
returns-clause-guard c =
    text_ends (rules_of c.args.policy.now) c.args.retired c.args.text.now c.pages.page-index _ c.pages.guard.pages c.pages-test.false c.pages.invariant.0
