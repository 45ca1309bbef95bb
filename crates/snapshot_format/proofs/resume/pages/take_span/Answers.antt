use Rattle.std.proofs.Common.{ℕ, ◌+◌, [], ◌∷◌, ap, subst}
use Rattle.snapshot_format.specs.Judgements.{take_pages}
use Rattle.snapshot_format.specs.Taking.{Takes}
use Rattle.snapshot_format.proofs.TakenLoops.{span_begins, span_goes_on, span_breaks, span_ends}
use Rattle.snapshot_format.proofs.resume.pages.take_span.Goals as goal

pub pages-init : goal.pages-init
pages-init c = ap (take_pages c.args.protection c.args.guard.now) (span_begins c.args.first c.args.count)

pub pages-preserved : goal.pages-preserved
pages-preserved c =
    span_goes_on c.args.protection _ c.pages.guard c.take_page.new.guard c.args.first c.args.count c.pages.i c.take_page.result c.pages-test.true c.if-not-take_page.false
    (subst (λ (n : ℕ). Takes c.args.protection c.pages.guard c.take_page.new.guard ((c.args.first + n) ∷ []) c.take_page.result) c.from.ensures c.take_page.ensures)
    c.pages.invariant

pub returns-then-not-take_page : goal.returns-then-not-take_page
returns-then-not-take_page c =
    span_breaks c.args.protection _ c.pages.guard c.take_page.new.guard c.args.first c.args.count c.pages.i c.take_page.result c.pages-test.true c.if-not-take_page.true
    (subst (λ (n : ℕ). Takes c.args.protection c.pages.guard c.take_page.new.guard ((c.args.first + n) ∷ []) c.take_page.result) c.from.ensures c.take_page.ensures)
    c.pages.invariant

pub returns : goal.returns
returns c = span_ends c.args.protection _ c.pages.guard c.args.first c.args.count c.pages.i c.pages-test.false c.pages.invariant
