use Rattle.std.proofs.Common.{◌∙◌, ◌+◌, ap}
use Rattle.std.proofs.lemmas.Result.{on_ok_weaker}
use Rattle.cli_snap.proofs.PageLists.{one_page, last_next, last_line}
use Rattle.cli_snap.proofs.show.pages.push_runs.Goals as goal

pub pages-preserved : goal.pages-preserved
pages-preserved c = (
  one_page c.pages.run _ c.args.rest.now c.pages.page-index _ _ _ _ c.pages-test.true c.pages.invariant.0 c.in_ok-push_ended.ensures c.next_run-run.ensures,
  ap (λ r. r.last) c.next_run-run.ensures ∙ last_next c.pages.run _ ∙ ap (λ n. n + 1) c.pages.invariant.1,
)

pub returns : goal.returns
returns c =
    on_ok_weaker c.push_run.result
    (λ pushed. last_line c.pages.run c.args.rest.now c.pages.page-index _ _ _ c.pages-test.false c.pages.invariant.0 pushed)
    c.push_run.ensures
