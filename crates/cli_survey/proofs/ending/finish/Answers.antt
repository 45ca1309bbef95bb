use Rattle.std.proofs.Common.{◌≡◌, ◌++◌, ◌∙◌, ℕ, List, ap, sym, subst, IsTrue}
use Rattle.sv_types.specs.declared.event.Verdict.{Verdict}
use Rattle.sv_types.specs.declared.status.Status.{Status}
use Rattle.spec_reference.specs.Report.{report}
use Rattle.host_io.specs.declared.trouble.Trouble.TheVariants.{Write}
use Rattle.secvisor_cli.specs.Answers.{Writes as WritesAll, is_answer}
use Rattle.secvisor_cli.proofs.ReadyLemmas.{err_by}
use Rattle.cli_survey.specs.SurveyAnswers.{lines_found, survey_status}
use Rattle.cli_survey.proofs.EndLemmas.{survey_is_answer, two_broken, two_written}
use Rattle.cli_survey.proofs.ending.finish.Goals as goal

pub returns-in_err-write_all-2-clause-writes : goal.returns-in_err-write_all-2-clause-writes
returns-in_err-write_all-2-clause-writes g c =
    let lines = lines_found c.args.kernel.now.bytes.items c.args.machine.now c.args.found.now in
    let found : c.in_ok-lines.lines.items ≡ lines = c.in_ok-lines.ensures in
    let text : c.deref-2.result.now ≡ lines ++ report c.args.machine.now.journal =
    c.deref-2.ensures.value ∙ c.in_ok-text.ensures ∙ ap (λ (l : List ℕ). l ++ report c.args.machine.now.journal) found in
    err_by _ Write
    (λ r. WritesAll (survey_status lines c.args.machine.now.journal.verdict) (c.args.machine.now.journal.printed ++ (lines ++ report c.args.machine.now.journal))
    (g.O.Sink.state c.args.out.now) (g.O.Sink.state c.write_all-2.new.out) r)
    c.from_residual-in_err-write_all-2.ensures.1
    (two_broken _ _ _ _ _ _ _ _ c.printed.ensures text c.in_ok-write_all.ensures.whole c.in_err-write_all-2.ensures.failed)

pub returns-clause-writes : goal.returns-clause-writes
returns-clause-writes g c =
    let lines = lines_found c.args.kernel.now.bytes.items c.args.machine.now c.args.found.now in
    let found : c.in_ok-lines.lines.items ≡ lines = c.in_ok-lines.ensures in
    let text : c.deref-2.result.now ≡ lines ++ report c.args.machine.now.journal =
    c.deref-2.ensures.value ∙ c.in_ok-text.ensures ∙ ap (λ (l : List ℕ). l ++ report c.args.machine.now.journal) found in
    let due : c.status_with-status.result ≡ survey_status lines c.args.machine.now.journal.verdict =
    c.status_with-status.ensures ∙ ap (λ (l : List ℕ). survey_status l c.verdict.result) (c.deref.ensures.value ∙ found) ∙ ap (λ (v : Verdict). survey_status lines v) c.verdict.ensures in
    two_written _ _ _ _ _ _ _ _ _ c.printed.ensures text c.in_ok-write_all.ensures.whole c.in_ok-write_all-2.ensures.whole due
    (subst (λ (s : Status). IsTrue (is_answer s)) (sym due) (survey_is_answer lines c.args.machine.now.journal.verdict))
