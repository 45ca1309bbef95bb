use Rattle.std.proofs.Common.{List, IsTrue, subst, sym, rules, ◌∙◌, ap}
use Rattle.sv_types.specs.declared.event.Counts.{Counts}
use Rattle.sv_types.specs.declared.event.Note.{Note}
use Rattle.sv_types.specs.declared.event.Verdict.{Verdict}
use Rattle.sv_types.specs.declared.status.Status.{Status}
use Rattle.secvisor_cli.specs.Answers.{is_answer}
use Rattle.secvisor_cli.proofs.EndLemmas.{run_is_answer}
use Rattle.spec_reference.specs.Report.{report}
use Rattle.report.specs.Journals.{journal_with}
use Rattle.host_io.proofs.SinkLemmas.{prefix_whole}
use Rattle.secvisor_cli.proofs.EndLemmas.{finish_broke, finish_whole}
use Rattle.secvisor_cli.proofs.answer.finish.Goals as goal

pub returns-in_err-write_all-2-clause-writes : goal.returns-in_err-write_all-2-clause-writes
returns-in_err-write_all-2-clause-writes g c =
    let text = c.as_bytes.ensures.value ∙ c.as_str.ensures.value ∙ c.in_ok-text.ensures
    ∙ ap (λ (notes : List Note). report (journal_with notes c.verdict.result c.counts.result)) c.journal.ensures
    ∙ ap (λ (v : Verdict). report (journal_with c.args.machine.now.journal.notes v c.counts.result)) c.verdict.ensures
    ∙ ap (λ (n : Counts). report (journal_with c.args.machine.now.journal.notes c.args.machine.now.journal.verdict n)) c.counts.ensures in
    let both = finish_broke c.args.machine.now _ _ _ _ _ c.in_ok-write_all.ensures.whole c.printed.ensures c.in_err-write_all-2.ensures.failed text in
    record {
      status = search rules;
      proper = search rules;
      whole = search rules;
      prefix = both.0;
      write = λ _. both.1;
      memory = search rules;
    }

pub returns-clause-writes : goal.returns-clause-writes
returns-clause-writes g c =
    let text = c.as_bytes.ensures.value ∙ c.as_str.ensures.value ∙ c.in_ok-text.ensures
    ∙ ap (λ (notes : List Note). report (journal_with notes c.verdict.result c.counts.result)) c.journal.ensures
    ∙ ap (λ (v : Verdict). report (journal_with c.args.machine.now.journal.notes v c.counts.result)) c.verdict.ensures
    ∙ ap (λ (n : Counts). report (journal_with c.args.machine.now.journal.notes c.args.machine.now.journal.verdict n)) c.counts.ensures in
    let all = finish_whole c.args.machine.now _ _ _ _ _ c.in_ok-write_all.ensures.whole c.printed.ensures c.in_ok-write_all-2.ensures.whole text in
    record {
      status = search rules;
      proper = subst (λ (t : Status). IsTrue (is_answer t)) (sym c.status_of.ensures) (run_is_answer c.verdict-2.result);
      whole = all;
      prefix = prefix_whole _ _ _ all;
      write = search rules;
      memory = search rules;
    }
