use Rattle.std.proofs.Common.{sym, ◌∙◌, map, string_bytes}
use Rattle.cli_plans.specs.CommandLine.{survey_judged}
use Rattle.cli_survey.proofs.AnswerLemmas.{keeps_files, unread, writes}
use Rattle.cli_survey.proofs.FaultLemmas.{survey_fault}
use Rattle.cli_survey.proofs.answer.secvisor_survey.Goals as goal

pub returns-clause-headline : goal.returns-clause-headline
returns-clause-headline g c = record { result = c.answer.result; performs = c.answer.ensures; status = c.status_of_end.ensures }

pub returns-clause-read_fault : goal.returns-clause-read_fault
returns-clause-read_fault g c = λ is. survey_fault (map string_bytes c.args.words.now) _ _ _ c.answer.ensures (sym c.status_of_end.ensures ∙ is)

pub returns-clause-same : goal.returns-clause-same
returns-clause-same g c = let k = keeps_files _ _ _ _ c.answer.ensures in (k.held, k.saves)

pub returns-clause-unread : goal.returns-clause-unread
returns-clause-unread g c = λ refused. unread (survey_judged (map string_bytes c.args.words.now)) _ _ _ refused c.answer.ensures

pub returns-clause-reads : goal.returns-clause-reads
returns-clause-reads g c = (keeps_files _ _ _ _ c.answer.ensures).reads

pub returns-clause-writes : goal.returns-clause-writes
returns-clause-writes g c = writes _ _ _ _ c.answer.ensures
