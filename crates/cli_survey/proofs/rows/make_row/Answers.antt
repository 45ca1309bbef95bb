use Rattle.std.proofs.Common.{inr}
use Rattle.machine.proofs.Repeated.{rows_repeat}
use Rattle.cli_survey.proofs.LookLemmas.{row_refuses}
use Rattle.cli_survey.proofs.RowLemmas.{once_made}
use Rattle.cli_survey.proofs.SurveyLemmas.{running_is}
use Rattle.cli_survey.proofs.AdvanceLemmas.{clear_running, clear_unloaded}
use Rattle.cli_survey.proofs.rows.make_row.Goals as goal

pub returns-then-count-eq1-clause-made : goal.returns-then-count-eq1-clause-made
returns-then-count-eq1-clause-made g c =
    once_made c.repeat.result c.args.machine.now c.repeat.new.self c.args.event c.repeat.ensures.some c.repeat.ensures.most c.repeat.ensures.chain c.repeat.ensures.counts

pub returns-clause-made : goal.returns-clause-made
returns-clause-made g c = record {
  some = c.repeat_to_load.ensures.some;
  chain = rows_repeat c.repeat_to_load.result c.args.machine.now c.repeat_to_load.new.self c.args.event c.repeat_to_load.ensures.chain;
  refuses = λ r stands.
      row_refuses c.repeat_to_load.result c.args.count c.args.machine.now c.repeat_to_load.new.self c.args.event r stands
      (running_is c.args.machine.now.journal.verdict (clear_running c.args.machine.now c.requires.clear)) c.repeat_to_load.ensures.some c.repeat_to_load.ensures.most
      (inr (clear_unloaded c.args.machine.now c.requires.clear)) c.repeat_to_load.ensures.chain;
  counts = c.repeat_to_load.ensures.counts;
}
