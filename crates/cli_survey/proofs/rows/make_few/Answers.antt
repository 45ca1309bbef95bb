use Rattle.std.proofs.Common.{◌∙◌, sym}
use Rattle.cli_survey.proofs.AdvanceLemmas.{clear_of}
use Rattle.cli_survey.proofs.RowLemmas.{once_made}
use Rattle.cli_survey.proofs.rows.make_few.Goals as goal

pub returns-then-is_loading-clause-made : goal.returns-then-is_loading-clause-made
returns-then-is_loading-clause-made c =
    once_made c.repeat.result c.args.machine.now c.repeat.new.self c.args.row.now.event c.repeat.ensures.some c.repeat.ensures.most c.repeat.ensures.chain c.repeat.ensures.counts

pub make_row-requires-clause-clear : goal.make_row-requires-clause-clear
make_row-requires-clause-clear c = clear_of c.args.machine.now c.requires.running (sym c.is_loading.ensures ∙ c.if-is_loading.false)
