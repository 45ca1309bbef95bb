use Rattle.std.proofs.Common.{◌∙◌, sym, arith}
use Rattle.machine.proofs.Standing.{verdict_is}
use Rattle.cli_survey.proofs.LookLemmas.{on_any}
use Rattle.cli_survey.proofs.SurveyLemmas.{running_is}
use Rattle.cli_survey.proofs.surveying.look_and_make.Goals as goal

pub look-requires-clause-turns : goal.look-requires-clause-turns
look-requires-clause-turns c =
    let turns = c.requires.row.may.counts.turns in
    let asked = c.requires.row.may.asked in
    omega (arith, turns, asked)

pub returns-clause-looked : goal.returns-clause-looked
returns-clause-looked c = on_any c.make_tended.result (λ r stands.
    c.in_ok-look.ensures r stands (sym (verdict_is c.args.machine.now r stands) ∙ running_is c.args.machine.now.journal.verdict c.requires.row.running))
