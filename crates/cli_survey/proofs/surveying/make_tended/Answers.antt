use Rattle.std.proofs.Common.{◌∙◌, sym, arith}
use Rattle.cli_survey.proofs.AdvanceLemmas.{no_room, room_below}
use Rattle.cli_survey.proofs.RowLemmas.{row_made, step_made, told_row}
use Rattle.cli_survey.proofs.SurveyLemmas.{running_is}
use Rattle.cli_survey.proofs.surveying.make_tended.Goals as goal

pub returns-then-has_room-clause-row : goal.returns-then-has_room-clause-row
returns-then-has_room-clause-row c =
    let m = c.args.machine.now in
    let asked = c.requires.row.may.asked in
    let room = room_below m (sym c.has_room.ensures ∙ c.if-has_room.true) in
    let made = row_made 1 m c.step.new.self c.args.row.now.event c.requires.row.state (running_is m.journal.verdict c.requires.row.running)
    (step_made m c.step.new.self c.args.row.now.event c.requires.row.state c.step.ensures.stands c.step.ensures.event) in
    record { made = made; most = omega (arith, asked); told = told_row 1 m c.step.new.self c.args.row.now.event c.args.noted.now room (omega (arith, room)) made }

pub make_noted-requires-clause-full : goal.make_noted-requires-clause-full
make_noted-requires-clause-full c = no_room c.args.machine.now c.requires.kept (sym c.has_room.ensures ∙ c.if-has_room.false)
