use Rattle.std.proofs.Common.{◌≡◌, ◌∙◌, List, [], ap, subst, sym, true}
use Rattle.sv_types.specs.declared.event.Note.{Note}
use Rattle.spec_hardware.specs.Machine.{Machine}
use Rattle.machine.specs.Noting.{hw_noting}
use Rattle.machine.specs.Repeats.{MayMake}
use Rattle.cli_survey.specs.Advances.{IsRepeated, IsRowMade}
use Rattle.cli_survey.specs.Surveys.{is_running}
use Rattle.cli_survey.proofs.RowLemmas.{may_apart, notes_apart, row_apart}
use Rattle.cli_survey.proofs.SurveyLemmas.{running_is}
use Rattle.cli_survey.proofs.noting.make_apart.Goals as goal

pub make_few-made-requires-clause-may : goal.make_few-made-requires-clause-may
make_few-made-requires-clause-may c =
    subst (λ (x : Machine). MayMake x c.args.row.now.count) (sym c.swap_notes.ensures.kept) (may_apart c.args.spare.now c.args.row.now.count c.args.machine.now c.requires.row.may)

pub make_few-made-requires-clause-running : goal.make_few-made-requires-clause-running
make_few-made-requires-clause-running c = subst (λ (x : Machine). is_running x.journal.verdict ≡ true) (sym c.swap_notes.ensures.kept) c.requires.row.running

pub returns-clause-made : goal.returns-clause-made
returns-clause-made c =
    let m = c.args.machine.now in
    let next = c.make_few-made.new.machine in
    let apart : c.swap_notes.new.self ≡ hw_noting [] m = c.swap_notes.ensures.kept ∙ ap (λ (notes : List Note). hw_noting notes m) c.requires.spare in
    let again : c.swap_notes-2.new.self ≡ hw_noting m.journal.notes next =
    c.swap_notes-2.ensures.kept ∙ ap (λ (notes : List Note). hw_noting notes next) c.swap_notes.ensures.taken in
    subst (λ (x : Machine). IsRowMade m c.args.row.now.event c.make_few-made.result x) (sym again)
    (row_apart c.make_few-made.result m next c.args.row.now.event c.requires.full c.requires.row.state (running_is m.journal.verdict c.requires.row.running)
    (subst (λ (x : Machine). IsRepeated x c.args.row.now.event c.make_few-made.result next) apart c.make_few-made.ensures.made))

pub returns-clause-kept : goal.returns-clause-kept
returns-clause-kept c = ap (λ (x : Machine). x.journal.notes) c.swap_notes-2.ensures.kept ∙ c.swap_notes.ensures.taken

pub returns-clause-noted : goal.returns-clause-noted
returns-clause-noted c = λ r stands.
    let m = c.args.machine.now in
    let apart : c.swap_notes.new.self ≡ hw_noting [] m = c.swap_notes.ensures.kept ∙ ap (λ (notes : List Note). hw_noting notes m) c.requires.spare in
    c.swap_notes-2.ensures.taken
    ∙ notes_apart c.make_few-made.result m c.make_few-made.new.machine c.args.row.now.event r c.make_few-made.ensures.few (running_is m.journal.verdict c.requires.row.running)
    (subst (λ (x : Machine). IsRepeated x c.args.row.now.event c.make_few-made.result c.make_few-made.new.machine) apart c.make_few-made.ensures.made) stands
