use Rattle.std.proofs.Common.{◌≡◌, ◌∙◌, ap}
use Rattle.std.specs.Prelude.{Some, Option, option_map}
use Rattle.report.specs.Findings.{FoundByNotes, with_notes}
use Rattle.report.specs.Views.{notes_view}
use Rattle.cli_survey.proofs.RowLemmas.{told_apart}
use Rattle.cli_survey.proofs.noting.make_noted.Goals as goal

pub returns-clause-row : goal.returns-clause-row
returns-clause-row c =
    let m = c.args.machine.now in
    let begun : c.keep_found.new.noted ≡ Some (notes_view c.args.noted.now m.journal.notes) =
    c.in_ok-keep_found.ensures ∙ ap (λ notes. Some (notes_view c.args.noted.now notes)) c.journal.ensures in
    let found : c.add_found.new.noted ≡ Some (with_notes (notes_view c.args.noted.now m.journal.notes) c.make_apart-made.new.spare) =
    c.add_found.ensures ∙ ap (λ (x : Option FoundByNotes). option_map (λ f. with_notes f c.items.result.now) x) begun
    ∙ ap (λ notes. Some (with_notes (notes_view c.args.noted.now m.journal.notes) notes)) c.items.ensures in
    record {
      made = c.make_apart-made.ensures.made;
      most = c.make_apart-made.ensures.most;
      told = told_apart c.make_apart-made.result m c.make_apart-made.new.machine c.args.row.now.event c.args.noted.now c.add_found.new.noted c.make_apart-made.new.spare
          c.requires.full c.make_apart-made.ensures.kept found c.make_apart-made.ensures.noted;
    }
