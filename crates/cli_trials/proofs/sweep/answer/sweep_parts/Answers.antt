use Rattle.std.proofs.Common.{List, refl, subst}
use Rattle.script_lines.specs.declared.tally.outcome.Outcome.{Outcome}
use Rattle.script_lines.specs.declared.tally.tally.Tally.{Tally}
use Rattle.script_lines.specs.TallyLines as lines
use Rattle.cli_plans.specs.Words.{sweep_value}
use Rattle.cli_trials.specs.Writing.{WritesAll}
use Rattle.cli_trials.proofs.AnswerLemmas.{Borrows, entries_same}
use Rattle.cli_trials.proofs.sweep.answer.sweep_parts.Goals as goal

pub returns-in-Ok : goal.returns-in-Ok
returns-in-Ok g c = λ rules reads.
    let parts = c.args.parts.now in
    let borrows : Borrows _ parts.policy.items parts.image.items parts.disk.items =
    record { text_is = c.files.ensures.policy; file_is = c.files.ensures.image; disk_is = c.files.ensures.disk } in
    subst (λ (entries : List (Outcome × Tally)). WritesAll (lines.sweep_status entries) (lines.sweep_text entries) (g.O.Sink.state c.args.out.now)
    (g.O.Sink.state c.write_tallies.new.out) c.write_tallies.result)
    (entries_same _ (sweep_value c.args.asked.now) rules _ _ _ _ refl refl borrows reads c.in-Ok.ensures.swept) c.write_tallies.ensures
