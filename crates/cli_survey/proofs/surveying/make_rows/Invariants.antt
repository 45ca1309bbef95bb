use Rattle.std.proofs.Common.{◌≡◌, ◌+◌, ◌≤◌, ℕ, length, true}
use Rattle.sv_types.specs.Limits.{max_notes}
use Rattle.machine.specs.Drawing.{count_left, events_with}
use Rattle.cli_survey.specs.Advances.{GoesOver, MayGoOn}
use Rattle.cli_survey.specs.Surveys.{is_clear}
use Rattle.cli_survey.proofs.surveying.make_rows.Given as goal

abbrev pub invariant-events : goal.invariant-events
invariant-events g l = record {
  over : (later : ℕ) → MayGoOn l.initial.machine (count_left l.initial.drawing + later) (g.O.Sink.state l.initial.out) →
      GoesOver (count_left l.initial.drawing + later) (count_left l.drawing + later) (events_with later g.S.EventSource.schedule l.initial.drawing)
      (events_with later g.S.EventSource.schedule l.drawing) l.initial.machine l.machine (g.O.Sink.state l.initial.out) (g.O.Sink.state l.out);
  may : MayGoOn l.machine (count_left l.drawing) (g.O.Sink.state l.out);
  fits : length l.machine.journal.notes + count_left l.drawing ≤ max_notes;
  clear : is_clear l.machine ≡ true;
}

abbrev pub decreases-events : goal.decreases-events
decreases-events g l = count_left l.drawing
