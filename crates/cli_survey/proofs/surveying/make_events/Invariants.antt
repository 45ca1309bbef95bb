use Rattle.std.proofs.Common.{◌+◌, ◌≤◌, ℕ, length}
use Rattle.sv_types.specs.Limits.{max_notes}
use Rattle.sv_types.specs.Schedule.{first_events}
use Rattle.cli_survey.specs.Advances.{GoesOver, MayGoOn}
use Rattle.cli_survey.proofs.surveying.make_events.Given as goal

abbrev pub invariant-events : goal.invariant-events
invariant-events g l = record {
  over : (later : ℕ) → MayGoOn l.initial.machine (l.events + later) (g.O.Sink.state l.initial.out) →
      GoesOver (l.events + later) (l.fit + l.rest + later) (first_events (l.events + later) (g.S.EventSource.schedule l.initial.source))
      (first_events (l.fit + l.rest + later) (g.S.EventSource.schedule l.source)) l.initial.machine l.machine (g.O.Sink.state l.initial.out) (g.O.Sink.state l.out);
  may : MayGoOn l.machine (l.fit + l.rest) (g.O.Sink.state l.out);
  fits : length l.machine.journal.notes + l.fit ≤ max_notes;
}

abbrev pub decreases-events : goal.decreases-events
decreases-events g l = l.fit
