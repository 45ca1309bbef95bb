use Rattle.std.proofs.Common.{◌≡◌, ◌≢◌, ◌<◌, ◌-◌, ◌+◌, ◌++◌, IsTrue, replicate, ap, subst, sym, ◌∙◌, length, arith}
use Rattle.sv_types.specs.Limits.{max_events}
use Rattle.sv_types.specs.declared.event.Verdict.TheVariants.{Running}
use Rattle.host_io.specs.Outside.{SinkState}
use Rattle.host_io.proofs.SinkLemmas.{on_err}
use Rattle.sv_types.specs.Schedule.{first_events}
use Rattle.script.specs.declared.event_run.EventRun.{EventRun}
use Rattle.machine.specs.Limits.{max_counts}
use Rattle.machine.proofs.DrawnBatches.{used_none}
use Rattle.machine.proofs.Repeated.{counts_within}
use Rattle.machine.specs.Console.{flush_is_due, HasTaken, RunBrokeFromStart}
use Rattle.machine.specs.Drawing.{count_left, events_with, IsAtHand}
use Rattle.machine.proofs.ConsoleLemmas.{RunsOn, runs_none, runs_more, runs_broke, ran_ended, ran_all, taken_none, taken_more, state_after, flushed_counts, room_again}
use Rattle.machine.proofs.running.run_in_batches.Goals as goal

pub events-init : goal.events-init
events-init g c =
    let asked = c.new-drawing.ensures.count in
    let all = c.of-left.ensures.all in
    let later = c.of-left.result.later in
    record {
      on = λ start new. runs_none _ start _ _ _
          (c.new-drawing.ensures.further later ∙ ap (λ n. first_events n (g.S.EventSource.schedule c.args.source)) all) new;
      has = c.requires.state;
      taken = taken_none _;
      few = omega (arith, asked, all);
      some = λ used.
          let none = used_none c.new-drawing.result.batch.count c.new-drawing.result.undrawn used in
          c.of-left.ensures.none (omega (arith, none, asked));
      counts = counts_within max_events _ c.args.machine.now.journal.counts (omega arith) c.requires.counts;
      room = omega (arith, ap length c.requires.console);
      rest = ap flush_is_due c.requires.console;
    }

pub returns-then-ne-clause-all : goal.returns-then-ne-clause-all
returns-then-ne-clause-all g c =
    let ended : c.events.machine.journal.verdict ≢ Running = λ is. grind (arith, is) in
    record {
      ran = λ start new. ran_ended _ start _ _ _ _ _ (c.events.invariant.on start new) ended;
      taken = c.events.invariant.taken;
      room = c.events.invariant.room;
      rest = c.events.invariant.rest;
    }

pub repeat-made-requires-clause-few : goal.repeat-made-requires-clause-few
repeat-made-requires-clause-few g c =
    let hand : IsAtHand g.S.EventSource.schedule c.events.drawing c.draw.new.self c.in-Some.batch = c.in-Some.ensures.batch in
    let all : c.in-Some.batch.count + c.draw.new.self.undrawn ≡ c.events.drawing.batch.count + c.events.drawing.undrawn =
    ap (λ (r : EventRun). r.count + c.draw.new.self.undrawn) hand.row_is ∙ hand.count in
    omega (arith, all, c.events.invariant.few, c.requires.few)

pub repeat-made-requires-clause-counts : goal.repeat-made-requires-clause-counts
repeat-made-requires-clause-counts g c =
    let hand : IsAtHand g.S.EventSource.schedule c.events.drawing c.draw.new.self c.in-Some.batch = c.in-Some.ensures.batch in
    let all : c.in-Some.batch.count + c.draw.new.self.undrawn ≡ c.events.drawing.batch.count + c.events.drawing.undrawn =
    ap (λ (r : EventRun). r.count + c.draw.new.self.undrawn) hand.row_is ∙ hand.count in
    counts_within (max_events + (c.args.events - (count_left c.events.drawing + c.events.later))) (max_counts - c.in-Some.batch.count) c.events.machine.journal.counts
    (omega (arith, all, c.events.invariant.few, c.requires.few))
    c.events.invariant.counts

pub flush_due-requires : goal.flush_due-requires
flush_due-requires g c = record {
  sink = record {
    is_open = subst (λ b. IsTrue b) (sym (ap (λ (s : SinkState). s.is_open) c.events.invariant.taken.taken)) c.requires.sink.is_open;
    count = subst (λ n. n < 18446744073709551615) (sym (ap (λ (s : SinkState). s.faults) c.events.invariant.taken.taken)) c.requires.sink.count;
  };
  room = room_again c.repeat-made.result c.events.machine c.repeat-made.new.self c.in-Some.batch.event c.events.invariant.has c.repeat-made.ensures.chain c.events.invariant.room;
}

pub draw_on-later-requires : goal.draw_on-later-requires
draw_on-later-requires g c =
    let hand : IsAtHand g.S.EventSource.schedule c.events.drawing c.draw.new.self c.in-Some.batch = c.in-Some.ensures.batch in
    let fewer : c.count_down.new.self.batch.count + c.count_down.new.self.undrawn + c.repeat-made.result ≡
    c.events.drawing.batch.count + c.events.drawing.undrawn = c.count_down.ensures.count ∙ hand.count in
    omega (arith, fewer, c.events.invariant.few, c.requires.few)

pub returns-in_err-flush_due-clause-some : goal.returns-in_err-flush_due-clause-some
returns-in_err-flush_due-clause-some g c =
    let hand : IsAtHand g.S.EventSource.schedule c.events.drawing c.draw.new.self c.in-Some.batch = c.in-Some.ensures.batch in
    let later = c.events.later in
    let parts : events_with later g.S.EventSource.schedule c.events.drawing ≡
    replicate c.repeat-made.result c.in-Some.batch.event ++ events_with later g.S.EventSource.schedule c.count_down.new.self =
    sym (c.in-Some.ensures.further later) ∙ c.count_down.ensures.further later
    ∙ ap (λ (r : EventRun). replicate c.repeat-made.result r.event ++ events_with later g.S.EventSource.schedule c.count_down.new.self) (sym hand.row_is) in
    let room = room_again c.repeat-made.result c.events.machine c.repeat-made.new.self c.in-Some.batch.event c.events.invariant.has c.repeat-made.ensures.chain c.events.invariant.room in
    let broke : RunBrokeFromStart c.args.machine.now (first_events c.args.events (g.S.EventSource.schedule c.args.source)) c.flush_due.new.machine
    (g.O.Sink.state c.args.out.now) (g.O.Sink.state c.flush_due.new.out) =
    λ start new. runs_broke c.repeat-made.result _ start _ (events_with later g.S.EventSource.schedule c.events.drawing) (events_with later g.S.EventSource.schedule c.count_down.new.self)
    c.events.machine c.repeat-made.new.self c.flush_due.new.machine
    c.in-Some.batch.event _ _ _ c.repeat-made.ensures.some c.events.invariant.rest (c.events.invariant.on start new) parts c.repeat-made.ensures.chain
    c.in_err-flush_due.ensures.machine room c.in_err-flush_due.ensures.due c.in_err-flush_due.ensures.failed in
    on_err _ _ broke

pub events-preserved : goal.events-preserved
events-preserved g c =
    let hand : IsAtHand g.S.EventSource.schedule c.events.drawing c.draw.new.self c.in-Some.batch = c.in-Some.ensures.batch in
    let later = c.events.later in
    let next = c.draw_on-later.result in
    let parts : events_with later g.S.EventSource.schedule c.events.drawing ≡
    replicate c.repeat-made.result c.in-Some.batch.event ++ events_with next g.S.EventSource.schedule c.draw_on-later.new.drawing =
    sym (c.in-Some.ensures.further later) ∙ c.count_down.ensures.further later
    ∙ ap (λ (r : EventRun). replicate c.repeat-made.result r.event ++ events_with later g.S.EventSource.schedule c.count_down.new.self) (sym hand.row_is)
    ∙ ap (λ events. replicate c.repeat-made.result c.in-Some.batch.event ++ events) (sym c.draw_on-later.ensures.left) in
    let fewer : c.count_down.new.self.batch.count + c.count_down.new.self.undrawn + c.repeat-made.result ≡
    c.events.drawing.batch.count + c.events.drawing.undrawn = c.count_down.ensures.count ∙ hand.count in
    let on = c.draw_on-later.ensures.count in
    let before = c.events.invariant.few in
    let flushed = c.in_ok-flush_due.ensures.flushed in
    let sink = c.draw_on-later.ensures.sink in
    record {
      on = λ start new. subst (λ k. RunsOn c.args.machine.now start (first_events c.args.events (g.S.EventSource.schedule c.args.source))
          (events_with next g.S.EventSource.schedule c.draw_on-later.new.drawing) c.flush_due.new.machine (g.O.Sink.state c.args.out.now) k) (sym sink)
          (runs_more c.repeat-made.result _ start _ (events_with later g.S.EventSource.schedule c.events.drawing)
          (events_with next g.S.EventSource.schedule c.draw_on-later.new.drawing) c.events.machine c.repeat-made.new.self c.flush_due.new.machine
          c.in-Some.batch.event _ _ _ c.repeat-made.ensures.some (c.events.invariant.on start new) parts c.repeat-made.ensures.chain flushed);
      has = state_after c.repeat-made.result c.events.machine c.repeat-made.new.self c.flush_due.new.machine c.in-Some.batch.event _ _ c.events.invariant.has c.repeat-made.ensures.chain flushed;
      taken = subst (λ k. HasTaken (g.O.Sink.state c.args.out.now) k) (sym sink)
          (taken_more _ c.repeat-made.new.self c.flush_due.new.machine _ _ c.events.invariant.taken flushed);
      few = omega (arith, fewer, before, on);
      some = c.draw_on-later.ensures.some;
      counts = flushed_counts (max_events + (c.args.events - (count_left c.draw_on-later.new.drawing + next))) c.repeat-made.new.self c.flush_due.new.machine _ _
          (counts_within (max_events + (c.args.events - (count_left c.events.drawing + later)) + c.repeat-made.result)
          (max_events + (c.args.events - (count_left c.draw_on-later.new.drawing + next))) c.repeat-made.new.self.journal.counts
          (omega (arith, fewer, before, on)) (c.repeat-made.ensures.counts (max_events + (c.args.events - (count_left c.events.drawing + later))) c.events.invariant.counts)) flushed;
      room = c.in_ok-flush_due.ensures.room;
      rest = c.in_ok-flush_due.ensures.rest;
    }

pub returns-clause-all : goal.returns-clause-all
returns-clause-all g c =
    record {
      ran = λ start new. ran_all _ start _ _ _ _ _ (c.events.invariant.on start new) (c.draw.ensures.end c.in_default.is c.events.later c.events.invariant.some);
      taken = c.events.invariant.taken;
      room = c.events.invariant.room;
      rest = c.events.invariant.rest;
    }
