use Rattle.std.proofs.Common.{◌≡◌, ◌≢◌, ◌<◌, ◌-◌, ◌+◌, ◌∙◌, IsTrue, ap, refl, subst, sym, length, arith}
use Rattle.sv_types.specs.Limits.{max_events}
use Rattle.sv_types.specs.declared.event.Verdict.TheVariants.{Running}
use Rattle.sv_types.specs.Schedule.{first_events}
use Rattle.host_io.specs.Outside.{SinkState}
use Rattle.host_io.proofs.SinkLemmas.{on_err}
use Rattle.script.specs.declared.event_run.EventRun.{EventRun}
use Rattle.script.proofs.EventRuns.{begins_once}
use Rattle.script.proofs.FirstEvents.{begun_none}
use Rattle.machine.proofs.Repeated.{counts_within}
use Rattle.machine.specs.Console.{flush_is_due, HasTaken, RunBrokeFromStart}
use Rattle.machine.proofs.ConsoleLemmas.{RunsOn, runs_none, runs_more, runs_broke, ran_ended, ran_all, taken_none, taken_more, state_after, flushed_counts, room_again}
use Rattle.machine.proofs.DrawnBatches.{none_left, one_drawn}
use Rattle.machine.proofs.running.run_one_by_one.Goals as goal

pub events-init : goal.events-init
events-init g c = record {
  on = λ start new. runs_none _ start _ _ _ (ap (λ n. first_events n (g.S.EventSource.schedule c.args.source)) c.of-left.ensures.all) new;
  has = c.requires.state;
  taken = taken_none _;
  few = omega (arith, c.of-left.ensures.all);
  counts = counts_within max_events _ c.args.machine.now.journal.counts (omega arith) c.requires.counts;
  room = omega (arith, ap length c.requires.console);
  rest = ap flush_is_due c.requires.console;
}

pub returns-then-ne-clause-all : goal.returns-then-ne-clause-all
returns-then-ne-clause-all g c =
    let ended : c.events.machine.journal.verdict ≢ Running = λ is. grind (arith, is) in
    record {
      ran = λ start new. ran_ended _ start _ _ _ _ _
          (subst (λ k. RunsOn c.args.machine.now start (first_events c.args.events (g.S.EventSource.schedule c.args.source))
          (first_events (c.events.left.now + c.events.left.later) (g.S.EventSource.schedule c.events.source)) c.events.machine (g.O.Sink.state c.args.out.now) k)
          (sym c.goes_on.ensures.sink) (c.events.invariant.on start new)) ended;
      taken = subst (λ k. HasTaken (g.O.Sink.state c.args.out.now) k) (sym c.goes_on.ensures.sink) c.events.invariant.taken;
      room = c.events.invariant.room;
      rest = c.events.invariant.rest;
    }

pub returns-in_default-clause-all : goal.returns-in_default-clause-all
returns-in_default-clause-all g c =
    record {
      ran = λ start new. ran_all _ start _ _ _ _ _
          (subst (λ k. RunsOn c.args.machine.now start (first_events c.args.events (g.S.EventSource.schedule c.args.source))
          (first_events (c.events.left.now + c.events.left.later) (g.S.EventSource.schedule c.events.source)) c.events.machine (g.O.Sink.state c.args.out.now) k)
          (sym c.goes_on.ensures.sink) (c.events.invariant.on start new))
          (begun_none (c.events.left.now + c.events.left.later) (g.S.EventSource.schedule c.events.source) (sym c.in_default.ensures.event));
      taken = subst (λ k. HasTaken (g.O.Sink.state c.args.out.now) k) (sym c.goes_on.ensures.sink) c.events.invariant.taken;
      room = c.events.invariant.room;
      rest = c.events.invariant.rest;
    }

pub flush_due-requires-clause-sink : goal.flush_due-requires-clause-sink
flush_due-requires-clause-sink g c = record {
  is_open = subst (λ b. IsTrue b) (sym (ap (λ (s : SinkState). s.is_open) (c.goes_on.ensures.sink ∙ c.events.invariant.taken.taken))) c.requires.sink.is_open;
  count = subst (λ n. n < 18446744073709551615) (sym (ap (λ (s : SinkState). s.faults) (c.goes_on.ensures.sink ∙ c.events.invariant.taken.taken))) c.requires.sink.count;
}

pub flush_due-requires-clause-room : goal.flush_due-requires-clause-room
flush_due-requires-clause-room g c =
    room_again c.repeat.result c.events.machine c.repeat.new.self c.in-Some.event c.events.invariant.has c.repeat.ensures.chain c.events.invariant.room

pub returns-in_err-flush_due-clause-some : goal.returns-in_err-flush_due-clause-some
returns-in_err-flush_due-clause-some g c =
    let some = c.goes_on.ensures.some c.events-test.true in
    let drawn : EventRun = record { event = c.in-Some.event; count = 1 } in
    let once : c.repeat.result ≡ 1 = omega (arith, c.repeat.ensures.some, c.repeat.ensures.most) in
    let before = g.S.EventSource.schedule c.events.source in
    let behind = g.S.EventSource.schedule c.draw_one.new.self in
    let now = c.goes_on.new.self.now in
    let later = c.goes_on.new.self.later in
    let parts = one_drawn (c.events.left.now + c.events.left.later) now later c.repeat.result drawn before behind c.goes_on.ensures.all some refl once
    (begins_once before behind drawn refl c.in-Some.ensures.event c.draw_one.ensures.rest) in
    let room = room_again c.repeat.result c.events.machine c.repeat.new.self c.in-Some.event c.events.invariant.has c.repeat.ensures.chain c.events.invariant.room in
    let broke : RunBrokeFromStart c.args.machine.now (first_events c.args.events (g.S.EventSource.schedule c.args.source)) c.flush_due.new.machine
    (g.O.Sink.state c.args.out.now) (g.O.Sink.state c.flush_due.new.out) =
    λ start new. runs_broke c.repeat.result _ start _ (first_events (c.events.left.now + c.events.left.later) before) (first_events (now - 1 + later) behind)
    c.events.machine c.repeat.new.self c.flush_due.new.machine
    c.in-Some.event _ _ _ c.repeat.ensures.some c.events.invariant.rest
    (subst (λ k. RunsOn c.args.machine.now start (first_events c.args.events (g.S.EventSource.schedule c.args.source))
    (first_events (c.events.left.now + c.events.left.later) before) c.events.machine (g.O.Sink.state c.args.out.now) k)
    (sym c.goes_on.ensures.sink) (c.events.invariant.on start new)) parts c.repeat.ensures.chain
    c.in_err-flush_due.ensures.machine room c.in_err-flush_due.ensures.due c.in_err-flush_due.ensures.failed in
    on_err _ _ broke

pub events-preserved : goal.events-preserved
events-preserved g c =
    let some = c.goes_on.ensures.some c.events-test.true in
    let all = c.goes_on.ensures.all in
    let drawn : EventRun = record { event = c.in-Some.event; count = 1 } in
    let once : c.repeat.result ≡ 1 = omega (arith, c.repeat.ensures.some, c.repeat.ensures.most) in
    let before = g.S.EventSource.schedule c.events.source in
    let behind = g.S.EventSource.schedule c.draw_one.new.self in
    let now = c.goes_on.new.self.now in
    let later = c.goes_on.new.self.later in
    let parts = one_drawn (c.events.left.now + c.events.left.later) now later c.repeat.result drawn before behind all some refl once
    (begins_once before behind drawn refl c.in-Some.ensures.event c.draw_one.ensures.rest) in
    let few = c.events.invariant.few in
    let flushed = c.in_ok-flush_due.ensures.flushed in
    record {
      on = λ start new. runs_more c.repeat.result _ start _ (first_events (c.events.left.now + c.events.left.later) before) (first_events (now - 1 + later) behind)
          c.events.machine c.repeat.new.self c.flush_due.new.machine
          c.in-Some.event _ _ _ c.repeat.ensures.some
          (subst (λ k. RunsOn c.args.machine.now start (first_events c.args.events (g.S.EventSource.schedule c.args.source))
          (first_events (c.events.left.now + c.events.left.later) before) c.events.machine (g.O.Sink.state c.args.out.now) k)
          (sym c.goes_on.ensures.sink) (c.events.invariant.on start new)) parts c.repeat.ensures.chain flushed;
      has = state_after c.repeat.result c.events.machine c.repeat.new.self c.flush_due.new.machine c.in-Some.event _ _ c.events.invariant.has c.repeat.ensures.chain flushed;
      taken = taken_more _ c.repeat.new.self c.flush_due.new.machine _ _
          (subst (λ k. HasTaken (g.O.Sink.state c.args.out.now) k) (sym c.goes_on.ensures.sink) c.events.invariant.taken) flushed;
      few = omega (arith, few, all);
      counts = flushed_counts (max_events + (c.args.events - (now - 1 + later))) c.repeat.new.self c.flush_due.new.machine _ _
          (counts_within (max_events + (c.args.events - (c.events.left.now + c.events.left.later)) + c.repeat.result) (max_events + (c.args.events - (now - 1 + later)))
          c.repeat.new.self.journal.counts (omega (arith, once, few, some, all))
          (c.repeat.ensures.counts (max_events + (c.args.events - (c.events.left.now + c.events.left.later))) c.events.invariant.counts)) flushed;
      room = c.in_ok-flush_due.ensures.room;
      rest = c.in_ok-flush_due.ensures.rest;
    }

pub returns-clause-all : goal.returns-clause-all
returns-clause-all g c =
    let all = c.goes_on.ensures.all in
    let last = c.goes_on.ensures.none c.events-test.false in
    let none : c.events.left.now + c.events.left.later ≡ 0 = omega (arith, all, last) in
    record {
      ran = λ start new. ran_all _ start _ _ _ _ _
          (subst (λ k. RunsOn c.args.machine.now start (first_events c.args.events (g.S.EventSource.schedule c.args.source))
          (first_events (c.events.left.now + c.events.left.later) (g.S.EventSource.schedule c.events.source)) c.events.machine (g.O.Sink.state c.args.out.now) k)
          (sym c.goes_on.ensures.sink) (c.events.invariant.on start new))
          (none_left (c.events.left.now + c.events.left.later) (g.S.EventSource.schedule c.events.source) none);
      taken = subst (λ k. HasTaken (g.O.Sink.state c.args.out.now) k) (sym c.goes_on.ensures.sink) c.events.invariant.taken;
      room = c.events.invariant.room;
      rest = c.events.invariant.rest;
    }
