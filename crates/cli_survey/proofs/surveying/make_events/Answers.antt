use Rattle.std.proofs.Common.{◌≡◌, ◌-◌, ◌+◌, ◌∙◌, refl, subst, sym, arith, true}
use Rattle.sv_types.specs.Schedule.{first_events}
use Rattle.host_io.proofs.SinkLemmas.{on_err}
use Rattle.script.specs.declared.event_run.EventRun.{EventRun}
use Rattle.script.proofs.EventRuns.{begins_once}
use Rattle.script.proofs.FirstEvents.{begun_none}
use Rattle.machine.proofs.Repeated.{counts_within}
use Rattle.machine.specs.Limits.{max_counts}
use Rattle.cli_survey.specs.Advances.{BreaksAtOne, BreaksWhile, GoesOver, IsOneMade, MayGoOn}
use Rattle.cli_survey.specs.Surveys.{is_clear}
use Rattle.cli_survey.proofs.AdvanceLemmas.{clear_made, drawn_one, fits_on, go_made, over_all, over_broke, over_made, over_none}
use Rattle.cli_survey.proofs.surveying.make_events.Goals as goal

pub room_for-fit-requires : goal.room_for-fit-requires
room_for-fit-requires g c = c.requires.kept

pub events-init : goal.events-init
events-init g c =
    let most = c.room_for-fit.ensures.most in
    let sum : c.args.events ≡ c.room_for-fit.result + (c.args.events - c.room_for-fit.result) = omega (arith, most) in
    record {
      over = λ later may. subst (λ k. GoesOver (c.args.events + later) (k + later) (first_events (c.args.events + later) (g.S.EventSource.schedule c.args.source.now))
          (first_events (k + later) (g.S.EventSource.schedule c.args.source.now)) c.args.machine.now c.args.machine.now (g.O.Sink.state c.args.out.now)
          (g.O.Sink.state c.args.out.now)) sum (over_none _ _ _ _ may);
      may = subst (λ k. MayGoOn c.args.machine.now k (g.O.Sink.state c.args.out.now)) sum c.requires;
      fits = c.room_for-fit.ensures.fits;
    }

pub returns-then-not-is_clear-clause-went : goal.returns-then-not-is_clear-clause-went
returns-then-not-is_clear-clause-went g c = λ later may. c.events.invariant.over later may

pub returns-in_default-clause-went : goal.returns-in_default-clause-went
returns-in_default-clause-went g c = λ later may.
    over_all _ _ _ _ _ c.events.machine _ _ (c.events.invariant.over later may) (sym c.is_clear.ensures ∙ c.if-not-is_clear.false)
    (begun_none _ (g.S.EventSource.schedule c.events.source) (sym c.in_default.ensures.event))

pub make_one-requires-clause-sink : goal.make_one-requires-clause-sink
make_one-requires-clause-sink g c = c.events.invariant.may.sink

pub make_one-requires-clause-has : goal.make_one-requires-clause-has
make_one-requires-clause-has g c = c.events.invariant.may.state

pub make_one-requires-clause-room : goal.make_one-requires-clause-room
make_one-requires-clause-room g c = c.events.invariant.may.room

pub make_one-requires-clause-counts : goal.make_one-requires-clause-counts
make_one-requires-clause-counts g c =
    counts_within (max_counts - (c.events.fit + (c.args.events - c.room_for-fit.result) + 1)) (max_counts - 1) c.events.machine.journal.counts (omega arith) c.events.invariant.may.counts

pub returns-in_err-make_one-clause-broke : goal.returns-in_err-make_one-clause-broke
returns-in_err-make_one-clause-broke g c =
    let test = c.events-test.true in
    let fits = c.events.invariant.fits in
    let drawn : EventRun = record { event = c.in-Some.event; count = 1 } in
    let clear : is_clear c.events.machine ≡ true = sym c.is_clear.ensures ∙ c.if-not-is_clear.false in
    let at : BreaksAtOne c.events.machine c.in-Some.event c.make_one.new.machine (g.O.Sink.state c.events.out) (g.O.Sink.state c.make_one.new.out) = c.in_err-make_one.ensures.broke in
    let broke : BreaksWhile (g.S.EventSource.schedule c.args.source.now) c.args.events c.args.machine.now c.make_one.new.machine
    (g.O.Sink.state c.args.out.now) (g.O.Sink.state c.make_one.new.out) = λ later may.
    over_broke 1 _ _ _ _ (first_events (c.events.fit - 1 + (c.args.events - c.room_for-fit.result) + later) (g.S.EventSource.schedule c.draw_one.new.self)) _ c.events.machine at.next _
    c.in-Some.event _ _ _ (c.events.invariant.over later may) clear
    (drawn_one c.events.fit (c.args.events - c.room_for-fit.result) later drawn (g.S.EventSource.schedule c.events.source) (g.S.EventSource.schedule c.draw_one.new.self)
    (omega (arith, test)) refl (begins_once (g.S.EventSource.schedule c.events.source) (g.S.EventSource.schedule c.draw_one.new.self) drawn refl c.in-Some.ensures.event
    c.draw_one.ensures.rest))
    (omega (arith, test, fits)) (clear_made 1 c.events.machine at.next c.in-Some.event c.events.invariant.may.state clear at.made) at.is_passed at.broke in
    on_err _ _ broke

pub events-preserved : goal.events-preserved
events-preserved g c =
    let test = c.events-test.true in
    let fits = c.events.invariant.fits in
    let drawn : EventRun = record { event = c.in-Some.event; count = 1 } in
    let clear : is_clear c.events.machine ≡ true = sym c.is_clear.ensures ∙ c.if-not-is_clear.false in
    let it : IsOneMade c.events.machine c.in-Some.event c.make_one.new.machine (g.O.Sink.state c.events.out) (g.O.Sink.state c.make_one.new.out) = c.in_ok-make_one.ensures.made in
    record {
      over = λ later may. over_made 1 _ (c.events.fit + (c.args.events - c.room_for-fit.result) + later) (c.events.fit - 1 + (c.args.events - c.room_for-fit.result) + later) _ _
          (first_events (c.events.fit - 1 + (c.args.events - c.room_for-fit.result) + later) (g.S.EventSource.schedule c.draw_one.new.self)) _ c.events.machine
          it.next c.make_one.new.machine c.in-Some.event _ _ _ (c.events.invariant.over later may) clear
          (drawn_one c.events.fit (c.args.events - c.room_for-fit.result) later drawn (g.S.EventSource.schedule c.events.source) (g.S.EventSource.schedule c.draw_one.new.self)
          (omega (arith, test)) refl (begins_once (g.S.EventSource.schedule c.events.source) (g.S.EventSource.schedule c.draw_one.new.self) drawn refl c.in-Some.ensures.event
          c.draw_one.ensures.rest))
          (omega (arith, test)) (omega (arith, test, fits))
          (clear_made 1 c.events.machine it.next c.in-Some.event c.events.invariant.may.state clear it.made) it.flushed it.room;
      may = go_made 1 (c.events.fit + (c.args.events - c.room_for-fit.result)) (c.events.fit - 1 + (c.args.events - c.room_for-fit.result)) c.events.machine
          it.next c.make_one.new.machine c.in-Some.event _ _ (omega (arith, test))
          (clear_made 1 c.events.machine it.next c.in-Some.event c.events.invariant.may.state clear it.made) c.events.invariant.may it.flushed it.room;
      fits = fits_on 1 c.events.fit (c.events.fit - 1) c.events.machine it.next c.make_one.new.machine c.in-Some.event _ _
          c.events.invariant.may.state clear it.made fits (omega (arith, test)) it.flushed;
    }

pub returns-clause-went : goal.returns-clause-went
returns-clause-went g c = λ later may. c.events.invariant.over later may
