use Rattle.std.proofs.Common.{◌≡◌, ◌-◌, ◌+◌, ◌++◌, ◌∙◌, ap, false, replicate, subst, sym, true, arith, ℕ}
use Rattle.host_io.proofs.SinkLemmas.{on_err}
use Rattle.script.specs.declared.event_run.EventRun.{EventRun}
use Rattle.machine.specs.Drawing.{count_left, events_with, is_used_up, IsAtHand}
use Rattle.machine.specs.Limits.{max_counts}
use Rattle.machine.proofs.Repeated.{counts_within}
use Rattle.cli_survey.specs.Advances.{BreaksInRows}
use Rattle.cli_survey.proofs.AdvanceLemmas.{clear_made, clear_stays, fits_on, go_made, go_room, over_all, over_broke, over_made, over_none}
use Rattle.cli_survey.proofs.RowLemmas.{row_stays}
use Rattle.cli_survey.proofs.surveying.make_rows.Goals as goal

pub room_for-requires : goal.room_for-requires
room_for-requires g c = c.requires.kept

pub returns-then-room_for-left-clause-went : goal.returns-then-room_for-left-clause-went
returns-then-room_for-left-clause-went g c = λ later may. over_none _ _ _ _ may

pub events-init : goal.events-init
events-init g c = record {
  over = λ later may. over_none _ _ _ _ may;
  may = c.requires;
  clear = sym c.is_clear.ensures ∙ c.if-not-is_clear.false;
  fits = omega (arith, c.room_for.ensures.fits, c.if-room_for-left.false, c.count_left-left.ensures);
}

pub returns-then-not-is_clear-clause-went : goal.returns-then-not-is_clear-clause-went
returns-then-not-is_clear-clause-went g c = λ later may. over_none _ _ _ _ may

pub returns-in_default-clause-went : goal.returns-in_default-clause-went
returns-in_default-clause-went g c = λ later may.
    over_all _ _ _ _ _ c.events.machine _ _ (c.events.invariant.over later may) (c.events.invariant.clear)
    (c.draw.ensures.end c.in_default.is later (λ used. absurd (cc (used, c.is_used_up.ensures, c.events-test.true))))

pub make_row-made-requires-clause-may : goal.make_row-made-requires-clause-may
make_row-made-requires-clause-may g c =
    let hand : IsAtHand g.S.EventSource.schedule c.events.drawing c.draw.new.self c.in-Some.batch = c.in-Some.ensures.batch in
    let row : c.in-Some.batch.count ≡ c.draw.new.self.batch.count = ap (λ (r : EventRun). r.count) hand.row_is in
    let count = hand.count in
    let few = c.events.invariant.may.few in
    record {
      asked = hand.some;
      few = omega (arith, row, count, few);
      room = c.events.invariant.may.room;
      counts = counts_within (max_counts - (count_left c.events.drawing + 1)) (max_counts - c.in-Some.batch.count) c.events.machine.journal.counts
          (omega (arith, row, count)) c.events.invariant.may.counts;
    }

pub make_row-made-requires-clause-clear : goal.make_row-made-requires-clause-clear
make_row-made-requires-clause-clear g c = c.events.invariant.clear

pub count_down-requires : goal.count_down-requires
count_down-requires g c =
    let hand : IsAtHand g.S.EventSource.schedule c.events.drawing c.draw.new.self c.in-Some.batch = c.in-Some.ensures.batch in
    let row : c.in-Some.batch.count ≡ c.draw.new.self.batch.count = ap (λ (r : EventRun). r.count) hand.row_is in
    let most = c.make_row-made.ensures.most in
    omega (arith, row, most)

pub flush_after-requires-clause-sink : goal.flush_after-requires-clause-sink
flush_after-requires-clause-sink g c = c.events.invariant.may.sink

pub flush_after-requires-clause-room : goal.flush_after-requires-clause-room
flush_after-requires-clause-room g c =
    go_room c.make_row-made.result (count_left c.events.drawing) c.events.machine c.make_row-made.new.machine c.in-Some.batch.event
    (g.O.Sink.state c.events.out)
    (clear_made c.make_row-made.result c.events.machine c.make_row-made.new.machine c.in-Some.batch.event c.events.invariant.may.state
    (c.events.invariant.clear) c.make_row-made.ensures.made) c.events.invariant.may

pub flush_after-requires-clause-quiet : goal.flush_after-requires-clause-quiet
flush_after-requires-clause-quiet g c = λ other.
    let stays = row_stays c.make_row-made.result c.events.machine c.make_row-made.new.machine c.in-Some.batch.event other c.make_row-made.ensures.made.chain in
    let same = stays.on.quiet in
    let room = c.events.invariant.may.room in
    omega (arith, same, room)

pub flush_after-requires-clause-clear : goal.flush_after-requires-clause-clear
flush_after-requires-clause-clear g c = λ other.
    clear_stays c.events.machine c.make_row-made.new.machine c.events.invariant.clear
    (row_stays c.make_row-made.result c.events.machine c.make_row-made.new.machine c.in-Some.batch.event other c.make_row-made.ensures.made.chain)

pub returns-in_err-clear-clause-broke : goal.returns-in_err-clear-clause-broke
returns-in_err-clear-clause-broke g c =
    let hand : IsAtHand g.S.EventSource.schedule c.events.drawing c.draw.new.self c.in-Some.batch = c.in-Some.ensures.batch in
    let fewer = c.count_down.ensures.count in
    let count = hand.count in
    let fits = c.events.invariant.fits in
    let broke : BreaksInRows g.S.EventSource.schedule c.args.drawing.now c.args.machine.now c.flush_after.new.machine
    (g.O.Sink.state c.args.out.now) (g.O.Sink.state c.flush_after.new.out) = λ later may.
    let parts : events_with later g.S.EventSource.schedule c.events.drawing ≡
    replicate c.make_row-made.result c.in-Some.batch.event ++ events_with later g.S.EventSource.schedule c.count_down.new.self =
    sym (c.in-Some.ensures.further later) ∙ c.count_down.ensures.further later
    ∙ ap (λ (r : EventRun). replicate c.make_row-made.result r.event ++ events_with later g.S.EventSource.schedule c.count_down.new.self) (sym hand.row_is) in
    over_broke c.make_row-made.result _ _ _ _ (events_with later g.S.EventSource.schedule c.count_down.new.self) _ c.events.machine c.make_row-made.new.machine _
    c.in-Some.batch.event _ _ _ (c.events.invariant.over later may) (c.events.invariant.clear) parts (omega (arith, fits, fewer, count))
    (clear_made c.make_row-made.result c.events.machine c.make_row-made.new.machine c.in-Some.batch.event c.events.invariant.may.state
    (c.events.invariant.clear) c.make_row-made.ensures.made)
    c.in_err-clear.ensures.passed c.in_err-clear.ensures.failed in
    on_err _ _ broke

pub returns-then-not-clear-clause-went : goal.returns-then-not-clear-clause-went
returns-then-not-clear-clause-went g c = λ later may.
    let hand : IsAtHand g.S.EventSource.schedule c.events.drawing c.draw.new.self c.in-Some.batch = c.in-Some.ensures.batch in
    let clear = c.events.invariant.clear in
    let made = clear_made c.make_row-made.result c.events.machine c.make_row-made.new.machine c.in-Some.batch.event c.events.invariant.may.state
    clear c.make_row-made.ensures.made in
    let fewer = c.count_down.ensures.count in
    let count = hand.count in
    let fits = c.events.invariant.fits in
    let parts : events_with later g.S.EventSource.schedule c.events.drawing ≡
    replicate c.make_row-made.result c.in-Some.batch.event ++ events_with later g.S.EventSource.schedule c.count_down.new.self =
    sym (c.in-Some.ensures.further later) ∙ c.count_down.ensures.further later
    ∙ ap (λ (r : EventRun). replicate c.make_row-made.result r.event ++ events_with later g.S.EventSource.schedule c.count_down.new.self) (sym hand.row_is) in
    over_made c.make_row-made.result _ (count_left c.events.drawing + later) (count_left c.count_down.new.self + later) _ _ _ _ c.events.machine
    c.make_row-made.new.machine c.flush_after.new.machine c.in-Some.batch.event _ _ _ (c.events.invariant.over later may) clear parts
    (omega (arith, fewer, count)) (omega (arith, fits, fewer, count)) made c.in_ok-clear.ensures.flushed c.in_ok-clear.ensures.room

pub events-preserved : goal.events-preserved
events-preserved g c =
    let hand : IsAtHand g.S.EventSource.schedule c.events.drawing c.draw.new.self c.in-Some.batch = c.in-Some.ensures.batch in
    let clear = c.events.invariant.clear in
    let made = clear_made c.make_row-made.result c.events.machine c.make_row-made.new.machine c.in-Some.batch.event c.events.invariant.may.state
    clear c.make_row-made.ensures.made in
    let fewer = c.count_down.ensures.count in
    let count = hand.count in
    let fits = c.events.invariant.fits in
    record {
      over = λ later may.
          let parts : events_with later g.S.EventSource.schedule c.events.drawing ≡
          replicate c.make_row-made.result c.in-Some.batch.event ++ events_with later g.S.EventSource.schedule c.count_down.new.self =
          sym (c.in-Some.ensures.further later) ∙ c.count_down.ensures.further later
          ∙ ap (λ (r : EventRun). replicate c.make_row-made.result r.event ++ events_with later g.S.EventSource.schedule c.count_down.new.self) (sym hand.row_is) in
          over_made c.make_row-made.result _ (count_left c.events.drawing + later) (count_left c.count_down.new.self + later) _ _ _ _ c.events.machine
          c.make_row-made.new.machine c.flush_after.new.machine c.in-Some.batch.event _ _ _ (c.events.invariant.over later may) clear parts
          (omega (arith, fewer, count)) (omega (arith, fits, fewer, count)) made c.in_ok-clear.ensures.flushed c.in_ok-clear.ensures.room;
      may = go_made c.make_row-made.result (count_left c.events.drawing) (count_left c.count_down.new.self) c.events.machine c.make_row-made.new.machine
          c.flush_after.new.machine c.in-Some.batch.event _ _ (omega (arith, fewer, count)) made c.events.invariant.may c.in_ok-clear.ensures.flushed
          c.in_ok-clear.ensures.room;
      fits = fits_on c.make_row-made.result (count_left c.events.drawing) (count_left c.count_down.new.self) c.events.machine c.make_row-made.new.machine
          c.flush_after.new.machine c.in-Some.batch.event _ _ c.events.invariant.may.state clear c.make_row-made.ensures.made fits (omega (arith, fewer, count))
          c.in_ok-clear.ensures.flushed;
      clear = sym c.in_ok-clear.ensures.clear ∙ c.if-not-clear.false;
    }

pub events-smaller : goal.events-smaller
events-smaller g c =
    let hand : IsAtHand g.S.EventSource.schedule c.events.drawing c.draw.new.self c.in-Some.batch = c.in-Some.ensures.batch in
    let some = c.make_row-made.ensures.made.some in
    let fewer = c.count_down.ensures.count in
    let count = hand.count in
    omega (arith, some, fewer, count)

pub returns-clause-went : goal.returns-clause-went
returns-clause-went g c = λ later may. c.events.invariant.over later may
