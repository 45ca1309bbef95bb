use Rattle.std.proofs.Common.{◌∙◌, ◌≡◌, ◌++◌, ap, inl, inr, refl, replicate, sym, arith}
use Rattle.script.specs.declared.event_run.EventRun.{EventRun}
use Rattle.machine.specs.Drawing.{events_with, IsAtHand}
use Rattle.report.specs.Views.{writes_view}
use Rattle.cli_survey.specs.Advances.{MayTend}
use Rattle.machine.specs.Drawing.{count_left}
use Rattle.cli_survey.specs.Surveys.{is_running}
use Rattle.cli_survey.proofs.AdvanceLemmas.{tend_makes, tend_passed}
use Rattle.cli_survey.proofs.surveying.tend_row.Goals as goal

pub returns-then-not-is_running-clause-went : goal.returns-then-not-is_running-clause-went
returns-then-not-is_running-clause-went g c = record {
  passed = record { passed = c.pass_write.ensures.passed; kept = c.in_ok-pass_write.ensures.kept };
  same = refl;
  noted = refl;
  over = inl (ap is_running (sym c.verdict.ensures) ∙ sym c.is_running.ensures ∙ c.if-not-is_running.true);
}

pub returns-in_default-clause-went : goal.returns-in_default-clause-went
returns-in_default-clause-went g c = record {
  passed = record { passed = c.pass_write.ensures.passed; kept = c.in_ok-pass_write.ensures.kept };
  same = refl;
  noted = refl;
  over = inr (c.draw.ensures.end c.in_default.is);
}

pub look_and_make-requires-clause-row : goal.look_and_make-requires-clause-row
look_and_make-requires-clause-row g c =
    let may : MayTend c.pass_write.new.machine (count_left c.args.drawing.now) =
    tend_passed (count_left c.args.drawing.now) c.args.machine.now c.pass_write.new.machine c.pass_write.ensures.passed c.requires.may in
    let hand : IsAtHand g.S.EventSource.schedule c.args.drawing.now c.draw.new.self c.in-Some.batch = c.in-Some.ensures.batch in
    let row : c.in-Some.batch.count ≡ c.draw.new.self.batch.count = ap (λ (r : EventRun). r.count) hand.row_is in
    let count = hand.count in
    record {
      may = tend_makes (count_left c.args.drawing.now) c.in-Some.batch.count c.pass_write.new.machine may hand.some (omega (arith, row, count));
      state = may.state;
      running = ap is_running (sym c.verdict.ensures) ∙ sym c.is_running.ensures ∙ c.if-not-is_running.false;
    }

pub look_and_make-requires-clause-kept : goal.look_and_make-requires-clause-kept
look_and_make-requires-clause-kept g c =
    let may : MayTend c.pass_write.new.machine (count_left c.args.drawing.now) =
    tend_passed (count_left c.args.drawing.now) c.args.machine.now c.pass_write.new.machine c.pass_write.ensures.passed c.requires.may in may.kept

pub count_down-requires : goal.count_down-requires
count_down-requires g c =
    let hand : IsAtHand g.S.EventSource.schedule c.args.drawing.now c.draw.new.self c.in-Some.batch = c.in-Some.ensures.batch in
    let row : c.in-Some.batch.count ≡ c.draw.new.self.batch.count = ap (λ (r : EventRun). r.count) hand.row_is in
    let most = c.in_ok-tended.ensures.row.most in
    omega (arith, row, most)

pub returns-clause-went : goal.returns-clause-went
returns-clause-went g c =
    let hand : IsAtHand g.S.EventSource.schedule c.args.drawing.now c.draw.new.self c.in-Some.batch = c.in-Some.ensures.batch in
    record {
      event = c.in-Some.batch.event;
      count = c.in_ok-tended.tended;
      left = λ later.
          sym (c.in-Some.ensures.further later) ∙ c.count_down.ensures.further later
          ∙ ap (λ (r : EventRun). replicate c.in_ok-tended.tended r.event ++ events_with later g.S.EventSource.schedule c.count_down.new.self) (sym hand.row_is);
      fewer = c.count_down.ensures.count ∙ hand.count;
      advances = record {
        ready = c.pass_write.new.machine;
        passed = record { passed = c.pass_write.ensures.passed; kept = ap writes_view c.look_and_make.ensures.writes ∙ c.in_ok-pass_write.ensures.kept };
        running = ap is_running (sym c.verdict.ensures) ∙ sym c.is_running.ensures ∙ c.if-not-is_running.false;
        looked = c.in_ok-tended.ensures.looked;
        made = c.in_ok-tended.ensures.row.made;
        told = c.in_ok-tended.ensures.row.told;
      };
    }
