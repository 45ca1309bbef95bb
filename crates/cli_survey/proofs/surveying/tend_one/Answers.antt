use Rattle.std.proofs.Common.{◌∙◌, ap, inl, inr, refl, subst, sym, arith, ◌≡◌}
use Rattle.script.proofs.EventRuns.{begins_once}
use Rattle.report.specs.Views.{loads_view, writes_view}
use Rattle.cli_survey.specs.Advances.{IsRowMade, MayTend, TellsOn}
use Rattle.spec_reference.specs.States.{State}
use Rattle.spec_hardware.specs.StandsFor.{StandsFor}
use Rattle.cli_survey.specs.Refusals.{refusals, with_loads}
use Rattle.cli_survey.specs.Surveys.{is_running}
use Rattle.cli_survey.proofs.AdvanceLemmas.{tend_makes, tend_passed}
use Rattle.cli_survey.proofs.surveying.tend_one.Goals as goal

pub returns-then-not-is_running-clause-went : goal.returns-then-not-is_running-clause-went
returns-then-not-is_running-clause-went g c = record {
  passed = record { passed = c.pass_write.ensures.passed; kept = c.in_ok-pass_write.ensures.kept };
  same = refl;
  noted = refl;
  over = inl (ap is_running (sym c.verdict.ensures) ∙ sym c.is_running.ensures ∙ c.if-not-is_running.true);
}

pub returns-in_default-clause-went : goal.returns-in_default-clause-went
returns-in_default-clause-went g c = record {
  passed = record { passed = c.pass_write.ensures.passed; kept = c.in_ok-pass_write.ensures.kept };
  same = refl;
  noted = refl;
  over = inr (sym c.in_default.ensures.event);
}

pub look_and_make-requires-clause-row : goal.look_and_make-requires-clause-row
look_and_make-requires-clause-row g c =
    let may : MayTend c.pass_write.new.machine 0 = tend_passed 0 c.args.machine.now c.pass_write.new.machine c.pass_write.ensures.passed c.requires.may in
    let one = c.once.ensures.count in
    record {
      may = tend_makes 0 c.once.result.count c.pass_write.new.machine may (omega (arith, one)) (omega (arith, one));
      state = may.state;
      running = ap is_running (sym c.verdict.ensures) ∙ sym c.is_running.ensures ∙ c.if-not-is_running.false;
    }

pub look_and_make-requires-clause-kept : goal.look_and_make-requires-clause-kept
look_and_make-requires-clause-kept g c =
    let may : MayTend c.pass_write.new.machine 0 = tend_passed 0 c.args.machine.now c.pass_write.new.machine c.pass_write.ensures.passed c.requires.may in may.kept

pub returns-clause-went : goal.returns-clause-went
returns-clause-went g c =
    let most = c.in_ok-look_and_make.ensures.row.most in
    let some = c.in_ok-look_and_make.ensures.row.made.some in
    let once : c.in_ok-look_and_make.field-0 ≡ 1 = omega (arith, most, some, c.once.ensures.count) in
    record {
      event = c.in-Some.event;
      begins = begins_once (g.S.EventSource.schedule c.args.source.now) (g.S.EventSource.schedule c.draw_one.new.self) (record { event = c.in-Some.event; count = 1 })
          refl c.in-Some.ensures.event c.draw_one.ensures.rest;
      advances = record {
        ready = c.pass_write.new.machine;
        passed = record { passed = c.pass_write.ensures.passed; kept = ap writes_view c.look_and_make.ensures.writes ∙ c.in_ok-pass_write.ensures.kept };
        running = ap is_running (sym c.verdict.ensures) ∙ sym c.is_running.ensures ∙ c.if-not-is_running.false;
        looked = subst (λ e. (r : State) → StandsFor c.pass_write.new.machine r →
            loads_view c.look_and_make.new.found.loads ≡ with_loads (loads_view c.args.found.now.loads) (refusals r e)) c.once.ensures.event
            c.in_ok-look_and_make.ensures.looked;
        made = subst (λ n. IsRowMade c.pass_write.new.machine c.in-Some.event n c.look_and_make.new.machine) once
            (subst (λ e. IsRowMade c.pass_write.new.machine e c.in_ok-look_and_make.field-0 c.look_and_make.new.machine) c.once.ensures.event
            c.in_ok-look_and_make.ensures.row.made);
        told = subst (λ n. TellsOn c.pass_write.new.machine c.in-Some.event n c.look_and_make.new.machine c.args.found.now.noted c.look_and_make.new.found.noted) once
            (subst (λ e. TellsOn c.pass_write.new.machine e c.in_ok-look_and_make.field-0 c.look_and_make.new.machine c.args.found.now.noted
            c.look_and_make.new.found.noted) c.once.ensures.event c.in_ok-look_and_make.ensures.row.told);
      };
    }
