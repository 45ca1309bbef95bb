use Rattle.std.proofs.Common.{◌≡◌, ◌-◌, ◌+◌, ap, inr, refl, subst, ◌∙◌, length, arith}
use Rattle.sv_types.specs.Limits.{max_events}
use Rattle.sv_types.specs.Schedule.{first_events}
use Rattle.host_io.specs.declared.trouble.Trouble.TheVariants.{Write, Memory}
use Rattle.script.proofs.FirstEvents.{begun_none}
use Rattle.machine.proofs.DrawnBatches.{none_left}
use Rattle.machine.proofs.Repeated.{counts_within}
use Rattle.secvisor_cli.proofs.ReadyLemmas.{err_by}
use Rattle.cli_survey.specs.Advances.{GoesByOne, GoesOver, GoesToEnd, GoesWhile, MakesNext, MayGoOn}
use Rattle.cli_survey.specs.Surveys.{Surveyed}
use Rattle.cli_survey.proofs.AdvanceLemmas.{go_advanced, go_fewer, go_tends, go_told, room_advanced}
use Rattle.cli_survey.proofs.SurveyLemmas.{pass_running, surveys_break, surveys_flush, surveys_none, surveys_on, surveys_over, surveys_told, surveys_want}
use Rattle.cli_survey.proofs.surveying.survey_one_by_one.Goals as goal

pub parts-init : goal.parts-init
parts-init g c =
    let all = c.of-left.ensures.all in
    let few = c.requires.run.few in
    record {
      on = λ start new is_start. surveys_none start _ _ c.args.machine.now c.args.found.now _
          (ap (λ n. first_events n (g.S.EventSource.schedule c.args.source)) all) new is_start c.requires.none c.requires.none_refused c.requires.none_noted;
      spare = c.in_ok-spare.ensures;
      may = record {
        sink = c.requires.run.sink;
        few = omega (arith, all, few);
        state = c.requires.run.state;
        counts = counts_within max_events _ c.args.machine.now.journal.counts (omega (arith, all, few)) c.requires.run.counts;
        room = omega (arith, ap length c.requires.run.console);
        kept = omega (arith, ap length c.requires.no_notes);
      };
    }

-- no room for notes that are set apart
pub returns-in_err-spare : goal.returns-in_err-spare
returns-in_err-spare g c = λ start new is_start.
    err_by _ Memory
    (λ r. Surveyed start (first_events c.args.events (g.S.EventSource.schedule c.args.source)) c.args.machine.now c.args.found.now
    (g.O.Sink.state c.args.out.now) (g.O.Sink.state c.args.out.now) r)
    c.from_residual.ensures.1
    (surveys_want start _ _ c.args.machine.now c.args.machine.now c.args.found.now _ _
    (surveys_none start _ _ c.args.machine.now c.args.found.now _ refl new is_start c.requires.none c.requires.none_refused c.requires.none_noted)
    (pass_running c.args.machine.now c.requires.running))

-- ---- an event with what is to be seen to

pub tend_one-requires-clause-may : goal.tend_one-requires-clause-may
tend_one-requires-clause-may g c = go_tends (c.parts.left.now + c.parts.left.later) 0 c.parts.machine _ (omega arith) c.parts.invariant.may

pub returns-in_err-on : goal.returns-in_err-on
returns-in_err-on g c = λ start new is_start.
    err_by _ Memory
    (λ r. Surveyed start (first_events c.args.events (g.S.EventSource.schedule c.args.source)) c.tend_one.new.machine c.tend_one.new.found
    (g.O.Sink.state c.args.out.now) (g.O.Sink.state c.goes_on.new.out) r)
    c.from_residual-in_err-on.ensures.1
    (surveys_want start _ _ c.parts.machine c.tend_one.new.machine c.parts.found _ _
    (surveys_told start _ _ c.parts.machine c.parts.found _ _ _ (c.parts.invariant.on start new is_start) c.goes_on.ensures.sink) c.in_err-on.ensures.want)

pub returns-then-not-on : goal.returns-then-not-on
returns-then-not-on g c = λ start new is_start.
    let ends = subst (λ b. GoesByOne (g.S.EventSource.schedule c.parts.source) (g.S.EventSource.schedule c.tend_one.new.source) c.parts.machine c.parts.found
    c.tend_one.new.machine c.tend_one.new.found b) c.if-not-on.true c.in_ok-on.ensures.went in
    surveys_over _ start _ _ c.parts.machine c.tend_one.new.machine c.parts.found c.tend_one.new.found _ _
    (surveys_told start _ _ c.parts.machine c.parts.found _ _ _ (c.parts.invariant.on start new is_start) c.goes_on.ensures.sink) ends
    (begun_none (c.parts.left.now + c.parts.left.later) (g.S.EventSource.schedule c.parts.source))

pub flush_or_pass-requires-clause-sink : goal.flush_or_pass-requires-clause-sink
flush_or_pass-requires-clause-sink g c =
    let may = go_told _ _ c.parts.machine _ _ c.goes_on.ensures.all c.goes_on.ensures.sink c.parts.invariant.may in
    may.sink

pub flush_or_pass-requires-clause-room : goal.flush_or_pass-requires-clause-room
flush_or_pass-requires-clause-room g c =
    let next : MakesNext (g.S.EventSource.schedule c.parts.source) (g.S.EventSource.schedule c.tend_one.new.source) c.parts.machine c.parts.found
    c.tend_one.new.machine c.tend_one.new.found =
    subst (λ b. GoesByOne (g.S.EventSource.schedule c.parts.source) (g.S.EventSource.schedule c.tend_one.new.source) c.parts.machine c.parts.found
    c.tend_one.new.machine c.tend_one.new.found b) c.if-not-on.false c.in_ok-on.ensures.went in
    room_advanced 1 (c.parts.left.now + c.parts.left.later) c.parts.machine c.tend_one.new.machine c.parts.found c.tend_one.new.found next.event _ next.advances c.parts.invariant.may

pub returns-in_err-flush_or_pass : goal.returns-in_err-flush_or_pass
returns-in_err-flush_or_pass g c = λ start new is_start.
    let next : MakesNext (g.S.EventSource.schedule c.parts.source) (g.S.EventSource.schedule c.tend_one.new.source) c.parts.machine c.parts.found
    c.tend_one.new.machine c.tend_one.new.found =
    subst (λ b. GoesByOne (g.S.EventSource.schedule c.parts.source) (g.S.EventSource.schedule c.tend_one.new.source) c.parts.machine c.parts.found
    c.tend_one.new.machine c.tend_one.new.found b) c.if-not-on.false c.in_ok-on.ensures.went in
    let some = c.goes_on.ensures.some c.parts-test.true in
    let all = c.goes_on.ensures.all in
    let rest = c.goes_on.new.self.now - 1 + c.goes_on.new.self.later in
    let count : c.parts.left.now + c.parts.left.later ≡ 1 + rest = omega (arith, some, all) in
    err_by _ Write
    (λ r. Surveyed start (first_events c.args.events (g.S.EventSource.schedule c.args.source)) c.flush_or_pass.new.machine c.tend_one.new.found
    (g.O.Sink.state c.args.out.now) (g.O.Sink.state c.flush_or_pass.new.out) r)
    c.from_residual-in_err-flush_or_pass.ensures.1
    (surveys_break start _ (first_events rest (g.S.EventSource.schedule c.tend_one.new.source)) c.tend_one.new.machine c.flush_or_pass.new.machine c.tend_one.new.found _ _ _
    (surveys_on 1 start _ _ (first_events rest (g.S.EventSource.schedule c.tend_one.new.source)) c.parts.machine c.tend_one.new.machine c.parts.found c.tend_one.new.found
    next.event _ _ is_start
    (surveys_told start _ _ c.parts.machine c.parts.found _ _ _ (c.parts.invariant.on start new is_start) c.goes_on.ensures.sink)
    (ap (λ n. first_events n (g.S.EventSource.schedule c.parts.source)) count ∙ next.begins rest) next.advances)
    c.in_err-flush_or_pass.ensures.passed c.in_err-flush_or_pass.ensures.failed)

-- ---- the events after it

pub make_events-requires : goal.make_events-requires
make_events-requires g c =
    let next : MakesNext (g.S.EventSource.schedule c.parts.source) (g.S.EventSource.schedule c.tend_one.new.source) c.parts.machine c.parts.found
    c.tend_one.new.machine c.tend_one.new.found =
    subst (λ b. GoesByOne (g.S.EventSource.schedule c.parts.source) (g.S.EventSource.schedule c.tend_one.new.source) c.parts.machine c.parts.found
    c.tend_one.new.machine c.tend_one.new.found b) c.if-not-on.false c.in_ok-on.ensures.went in
    let some = c.goes_on.ensures.some c.parts-test.true in
    let all = c.goes_on.ensures.all in
    let rest = c.goes_on.new.self.now - 1 + c.goes_on.new.self.later in
    let may : MayGoOn c.flush_or_pass.new.machine rest (g.O.Sink.state c.flush_or_pass.new.out) =
    go_advanced 1 (c.goes_on.new.self.now + c.goes_on.new.self.later) rest c.parts.machine c.tend_one.new.machine
    c.flush_or_pass.new.machine c.parts.found c.tend_one.new.found next.event _ _ (omega (arith, some)) next.advances
    (go_told _ _ c.parts.machine _ _ c.goes_on.ensures.all c.goes_on.ensures.sink c.parts.invariant.may)
    c.in_ok-flush_or_pass.ensures.flushed c.in_ok-flush_or_pass.ensures.room in
    go_fewer rest (c.goes_on.new.self.now - 1) c.flush_or_pass.new.machine _ (omega arith) may

pub returns-in_err-rest : goal.returns-in_err-rest
returns-in_err-rest g c = λ start new is_start.
    let next : MakesNext (g.S.EventSource.schedule c.parts.source) (g.S.EventSource.schedule c.tend_one.new.source) c.parts.machine c.parts.found
    c.tend_one.new.machine c.tend_one.new.found =
    subst (λ b. GoesByOne (g.S.EventSource.schedule c.parts.source) (g.S.EventSource.schedule c.tend_one.new.source) c.parts.machine c.parts.found
    c.tend_one.new.machine c.tend_one.new.found b) c.if-not-on.false c.in_ok-on.ensures.went in
    let some = c.goes_on.ensures.some c.parts-test.true in
    let all = c.goes_on.ensures.all in
    let rest = c.goes_on.new.self.now - 1 + c.goes_on.new.self.later in
    let may : MayGoOn c.flush_or_pass.new.machine rest (g.O.Sink.state c.flush_or_pass.new.out) =
    go_advanced 1 (c.goes_on.new.self.now + c.goes_on.new.self.later) rest c.parts.machine c.tend_one.new.machine
    c.flush_or_pass.new.machine c.parts.found c.tend_one.new.found next.event _ _ (omega (arith, some)) next.advances
    (go_told _ _ c.parts.machine _ _ c.goes_on.ensures.all c.goes_on.ensures.sink c.parts.invariant.may)
    c.in_ok-flush_or_pass.ensures.flushed c.in_ok-flush_or_pass.ensures.room in
    let count : c.parts.left.now + c.parts.left.later ≡ 1 + rest = omega (arith, some, all) in
    let up = surveys_flush start _ (first_events rest (g.S.EventSource.schedule c.tend_one.new.source)) c.tend_one.new.machine c.flush_or_pass.new.machine c.tend_one.new.found _ _ _
    (surveys_on 1 start _ _ (first_events rest (g.S.EventSource.schedule c.tend_one.new.source)) c.parts.machine c.tend_one.new.machine c.parts.found c.tend_one.new.found
    next.event _ _ is_start
    (surveys_told start _ _ c.parts.machine c.parts.found _ _ _ (c.parts.invariant.on start new is_start) c.goes_on.ensures.sink)
    (ap (λ n. first_events n (g.S.EventSource.schedule c.parts.source)) count ∙ next.begins rest) next.advances)
    c.in_ok-flush_or_pass.ensures.flushed in
    err_by _ Write
    (λ r. Surveyed start (first_events c.args.events (g.S.EventSource.schedule c.args.source)) c.make_events.new.machine c.tend_one.new.found
    (g.O.Sink.state c.args.out.now) (g.O.Sink.state c.make_events.new.out) r)
    c.from_residual-in_err-rest.ensures.1
    (c.in_err-rest.ensures.broke c.goes_on.new.self.later may start _ c.tend_one.new.found _ is_start up)

pub returns-in_default : goal.returns-in_default
returns-in_default g c = λ start new is_start.
    let next : MakesNext (g.S.EventSource.schedule c.parts.source) (g.S.EventSource.schedule c.tend_one.new.source) c.parts.machine c.parts.found
    c.tend_one.new.machine c.tend_one.new.found =
    subst (λ b. GoesByOne (g.S.EventSource.schedule c.parts.source) (g.S.EventSource.schedule c.tend_one.new.source) c.parts.machine c.parts.found
    c.tend_one.new.machine c.tend_one.new.found b) c.if-not-on.false c.in_ok-on.ensures.went in
    let some = c.goes_on.ensures.some c.parts-test.true in
    let all = c.goes_on.ensures.all in
    let rest = c.goes_on.new.self.now - 1 + c.goes_on.new.self.later in
    let may : MayGoOn c.flush_or_pass.new.machine rest (g.O.Sink.state c.flush_or_pass.new.out) =
    go_advanced 1 (c.goes_on.new.self.now + c.goes_on.new.self.later) rest c.parts.machine c.tend_one.new.machine
    c.flush_or_pass.new.machine c.parts.found c.tend_one.new.found next.event _ _ (omega (arith, some)) next.advances
    (go_told _ _ c.parts.machine _ _ c.goes_on.ensures.all c.goes_on.ensures.sink c.parts.invariant.may)
    c.in_ok-flush_or_pass.ensures.flushed c.in_ok-flush_or_pass.ensures.room in
    let count : c.parts.left.now + c.parts.left.later ≡ 1 + rest = omega (arith, some, all) in
    let up = surveys_flush start _ (first_events rest (g.S.EventSource.schedule c.tend_one.new.source)) c.tend_one.new.machine c.flush_or_pass.new.machine c.tend_one.new.found _ _ _
    (surveys_on 1 start _ _ (first_events rest (g.S.EventSource.schedule c.tend_one.new.source)) c.parts.machine c.tend_one.new.machine c.parts.found c.tend_one.new.found
    next.event _ _ is_start
    (surveys_told start _ _ c.parts.machine c.parts.found _ _ _ (c.parts.invariant.on start new is_start) c.goes_on.ensures.sink)
    (ap (λ n. first_events n (g.S.EventSource.schedule c.parts.source)) count ∙ next.begins rest) next.advances)
    c.in_ok-flush_or_pass.ensures.flushed in
    let ends : GoesToEnd (first_events rest (g.S.EventSource.schedule c.tend_one.new.source)) c.flush_or_pass.new.machine c.make_events.new.machine
    (g.O.Sink.state c.flush_or_pass.new.out) (g.O.Sink.state c.make_events.new.out) =
    subst (λ o. GoesWhile (g.S.EventSource.schedule c.tend_one.new.source) (g.S.EventSource.schedule c.make_events.new.source) (c.goes_on.new.self.now - 1)
    c.flush_or_pass.new.machine c.make_events.new.machine
    (g.O.Sink.state c.flush_or_pass.new.out) (g.O.Sink.state c.make_events.new.out) o) c.in_default.is c.in_ok-rest.ensures.went c.goes_on.new.self.later may in
    ends start _ c.tend_one.new.found _ is_start up

pub parts-preserved : goal.parts-preserved
parts-preserved g c =
    let next : MakesNext (g.S.EventSource.schedule c.parts.source) (g.S.EventSource.schedule c.tend_one.new.source) c.parts.machine c.parts.found
    c.tend_one.new.machine c.tend_one.new.found =
    subst (λ b. GoesByOne (g.S.EventSource.schedule c.parts.source) (g.S.EventSource.schedule c.tend_one.new.source) c.parts.machine c.parts.found
    c.tend_one.new.machine c.tend_one.new.found b) c.if-not-on.false c.in_ok-on.ensures.went in
    let some = c.goes_on.ensures.some c.parts-test.true in
    let all = c.goes_on.ensures.all in
    let rest = c.goes_on.new.self.now - 1 + c.goes_on.new.self.later in
    let may : MayGoOn c.flush_or_pass.new.machine rest (g.O.Sink.state c.flush_or_pass.new.out) =
    go_advanced 1 (c.goes_on.new.self.now + c.goes_on.new.self.later) rest c.parts.machine c.tend_one.new.machine
    c.flush_or_pass.new.machine c.parts.found c.tend_one.new.found next.event _ _ (omega (arith, some)) next.advances
    (go_told _ _ c.parts.machine _ _ c.goes_on.ensures.all c.goes_on.ensures.sink c.parts.invariant.may)
    c.in_ok-flush_or_pass.ensures.flushed c.in_ok-flush_or_pass.ensures.room in
    let over : GoesOver rest (c.in-Some.rest + c.goes_on.new.self.later) (first_events rest (g.S.EventSource.schedule c.tend_one.new.source))
    (first_events (c.in-Some.rest + c.goes_on.new.self.later) (g.S.EventSource.schedule c.make_events.new.source))
    c.flush_or_pass.new.machine c.make_events.new.machine (g.O.Sink.state c.flush_or_pass.new.out) (g.O.Sink.state c.make_events.new.out) =
    subst (λ o. GoesWhile (g.S.EventSource.schedule c.tend_one.new.source) (g.S.EventSource.schedule c.make_events.new.source) (c.goes_on.new.self.now - 1)
    c.flush_or_pass.new.machine c.make_events.new.machine
    (g.O.Sink.state c.flush_or_pass.new.out) (g.O.Sink.state c.make_events.new.out) o) c.in-Some.is c.in_ok-rest.ensures.went c.goes_on.new.self.later may in
    record {
      on = λ start new is_start.
          let count : c.parts.left.now + c.parts.left.later ≡ 1 + rest = omega (arith, some, all) in
          let up = surveys_flush start _ (first_events rest (g.S.EventSource.schedule c.tend_one.new.source)) c.tend_one.new.machine c.flush_or_pass.new.machine c.tend_one.new.found _ _ _
          (surveys_on 1 start _ _ (first_events rest (g.S.EventSource.schedule c.tend_one.new.source)) c.parts.machine c.tend_one.new.machine c.parts.found c.tend_one.new.found
          next.event _ _ is_start
          (surveys_told start _ _ c.parts.machine c.parts.found _ _ _ (c.parts.invariant.on start new is_start) c.goes_on.ensures.sink)
          (ap (λ n. first_events n (g.S.EventSource.schedule c.parts.source)) count ∙ next.begins rest) next.advances)
          c.in_ok-flush_or_pass.ensures.flushed in
          over.on start _ c.tend_one.new.found _ is_start up;
      spare = c.tend_one.ensures.spare;
      may = over.may;
    }

pub parts-smaller : goal.parts-smaller
parts-smaller g c =
    let next : MakesNext (g.S.EventSource.schedule c.parts.source) (g.S.EventSource.schedule c.tend_one.new.source) c.parts.machine c.parts.found
    c.tend_one.new.machine c.tend_one.new.found =
    subst (λ b. GoesByOne (g.S.EventSource.schedule c.parts.source) (g.S.EventSource.schedule c.tend_one.new.source) c.parts.machine c.parts.found
    c.tend_one.new.machine c.tend_one.new.found b) c.if-not-on.false c.in_ok-on.ensures.went in
    let some = c.goes_on.ensures.some c.parts-test.true in
    let all = c.goes_on.ensures.all in
    let rest = c.goes_on.new.self.now - 1 + c.goes_on.new.self.later in
    let may : MayGoOn c.flush_or_pass.new.machine rest (g.O.Sink.state c.flush_or_pass.new.out) =
    go_advanced 1 (c.goes_on.new.self.now + c.goes_on.new.self.later) rest c.parts.machine c.tend_one.new.machine
    c.flush_or_pass.new.machine c.parts.found c.tend_one.new.found next.event _ _ (omega (arith, some)) next.advances
    (go_told _ _ c.parts.machine _ _ c.goes_on.ensures.all c.goes_on.ensures.sink c.parts.invariant.may)
    c.in_ok-flush_or_pass.ensures.flushed c.in_ok-flush_or_pass.ensures.room in
    let over : GoesOver rest (c.in-Some.rest + c.goes_on.new.self.later) (first_events rest (g.S.EventSource.schedule c.tend_one.new.source))
    (first_events (c.in-Some.rest + c.goes_on.new.self.later) (g.S.EventSource.schedule c.make_events.new.source))
    c.flush_or_pass.new.machine c.make_events.new.machine (g.O.Sink.state c.flush_or_pass.new.out) (g.O.Sink.state c.make_events.new.out) =
    subst (λ o. GoesWhile (g.S.EventSource.schedule c.tend_one.new.source) (g.S.EventSource.schedule c.make_events.new.source) (c.goes_on.new.self.now - 1)
    c.flush_or_pass.new.machine c.make_events.new.machine
    (g.O.Sink.state c.flush_or_pass.new.out) (g.O.Sink.state c.make_events.new.out) o) c.in-Some.is c.in_ok-rest.ensures.went c.goes_on.new.self.later may in
    let fewer = over.fewer in
    omega (arith, some, all, fewer)

-- ---- none is left

pub returns-in_err-pass_write : goal.returns-in_err-pass_write
returns-in_err-pass_write g c = λ start new is_start.
    err_by _ Memory
    (λ r. Surveyed start (first_events c.args.events (g.S.EventSource.schedule c.args.source)) c.pass_write.new.machine
    (record { writes = c.pass_write.new.writes; loads = c.parts.found.loads; noted = c.parts.found.noted }) (g.O.Sink.state c.args.out.now) (g.O.Sink.state c.goes_on.new.out) r)
    c.from_residual-in_err-pass_write.ensures.1
    (surveys_want start _ _ c.parts.machine c.pass_write.new.machine c.parts.found _ _
    (surveys_told start _ _ c.parts.machine c.parts.found _ _ _ (c.parts.invariant.on start new is_start) c.goes_on.ensures.sink) c.pass_write.ensures.passed)

pub returns : goal.returns
returns g c = λ start new is_start.
    let all = c.goes_on.ensures.all in
    let last = c.goes_on.ensures.none c.parts-test.false in
    let none : c.parts.left.now + c.parts.left.later ≡ 0 = omega (arith, all, last) in
    surveys_over _ start _ _ c.parts.machine c.pass_write.new.machine c.parts.found (record { writes = c.pass_write.new.writes; loads = c.parts.found.loads; noted = c.parts.found.noted }) _ _
    (surveys_told start _ _ c.parts.machine c.parts.found _ _ _ (c.parts.invariant.on start new is_start) c.goes_on.ensures.sink)
    (record {
      passed = record { passed = c.pass_write.ensures.passed; kept = c.in_ok-pass_write.ensures.kept };
      same = refl;
      noted = refl;
      over = inr (none_left (c.parts.left.now + c.parts.left.later) (g.S.EventSource.schedule c.parts.source) none);
    }) (λ end. end)
