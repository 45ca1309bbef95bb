use Rattle.std.proofs.Common.{◌≡◌, ◌+◌, ap, inr, refl, subst, ◌∙◌, length, arith}
use Rattle.sv_types.specs.Limits.{max_events}
use Rattle.sv_types.specs.Schedule.{first_events}
use Rattle.host_io.specs.declared.trouble.Trouble.TheVariants.{Write, Memory}
use Rattle.machine.specs.Drawing.{count_left, events_with}
use Rattle.machine.proofs.Repeated.{counts_within}
use Rattle.secvisor_cli.proofs.ReadyLemmas.{err_by}
use Rattle.cli_survey.specs.Advances.{GoesByRow, GoesByRows, GoesOver, GoesToEnd, MakesRow, MayGoOn}
use Rattle.cli_survey.specs.Surveys.{Surveyed}
use Rattle.cli_survey.proofs.AdvanceLemmas.{go_advanced, go_fewer, go_tends, go_told, none_drawn, room_advanced}
use Rattle.cli_survey.proofs.SurveyLemmas.{pass_running, surveys_break, surveys_drawn, surveys_flush, surveys_none, surveys_on, surveys_over, surveys_want}
use Rattle.cli_survey.proofs.surveying.survey_in_batches.Goals as goal

pub parts-init : goal.parts-init
parts-init g c =
    let none = c.new-drawing.ensures.count in
    let all = c.of-left.ensures.all in
    let few = c.requires.run.few in
    let sum : 0 + (c.of-left.result.now + c.of-left.result.later) ≡ c.args.events = omega (arith, all) in
    record {
      on = λ start new is_start. surveys_none start _ _ c.args.machine.now c.args.found.now _
          (c.new-drawing.ensures.further (c.of-left.result.now + c.of-left.result.later) ∙ ap (λ n. first_events n (g.S.EventSource.schedule c.args.source)) sum)
          new is_start c.requires.none c.requires.none_refused c.requires.none_noted;
      spare = c.in_ok-spare.ensures;
      may = record {
        sink = c.requires.run.sink;
        few = omega (arith, none, all, few);
        state = c.requires.run.state;
        counts = counts_within max_events _ c.args.machine.now.journal.counts (omega (arith, none, all, few)) c.requires.run.counts;
        room = omega (arith, ap length c.requires.run.console);
        kept = omega (arith, ap length c.requires.no_notes);
      };
    }

-- no room for notes that are set apart
pub returns-in_err-spare : goal.returns-in_err-spare
returns-in_err-spare g c = λ start new is_start.
    err_by _ Memory
    (λ r. Surveyed start (first_events c.args.events (g.S.EventSource.schedule c.args.source)) c.args.machine.now c.args.found.now
    (g.O.Sink.state c.args.out.now) (g.O.Sink.state c.args.out.now) r)
    c.from_residual.ensures.1
    (surveys_want start _ _ c.args.machine.now c.args.machine.now c.args.found.now _ _
    (surveys_none start _ _ c.args.machine.now c.args.found.now _ refl new is_start c.requires.none c.requires.none_refused c.requires.none_noted)
    (pass_running c.args.machine.now c.requires.running))

pub has_more-requires-clause-kept : goal.has_more-requires-clause-kept
has_more-requires-clause-kept g c = c.parts.invariant.may.kept

pub has_more-requires-clause-few : goal.has_more-requires-clause-few
has_more-requires-clause-few g c = let few = c.parts.invariant.may.few in omega (arith, few)

-- ---- an event with what is to be seen to

pub tend_row-requires-clause-may : goal.tend_row-requires-clause-may
tend_row-requires-clause-may g c =
    let later = c.has_more.new.left.now + c.has_more.new.left.later in
    go_tends (count_left c.has_more.new.drawing + later) (count_left c.has_more.new.drawing) c.parts.machine _ (omega arith)
    (go_told _ _ c.parts.machine _ _ c.has_more.ensures.count c.has_more.ensures.sink c.parts.invariant.may)

pub returns-in_err-on : goal.returns-in_err-on
returns-in_err-on g c = λ start new is_start.
    err_by _ Memory
    (λ r. Surveyed start (first_events c.args.events (g.S.EventSource.schedule c.args.source)) c.tend_row.new.machine c.tend_row.new.found
    (g.O.Sink.state c.args.out.now) (g.O.Sink.state c.has_more.new.out) r)
    c.from_residual-in_err-on.ensures.1
    (surveys_want start _ _ c.parts.machine c.tend_row.new.machine c.parts.found _ _
    (surveys_drawn start _ _ _ c.parts.machine c.parts.found _ _ _ (c.parts.invariant.on start new is_start) c.has_more.ensures.all c.has_more.ensures.sink) c.in_err-on.ensures.want)

pub returns-then-not-on : goal.returns-then-not-on
returns-then-not-on g c = λ start new is_start.
    let ends = subst (λ b. GoesByRow g.S.EventSource.schedule c.has_more.new.drawing c.tend_row.new.drawing c.parts.machine c.parts.found c.tend_row.new.machine c.tend_row.new.found b)
    c.if-not-on.true c.in_ok-on.ensures.went in
    surveys_over _ start _ _ c.parts.machine c.tend_row.new.machine c.parts.found c.tend_row.new.found _ _
    (surveys_drawn start _ _ _ c.parts.machine c.parts.found _ _ _ (c.parts.invariant.on start new is_start) c.has_more.ensures.all c.has_more.ensures.sink) ends
    (λ none. none (c.has_more.new.left.now + c.has_more.new.left.later) (λ used. absurd (cc (used, c.has_more.ensures.some c.parts-test.true))))

pub flush_or_pass-requires-clause-sink : goal.flush_or_pass-requires-clause-sink
flush_or_pass-requires-clause-sink g c =
    let may = go_told _ _ c.parts.machine _ _ c.has_more.ensures.count c.has_more.ensures.sink c.parts.invariant.may in
    may.sink

pub flush_or_pass-requires-clause-room : goal.flush_or_pass-requires-clause-room
flush_or_pass-requires-clause-room g c =
    let later = c.has_more.new.left.now + c.has_more.new.left.later in
    let row : MakesRow g.S.EventSource.schedule c.has_more.new.drawing c.tend_row.new.drawing c.parts.machine c.parts.found c.tend_row.new.machine c.tend_row.new.found =
    subst (λ b. GoesByRow g.S.EventSource.schedule c.has_more.new.drawing c.tend_row.new.drawing c.parts.machine c.parts.found c.tend_row.new.machine c.tend_row.new.found b)
    c.if-not-on.false c.in_ok-on.ensures.went in
    let may : MayGoOn c.parts.machine (count_left c.has_more.new.drawing + later) (g.O.Sink.state c.has_more.new.out) =
    go_told _ _ c.parts.machine _ _ c.has_more.ensures.count c.has_more.ensures.sink c.parts.invariant.may in
    room_advanced row.count (count_left c.has_more.new.drawing + later) c.parts.machine c.tend_row.new.machine c.parts.found c.tend_row.new.found row.event _ row.advances
    may

pub returns-in_err-flush_or_pass : goal.returns-in_err-flush_or_pass
returns-in_err-flush_or_pass g c = λ start new is_start.
    let later = c.has_more.new.left.now + c.has_more.new.left.later in
    let row : MakesRow g.S.EventSource.schedule c.has_more.new.drawing c.tend_row.new.drawing c.parts.machine c.parts.found c.tend_row.new.machine c.tend_row.new.found =
    subst (λ b. GoesByRow g.S.EventSource.schedule c.has_more.new.drawing c.tend_row.new.drawing c.parts.machine c.parts.found c.tend_row.new.machine c.tend_row.new.found b)
    c.if-not-on.false c.in_ok-on.ensures.went in
    let made = surveys_on row.count start _ _ (events_with later g.S.EventSource.schedule c.tend_row.new.drawing) c.parts.machine c.tend_row.new.machine c.parts.found
    c.tend_row.new.found row.event _ _ is_start
    (surveys_drawn start _ _ _ c.parts.machine c.parts.found _ _ _ (c.parts.invariant.on start new is_start) c.has_more.ensures.all c.has_more.ensures.sink)
    (row.left later) row.advances in
    err_by _ Write
    (λ r. Surveyed start (first_events c.args.events (g.S.EventSource.schedule c.args.source)) c.flush_or_pass.new.machine c.tend_row.new.found
    (g.O.Sink.state c.args.out.now) (g.O.Sink.state c.flush_or_pass.new.out) r)
    c.from_residual-in_err-flush_or_pass.ensures.1
    (surveys_break start _ (events_with later g.S.EventSource.schedule c.tend_row.new.drawing) c.tend_row.new.machine c.flush_or_pass.new.machine c.tend_row.new.found _ _ _
    made c.in_err-flush_or_pass.ensures.passed c.in_err-flush_or_pass.ensures.failed)

-- ---- the rows after it

pub make_rows-requires : goal.make_rows-requires
make_rows-requires g c =
    let later = c.has_more.new.left.now + c.has_more.new.left.later in
    let row : MakesRow g.S.EventSource.schedule c.has_more.new.drawing c.tend_row.new.drawing c.parts.machine c.parts.found c.tend_row.new.machine c.tend_row.new.found =
    subst (λ b. GoesByRow g.S.EventSource.schedule c.has_more.new.drawing c.tend_row.new.drawing c.parts.machine c.parts.found c.tend_row.new.machine c.tend_row.new.found b)
    c.if-not-on.false c.in_ok-on.ensures.went in
    let may : MayGoOn c.parts.machine (count_left c.has_more.new.drawing + later) (g.O.Sink.state c.has_more.new.out) =
    go_told _ _ c.parts.machine _ _ c.has_more.ensures.count c.has_more.ensures.sink c.parts.invariant.may in
    let fewer = row.fewer in
    let next : MayGoOn c.flush_or_pass.new.machine (count_left c.tend_row.new.drawing + later) (g.O.Sink.state c.flush_or_pass.new.out) =
    go_advanced row.count (count_left c.has_more.new.drawing + later) (count_left c.tend_row.new.drawing + later) c.parts.machine c.tend_row.new.machine
    c.flush_or_pass.new.machine c.parts.found c.tend_row.new.found row.event _ _ (omega (arith, fewer)) row.advances may
    c.in_ok-flush_or_pass.ensures.flushed c.in_ok-flush_or_pass.ensures.room in
    go_fewer _ _ c.flush_or_pass.new.machine _ (omega arith) next

pub returns-in_err-more : goal.returns-in_err-more
returns-in_err-more g c = λ start new is_start.
    let later = c.has_more.new.left.now + c.has_more.new.left.later in
    let row : MakesRow g.S.EventSource.schedule c.has_more.new.drawing c.tend_row.new.drawing c.parts.machine c.parts.found c.tend_row.new.machine c.tend_row.new.found =
    subst (λ b. GoesByRow g.S.EventSource.schedule c.has_more.new.drawing c.tend_row.new.drawing c.parts.machine c.parts.found c.tend_row.new.machine c.tend_row.new.found b)
    c.if-not-on.false c.in_ok-on.ensures.went in
    let may : MayGoOn c.parts.machine (count_left c.has_more.new.drawing + later) (g.O.Sink.state c.has_more.new.out) =
    go_told _ _ c.parts.machine _ _ c.has_more.ensures.count c.has_more.ensures.sink c.parts.invariant.may in
    let fewer = row.fewer in
    let next : MayGoOn c.flush_or_pass.new.machine (count_left c.tend_row.new.drawing + later) (g.O.Sink.state c.flush_or_pass.new.out) =
    go_advanced row.count (count_left c.has_more.new.drawing + later) (count_left c.tend_row.new.drawing + later) c.parts.machine c.tend_row.new.machine
    c.flush_or_pass.new.machine c.parts.found c.tend_row.new.found row.event _ _ (omega (arith, fewer)) row.advances may
    c.in_ok-flush_or_pass.ensures.flushed c.in_ok-flush_or_pass.ensures.room in
    let made = surveys_on row.count start _ _ (events_with later g.S.EventSource.schedule c.tend_row.new.drawing) c.parts.machine c.tend_row.new.machine c.parts.found
    c.tend_row.new.found row.event _ _ is_start
    (surveys_drawn start _ _ _ c.parts.machine c.parts.found _ _ _ (c.parts.invariant.on start new is_start) c.has_more.ensures.all c.has_more.ensures.sink)
    (row.left later) row.advances in
    let up = surveys_flush start _ (events_with later g.S.EventSource.schedule c.tend_row.new.drawing) c.tend_row.new.machine c.flush_or_pass.new.machine c.tend_row.new.found _ _ _
    made c.in_ok-flush_or_pass.ensures.flushed in
    err_by _ Write
    (λ r. Surveyed start (first_events c.args.events (g.S.EventSource.schedule c.args.source)) c.make_rows.new.machine c.tend_row.new.found
    (g.O.Sink.state c.args.out.now) (g.O.Sink.state c.make_rows.new.out) r)
    c.from_residual-in_err-more.ensures.1
    (c.in_err-more.ensures.broke later next start _ c.tend_row.new.found _ is_start up)

pub returns-then-not-more : goal.returns-then-not-more
returns-then-not-more g c = λ start new is_start.
    let later = c.has_more.new.left.now + c.has_more.new.left.later in
    let row : MakesRow g.S.EventSource.schedule c.has_more.new.drawing c.tend_row.new.drawing c.parts.machine c.parts.found c.tend_row.new.machine c.tend_row.new.found =
    subst (λ b. GoesByRow g.S.EventSource.schedule c.has_more.new.drawing c.tend_row.new.drawing c.parts.machine c.parts.found c.tend_row.new.machine c.tend_row.new.found b)
    c.if-not-on.false c.in_ok-on.ensures.went in
    let may : MayGoOn c.parts.machine (count_left c.has_more.new.drawing + later) (g.O.Sink.state c.has_more.new.out) =
    go_told _ _ c.parts.machine _ _ c.has_more.ensures.count c.has_more.ensures.sink c.parts.invariant.may in
    let fewer = row.fewer in
    let next : MayGoOn c.flush_or_pass.new.machine (count_left c.tend_row.new.drawing + later) (g.O.Sink.state c.flush_or_pass.new.out) =
    go_advanced row.count (count_left c.has_more.new.drawing + later) (count_left c.tend_row.new.drawing + later) c.parts.machine c.tend_row.new.machine
    c.flush_or_pass.new.machine c.parts.found c.tend_row.new.found row.event _ _ (omega (arith, fewer)) row.advances may
    c.in_ok-flush_or_pass.ensures.flushed c.in_ok-flush_or_pass.ensures.room in
    let made = surveys_on row.count start _ _ (events_with later g.S.EventSource.schedule c.tend_row.new.drawing) c.parts.machine c.tend_row.new.machine c.parts.found
    c.tend_row.new.found row.event _ _ is_start
    (surveys_drawn start _ _ _ c.parts.machine c.parts.found _ _ _ (c.parts.invariant.on start new is_start) c.has_more.ensures.all c.has_more.ensures.sink)
    (row.left later) row.advances in
    let up = surveys_flush start _ (events_with later g.S.EventSource.schedule c.tend_row.new.drawing) c.tend_row.new.machine c.flush_or_pass.new.machine c.tend_row.new.found _ _ _
    made c.in_ok-flush_or_pass.ensures.flushed in
    let ends : GoesToEnd (events_with later g.S.EventSource.schedule c.tend_row.new.drawing) c.flush_or_pass.new.machine c.make_rows.new.machine
    (g.O.Sink.state c.flush_or_pass.new.out) (g.O.Sink.state c.make_rows.new.out) =
    subst (λ b. GoesByRows g.S.EventSource.schedule c.tend_row.new.drawing c.make_rows.new.drawing c.flush_or_pass.new.machine c.make_rows.new.machine
    (g.O.Sink.state c.flush_or_pass.new.out) (g.O.Sink.state c.make_rows.new.out) b) c.if-not-more.true c.in_ok-more.ensures.went later next in
    ends start _ c.tend_row.new.found _ is_start up

pub parts-preserved : goal.parts-preserved
parts-preserved g c =
    let later = c.has_more.new.left.now + c.has_more.new.left.later in
    let row : MakesRow g.S.EventSource.schedule c.has_more.new.drawing c.tend_row.new.drawing c.parts.machine c.parts.found c.tend_row.new.machine c.tend_row.new.found =
    subst (λ b. GoesByRow g.S.EventSource.schedule c.has_more.new.drawing c.tend_row.new.drawing c.parts.machine c.parts.found c.tend_row.new.machine c.tend_row.new.found b)
    c.if-not-on.false c.in_ok-on.ensures.went in
    let may : MayGoOn c.parts.machine (count_left c.has_more.new.drawing + later) (g.O.Sink.state c.has_more.new.out) =
    go_told _ _ c.parts.machine _ _ c.has_more.ensures.count c.has_more.ensures.sink c.parts.invariant.may in
    let fewer = row.fewer in
    let next : MayGoOn c.flush_or_pass.new.machine (count_left c.tend_row.new.drawing + later) (g.O.Sink.state c.flush_or_pass.new.out) =
    go_advanced row.count (count_left c.has_more.new.drawing + later) (count_left c.tend_row.new.drawing + later) c.parts.machine c.tend_row.new.machine
    c.flush_or_pass.new.machine c.parts.found c.tend_row.new.found row.event _ _ (omega (arith, fewer)) row.advances may
    c.in_ok-flush_or_pass.ensures.flushed c.in_ok-flush_or_pass.ensures.room in
    let over : GoesOver (count_left c.tend_row.new.drawing + later) (count_left c.make_rows.new.drawing + later)
    (events_with later g.S.EventSource.schedule c.tend_row.new.drawing) (events_with later g.S.EventSource.schedule c.make_rows.new.drawing)
    c.flush_or_pass.new.machine c.make_rows.new.machine (g.O.Sink.state c.flush_or_pass.new.out) (g.O.Sink.state c.make_rows.new.out) =
    subst (λ b. GoesByRows g.S.EventSource.schedule c.tend_row.new.drawing c.make_rows.new.drawing c.flush_or_pass.new.machine c.make_rows.new.machine
    (g.O.Sink.state c.flush_or_pass.new.out) (g.O.Sink.state c.make_rows.new.out) b) c.if-not-more.false c.in_ok-more.ensures.went later next in
    record {
      on = λ start new is_start.
          over.on start _ c.tend_row.new.found _ is_start
          (surveys_flush start _ (events_with later g.S.EventSource.schedule c.tend_row.new.drawing) c.tend_row.new.machine c.flush_or_pass.new.machine c.tend_row.new.found _ _ _
          (surveys_on row.count start _ _ (events_with later g.S.EventSource.schedule c.tend_row.new.drawing) c.parts.machine c.tend_row.new.machine c.parts.found
          c.tend_row.new.found row.event _ _ is_start
          (surveys_drawn start _ _ _ c.parts.machine c.parts.found _ _ _ (c.parts.invariant.on start new is_start) c.has_more.ensures.all c.has_more.ensures.sink)
          (row.left later) row.advances)
          c.in_ok-flush_or_pass.ensures.flushed);
      spare = c.tend_row.ensures.spare;
      may = over.may;
    }

pub parts-smaller : goal.parts-smaller
parts-smaller g c =
    let later = c.has_more.new.left.now + c.has_more.new.left.later in
    let row : MakesRow g.S.EventSource.schedule c.has_more.new.drawing c.tend_row.new.drawing c.parts.machine c.parts.found c.tend_row.new.machine c.tend_row.new.found =
    subst (λ b. GoesByRow g.S.EventSource.schedule c.has_more.new.drawing c.tend_row.new.drawing c.parts.machine c.parts.found c.tend_row.new.machine c.tend_row.new.found b)
    c.if-not-on.false c.in_ok-on.ensures.went in
    let may : MayGoOn c.parts.machine (count_left c.has_more.new.drawing + later) (g.O.Sink.state c.has_more.new.out) =
    go_told _ _ c.parts.machine _ _ c.has_more.ensures.count c.has_more.ensures.sink c.parts.invariant.may in
    let fewer = row.fewer in
    let next : MayGoOn c.flush_or_pass.new.machine (count_left c.tend_row.new.drawing + later) (g.O.Sink.state c.flush_or_pass.new.out) =
    go_advanced row.count (count_left c.has_more.new.drawing + later) (count_left c.tend_row.new.drawing + later) c.parts.machine c.tend_row.new.machine
    c.flush_or_pass.new.machine c.parts.found c.tend_row.new.found row.event _ _ (omega (arith, fewer)) row.advances may
    c.in_ok-flush_or_pass.ensures.flushed c.in_ok-flush_or_pass.ensures.room in
    let over : GoesOver (count_left c.tend_row.new.drawing + later) (count_left c.make_rows.new.drawing + later)
    (events_with later g.S.EventSource.schedule c.tend_row.new.drawing) (events_with later g.S.EventSource.schedule c.make_rows.new.drawing)
    c.flush_or_pass.new.machine c.make_rows.new.machine (g.O.Sink.state c.flush_or_pass.new.out) (g.O.Sink.state c.make_rows.new.out) =
    subst (λ b. GoesByRows g.S.EventSource.schedule c.tend_row.new.drawing c.make_rows.new.drawing c.flush_or_pass.new.machine c.make_rows.new.machine
    (g.O.Sink.state c.flush_or_pass.new.out) (g.O.Sink.state c.make_rows.new.out) b) c.if-not-more.false c.in_ok-more.ensures.went later next in
    let some = row.advances.made.some in
    let on = c.has_more.ensures.count in
    let less = over.fewer in
    omega (arith, some, fewer, on, less)

-- ---- none is left

pub returns-in_err-pass_write : goal.returns-in_err-pass_write
returns-in_err-pass_write g c = λ start new is_start.
    err_by _ Memory
    (λ r. Surveyed start (first_events c.args.events (g.S.EventSource.schedule c.args.source)) c.pass_write.new.machine
    (record { writes = c.pass_write.new.writes; loads = c.parts.found.loads; noted = c.parts.found.noted }) (g.O.Sink.state c.args.out.now) (g.O.Sink.state c.has_more.new.out) r)
    c.from_residual-in_err-pass_write.ensures.1
    (surveys_want start _ _ c.parts.machine c.pass_write.new.machine c.parts.found _ _
    (surveys_drawn start _ _ _ c.parts.machine c.parts.found _ _ _ (c.parts.invariant.on start new is_start) c.has_more.ensures.all c.has_more.ensures.sink) c.pass_write.ensures.passed)

pub returns : goal.returns
returns g c = λ start new is_start.
    surveys_over _ start _ _ c.parts.machine c.pass_write.new.machine c.parts.found (record { writes = c.pass_write.new.writes; loads = c.parts.found.loads; noted = c.parts.found.noted }) _ _
    (surveys_drawn start _ _ _ c.parts.machine c.parts.found _ _ _ (c.parts.invariant.on start new is_start) c.has_more.ensures.all c.has_more.ensures.sink)
    (record {
      passed = record { passed = c.pass_write.ensures.passed; kept = c.in_ok-pass_write.ensures.kept };
      same = refl;
      noted = refl;
      over = inr (c.has_more.ensures.all ∙ none_drawn g.S.EventSource.schedule c.parts.drawing (c.parts.left.now + c.parts.left.later) (c.has_more.ensures.none c.parts-test.false));
    }) (λ end. end)
