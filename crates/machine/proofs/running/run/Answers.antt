use Rattle.std.proofs.Common.{OnOk, ap, subst, sym, ◌∙◌}
use Rattle.sv_types.specs.Schedule.{Schedule, first_events}
use Rattle.script.specs.Sources.{schedule_of}
use Rattle.machine.specs.Console.{HasRunAll}
use Rattle.machine.proofs.running.run.Goals as goal

pub returns-in-Listed-clause-all : goal.returns-in-Listed-clause-all
returns-in-Listed-clause-all g c =
    subst (λ (s : Schedule). OnOk c.run_in_batches.result (HasRunAll c.args.machine.now (first_events c.args.events s) c.run_in_batches.new.machine (g.O.Sink.state c.args.out.now)
    (g.O.Sink.state c.run_in_batches.new.out)))
    (sym (ap schedule_of c.in-Listed.is) ∙ c.into_source.ensures) c.run_in_batches.ensures.all

pub returns-in-Weave-clause-all : goal.returns-in-Weave-clause-all
returns-in-Weave-clause-all g c =
    subst (λ (s : Schedule). OnOk c.run_in_batches-in-Weave.result (HasRunAll c.args.machine.now (first_events c.args.events s) c.run_in_batches-in-Weave.new.machine
    (g.O.Sink.state c.args.out.now) (g.O.Sink.state c.run_in_batches-in-Weave.new.out)))
    (sym (ap schedule_of c.in-Weave.is) ∙ c.into_source.ensures) c.run_in_batches-in-Weave.ensures.all

pub returns-then-is_of_several-clause-all : goal.returns-then-is_of_several-clause-all
returns-then-is_of_several-clause-all g c =
    subst (λ (s : Schedule). OnOk c.run_one_by_one.result (HasRunAll c.args.machine.now (first_events c.args.events s) c.run_one_by_one.new.machine (g.O.Sink.state c.args.out.now)
    (g.O.Sink.state c.run_one_by_one.new.out)))
    (sym (ap schedule_of c.in-Rounds.is) ∙ c.into_source.ensures) c.run_one_by_one.ensures.all

pub returns-else-is_of_several-clause-all : goal.returns-else-is_of_several-clause-all
returns-else-is_of_several-clause-all g c =
    subst (λ (s : Schedule). OnOk c.run_in_batches-else-is_of_several.result (HasRunAll c.args.machine.now (first_events c.args.events s)
    c.run_in_batches-else-is_of_several.new.machine (g.O.Sink.state c.args.out.now) (g.O.Sink.state c.run_in_batches-else-is_of_several.new.out)))
    (sym (ap schedule_of c.in-Rounds.is) ∙ c.into_source.ensures) c.run_in_batches-else-is_of_several.ensures.all

pub returns-then-is_of_several-2-clause-all : goal.returns-then-is_of_several-2-clause-all
returns-then-is_of_several-2-clause-all g c =
    subst (λ (s : Schedule). OnOk c.run_one_by_one-then-is_of_several-2.result (HasRunAll c.args.machine.now (first_events c.args.events s)
    c.run_one_by_one-then-is_of_several-2.new.machine (g.O.Sink.state c.args.out.now) (g.O.Sink.state c.run_one_by_one-then-is_of_several-2.new.out)))
    (sym (ap schedule_of c.in-Auto.is) ∙ c.into_source.ensures) c.run_one_by_one-then-is_of_several-2.ensures.all

pub returns-else-is_of_several-2-clause-all : goal.returns-else-is_of_several-2-clause-all
returns-else-is_of_several-2-clause-all g c =
    subst (λ (s : Schedule). OnOk c.run_in_batches-else-is_of_several-2.result (HasRunAll c.args.machine.now (first_events c.args.events s)
    c.run_in_batches-else-is_of_several-2.new.machine (g.O.Sink.state c.args.out.now) (g.O.Sink.state c.run_in_batches-else-is_of_several-2.new.out)))
    (sym (ap schedule_of c.in-Auto.is) ∙ c.into_source.ensures) c.run_in_batches-else-is_of_several-2.ensures.all

pub returns-in-Bursts-clause-all : goal.returns-in-Bursts-clause-all
returns-in-Bursts-clause-all g c =
    subst (λ (s : Schedule). OnOk c.run_in_batches-in-Bursts.result (HasRunAll c.args.machine.now (first_events c.args.events s) c.run_in_batches-in-Bursts.new.machine
    (g.O.Sink.state c.args.out.now) (g.O.Sink.state c.run_in_batches-in-Bursts.new.out)))
    (sym (ap schedule_of c.in-Bursts.is) ∙ c.into_source.ensures) c.run_in_batches-in-Bursts.ensures.all
