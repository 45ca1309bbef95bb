use Rattle.std.proofs.Common.{ap, subst, sym, ◌∙◌}
use Rattle.sv_types.specs.Schedule.{Schedule, first_events}
use Rattle.script.specs.Sources.{schedule_of}
use Rattle.cli_survey.specs.Surveys.{SurveyedFromStart}
use Rattle.cli_survey.proofs.surveying.survey.Goals as goal

pub returns-in-Listed : goal.returns-in-Listed
returns-in-Listed g c =
    subst (λ (s : Schedule). SurveyedFromStart c.args.machine.now (first_events c.args.events s) c.survey_in_batches.new.machine c.survey_in_batches.new.found
    (g.O.Sink.state c.args.out.now) (g.O.Sink.state c.survey_in_batches.new.out) c.survey_in_batches.result)
    (sym (ap schedule_of c.in-Listed.is) ∙ c.into_source.ensures) c.survey_in_batches.ensures

pub returns-in-Weave : goal.returns-in-Weave
returns-in-Weave g c =
    subst (λ (s : Schedule). SurveyedFromStart c.args.machine.now (first_events c.args.events s) c.survey_in_batches-in-Weave.new.machine c.survey_in_batches-in-Weave.new.found
    (g.O.Sink.state c.args.out.now) (g.O.Sink.state c.survey_in_batches-in-Weave.new.out) c.survey_in_batches-in-Weave.result)
    (sym (ap schedule_of c.in-Weave.is) ∙ c.into_source.ensures) c.survey_in_batches-in-Weave.ensures

pub returns-then-is_of_several : goal.returns-then-is_of_several
returns-then-is_of_several g c =
    subst (λ (s : Schedule). SurveyedFromStart c.args.machine.now (first_events c.args.events s) c.survey_one_by_one.new.machine c.survey_one_by_one.new.found
    (g.O.Sink.state c.args.out.now) (g.O.Sink.state c.survey_one_by_one.new.out) c.survey_one_by_one.result)
    (sym (ap schedule_of c.in-Rounds.is) ∙ c.into_source.ensures) c.survey_one_by_one.ensures

pub returns-else-is_of_several : goal.returns-else-is_of_several
returns-else-is_of_several g c =
    subst (λ (s : Schedule). SurveyedFromStart c.args.machine.now (first_events c.args.events s) c.survey_in_batches-else-is_of_several.new.machine
    c.survey_in_batches-else-is_of_several.new.found (g.O.Sink.state c.args.out.now) (g.O.Sink.state c.survey_in_batches-else-is_of_several.new.out) c.survey_in_batches-else-is_of_several.result)
    (sym (ap schedule_of c.in-Rounds.is) ∙ c.into_source.ensures) c.survey_in_batches-else-is_of_several.ensures

pub returns-then-is_of_several-2 : goal.returns-then-is_of_several-2
returns-then-is_of_several-2 g c =
    subst (λ (s : Schedule). SurveyedFromStart c.args.machine.now (first_events c.args.events s) c.survey_one_by_one-then-is_of_several-2.new.machine
    c.survey_one_by_one-then-is_of_several-2.new.found (g.O.Sink.state c.args.out.now) (g.O.Sink.state c.survey_one_by_one-then-is_of_several-2.new.out)
    c.survey_one_by_one-then-is_of_several-2.result)
    (sym (ap schedule_of c.in-Auto.is) ∙ c.into_source.ensures) c.survey_one_by_one-then-is_of_several-2.ensures

pub returns-else-is_of_several-2 : goal.returns-else-is_of_several-2
returns-else-is_of_several-2 g c =
    subst (λ (s : Schedule). SurveyedFromStart c.args.machine.now (first_events c.args.events s) c.survey_in_batches-else-is_of_several-2.new.machine
    c.survey_in_batches-else-is_of_several-2.new.found (g.O.Sink.state c.args.out.now) (g.O.Sink.state c.survey_in_batches-else-is_of_several-2.new.out)
    c.survey_in_batches-else-is_of_several-2.result)
    (sym (ap schedule_of c.in-Auto.is) ∙ c.into_source.ensures) c.survey_in_batches-else-is_of_several-2.ensures

pub returns-in-Bursts : goal.returns-in-Bursts
returns-in-Bursts g c =
    subst (λ (s : Schedule). SurveyedFromStart c.args.machine.now (first_events c.args.events s) c.survey_in_batches-in-Bursts.new.machine c.survey_in_batches-in-Bursts.new.found
    (g.O.Sink.state c.args.out.now) (g.O.Sink.state c.survey_in_batches-in-Bursts.new.out) c.survey_in_batches-in-Bursts.result)
    (sym (ap schedule_of c.in-Bursts.is) ∙ c.into_source.ensures) c.survey_in_batches-in-Bursts.ensures
