-- When `survey` answers a read fault.
use Rattle.std.proofs.Common.{◌≡◌, ◌≢◌, ℕ, List, [], ◌∷◌, sym, ◌∙◌, Option, Some, None, Result, Ok, Err}
use Rattle.sv_types.specs.Output.{run_status}
use Rattle.sv_types.specs.declared.event.Event.{Event}
use Rattle.sv_types.specs.declared.event.Verdict.{Verdict}
use Rattle.sv_types.specs.declared.event.Verdict.TheVariants.{Running, Shutdown, Stopped}
use Rattle.sv_types.specs.declared.status.Status.{Status}
use Rattle.spec_reference.specs.States.{State}
use Rattle.host_io.specs.Endings.{status_of_end}
use Rattle.host_io.specs.Outside.{FilesState}
use Rattle.host_io.specs.declared.trouble.Trouble.{Trouble}
use Rattle.host_io.specs.declared.trouble.Trouble.TheVariants.{Write, Memory}
use Rattle.cli_plans.specs.CommandLine.{survey_judged}
use Rattle.cli_plans.specs.Plans.{Due, Refuse, RunFrom, Make, Plan, survey_plan, run_plan}
use Rattle.cli_plans.specs.Reading.{Follows}
use Rattle.cli_plans.proofs.FoundFaults.{run_found_faults, asked_found_faults}
use Rattle.cli_plans.proofs.PlanLemmas.{HasFault, HasFoundFaults}
use Rattle.cli_plans.proofs.WordLemmas.{survey_no_read_fault}
use Rattle.secvisor_cli.specs.Answers.{Outside, outside}
use Rattle.secvisor_cli.proofs.TopLemmas.{refused_fault, wants_no_fault}
use Rattle.cli_survey.specs.SurveyAnswers.{AnswersReached, PerformsSurvey, SurveysFile, image_of, survey_status}

-- ---- no survey says so

run_no_fault : (v : Verdict) → run_status v ≢ Status.ReadFault
run_no_fault Running = λ e. cc e
run_no_fault Shutdown = λ e. cc e
run_no_fault (Stopped rule h turn) = λ e. cc e

status_no_fault : (lines : List ℕ) (v : Verdict) → survey_status lines v ≢ Status.ReadFault
status_no_fault [] v = run_no_fault v
status_no_fault (byte ∷ lines) v = λ e. cc e

surveyed_no_fault : (image : List ℕ) (files : FilesState) (start : State) (events : List Event) (old new : Outside) (result : Result Status Trouble) →
    SurveysFile image files start events old new result → status_of_end result ≢ Status.ReadFault
surveyed_no_fault image files start events old new (Ok status) s = λ is. status_no_fault _ _ (sym s.runs.surveys.writes.status ∙ is)
surveyed_no_fault image files start events old new (Err Write) s = λ is. cc is
surveyed_no_fault image files start events old new (Err Memory) s = λ is. cc is

reached_fault : (plan : Plan) (image : List ℕ) (before : FilesState) (reached : Option Due) (old new : Outside) (read : FilesState) (result : Result Status Trouble) → HasFoundFaults plan →
    Follows plan old.files read reached → AnswersReached image before reached (outside read old.sink old.bench) new result → status_of_end result ≡ Status.ReadFault →
    HasFault plan old.files new.files
reached_fault plan image before None old new read result never follows a is = absurd (wants_no_fault result a.0 is)
reached_fault plan image before (Some (Refuse refusal)) old new read result never follows a is = refused_fault plan refusal old new read result never follows a is
reached_fault plan image before (Some (RunFrom start events save)) old new read result never follows a is =
    absurd (surveyed_no_fault image before start events (outside read old.sink old.bench) new result a is)
reached_fault plan image before (Some (Make out rules line)) old new read result never follows a is = absurd a

pub survey_fault : (words : List (List ℕ)) (old new : Outside) (result : Result Status Trouble) → PerformsSurvey (survey_judged words) old new result →
    status_of_end result ≡ Status.ReadFault → HasFault (survey_plan (survey_judged words)) old.files new.files
survey_fault words old new result p is =
    reached_fault (survey_plan (survey_judged words)) (image_of (survey_judged words)) old.files p.reached old new p.read result
    (asked_found_faults run_plan (survey_judged words) (survey_no_read_fault words) run_found_faults) p.follows p.answers is
