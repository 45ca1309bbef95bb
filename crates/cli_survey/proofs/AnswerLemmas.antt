-- From what is ready of `survey` to what is answered, and what follows of that.
use Rattle.std.proofs.Common.{◌≡◌, ◌≤◌, ℕ, List, IsTrue, false, sym, ap, subst, arith, inr, Option, Some, None, Result, Ok}
use Rattle.std.specs.Result.{is_ok}
use Rattle.sv_types.specs.Limits.{max_events}
use Rattle.sv_types.specs.Schedule.{first_events}
use Rattle.sv_types.specs.declared.status.Status.{Status}
use Rattle.spec_reference.specs.Start.{IsStart}
use Rattle.spec_reference.specs.States.{State}
use Rattle.spec_hardware.specs.Machine.{Machine}
use Rattle.spec_hardware.specs.Reaches.{IsNew}
use Rattle.host_io.specs.Outside.{FilesState, SinkState, MayWrite}
use Rattle.host_io.specs.declared.trouble.Trouble.{Trouble}
use Rattle.machine.specs.Console.{MayRun}
use Rattle.machine.proofs.Repeated.{counts_within}
use Rattle.cli_plans.specs.CommandLine.{RunWords, survey_judged}
use Rattle.cli_plans.specs.Plans.{Due, Refuse, RunFrom, Make, run_plan, survey_plan}
use Rattle.cli_plans.specs.Reading.{MayFollow}
use Rattle.cli_plans.specs.declared.refusal.Refusal.{Refusal}
use Rattle.cli_plans.proofs.PlanLemmas.{asked_unread, Keeps, follows_keeps, may_follow}
use Rattle.secvisor_cli.specs.Answers.{Outside, outside}
use Rattle.secvisor_cli.specs.Ready.{IsFresh}
use Rattle.secvisor_cli.specs.declared.ready.PreparedRun.{PreparedRun}
use Rattle.secvisor_cli.proofs.SaveLemmas.{writes_faults}
use Rattle.cli_survey.specs.SurveyAnswers.{AnswersReached, BeginsSurvey, IsAtStart, PerformsRun, PerformsSurvey, RunsSurvey, image_of}
use Rattle.cli_survey.specs.declared.ready.ReadySurvey.{ReadySurvey}
use Rattle.cli_survey.proofs.ReadyLemmas.{is_start}

-- ---- what is ready

pub may_run : (booted : PreparedRun) (sink : SinkState) → IsFresh booted → MayWrite sink → MayRun booted.machine booted.events sink
may_run booted sink fresh may = record {
  sink = may;
  few = fresh.events;
  state = fresh.state;
  counts = counts_within 0 max_events booted.machine.journal.counts (omega arith) fresh.counts;
  console = fresh.console;
}

pub begins_at : (words : RunWords) (old new : FilesState) (ready : ReadySurvey) → BeginsSurvey words old new ready → IsAtStart ready.booted.machine
begins_at words old new ready b = record { start = b.start; is_new = b.is_new; is_start = is_start words.image old b.start ready.kernel.bytes.items b.starts }

pub ready_performs : (words : RunWords) (f0 f1 : FilesState) (s0 s1 : SinkState) (b0 b1 : Option Machine) (ready : ReadySurvey) (result : Result Status Trouble) → BeginsSurvey words f0 f1 ready →
    ((start : State) (files : FilesState) → IsNew ready.booted.machine start → IsStart start →
    RunsSurvey ready.kernel.bytes.items start (first_events ready.booted.events ready.booted.script) (outside files s0 b0) (outside files s1 b1) result) →
    PerformsRun words (outside f0 s0 b0) (outside f1 s1 b1) result
ready_performs words f0 f1 s0 s1 b0 b1 ready result b runs = record {
  reached = Some (RunFrom b.start (first_events ready.booted.events ready.booted.script) b.save);
  read = f1;
  follows = b.follows;
  answers = record {
    file = ready.kernel.bytes.items;
    starts = b.starts;
    runs = runs b.start f1 b.is_new (is_start words.image f0 b.start ready.kernel.bytes.items b.starts);
  };
}

-- ---- the words

pub words_performed : (words : Result RunWords Refusal) (value : RunWords) (old new : Outside) (result : Result Status Trouble) → words ≡ Ok value →
    PerformsRun value old new result → PerformsSurvey words old new result
words_performed words value old new result is it =
    subst (λ (j : Result RunWords Refusal). PerformsSurvey j old new result) (sym is)
    (record { reached = it.reached; read = it.read; follows = inr it.follows; answers = it.answers })

-- ---- what becomes of the files and the sink

reached_files : (image : List ℕ) (before : FilesState) (reached : Option Due) (old new : Outside) (result : Result Status Trouble) →
    AnswersReached image before reached old new result → new.files ≡ old.files
reached_files image before None old new result a = ap (λ (o : Outside). o.files) a.1
reached_files image before (Some (Refuse refusal)) old new result a = a.saves.0
reached_files image before (Some (RunFrom start events save)) old new result a = a.runs.files
reached_files image before (Some (Make name rules line)) old new result a = absurd a

reached_writes : (image : List ℕ) (before : FilesState) (reached : Option Due) (old new : Outside) (result : Result Status Trouble) → AnswersReached image before reached old new result →
    old.sink.faults ≤ new.sink.faults
reached_writes image before None old new result a = let same : new.sink.faults ≡ old.sink.faults = ap (λ (o : Outside). o.sink.faults) a.1 in omega (arith, same)
reached_writes image before (Some (Refuse refusal)) old new result a = writes_faults _ _ old.sink new.sink a.written a.writes
reached_writes image before (Some (RunFrom start events save)) old new result a = writes_faults _ _ old.sink new.sink result a.runs.surveys.writes
reached_writes image before (Some (Make name rules line)) old new result a = absurd a

pub keeps_files : (words : Result RunWords Refusal) (old new : Outside) (result : Result Status Trouble) → PerformsSurvey words old new result → Keeps old.files new.files
keeps_files words old new result p =
    let same : new.files ≡ p.read = reached_files (image_of words) old.files p.reached (outside p.read old.sink old.bench) new result p.answers in
    subst (λ (f : FilesState). Keeps old.files f) (sym same) (follows_keeps (survey_plan words) old.files p.read p.reached p.follows)

pub writes : (words : Result RunWords Refusal) (old new : Outside) (result : Result Status Trouble) → PerformsSurvey words old new result → old.sink.faults ≤ new.sink.faults
writes words old new result p = reached_writes (image_of words) old.files p.reached (outside p.read old.sink old.bench) new result p.answers

pub unread : (words : Result RunWords Refusal) (old new : Outside) (result : Result Status Trouble) → is_ok words ≡ false → PerformsSurvey words old new result → new.files ≡ old.files
unread words old new result bad p =
    asked_unread run_plan words old.files new.files (λ read reached. AnswersReached (image_of words) old.files reached (outside read old.sink old.bench) new result) bad
    (λ refusal a. a.saves.0) p

-- where all names may be asked for
pub may_survey : (words : List (List ℕ)) (files : FilesState) → ((asked : List (List ℕ × ℕ)) → IsTrue (files.permits asked)) →
    ((saves : List (List ℕ × List ℕ)) → IsTrue (files.permits_save saves)) → MayFollow (survey_plan (survey_judged words)) files
may_survey words files all saves = may_follow (survey_plan (survey_judged words)) files all saves
