-- What may be asked of the outside and what is owed, by the call that the words ask for: what the command's own call asks and
-- ensures. This project's own.
use Rattle.std.specs.Prelude.{◌≡◌, ◌<◌, ◌⊎◌, ℕ, List, Bool, true, false, Option, Some, None, IsTrue}
use Rattle.std.specs.Result.{is_ok}
use Rattle.sv_types.specs.declared.status.Status.{Status}
use Rattle.host_io.specs.Outside.{FilesState, MaySaveUnder}
use Rattle.cli_plans.specs.CommandLine.{judgement_of_words, live_judged, snap_judged, sweep_judged, shrink_judged, resume_judged, survey_judged, debug_judged}
use Rattle.cli_plans.specs.Plans.{Plan, plan_of, live_plan, snap_plan, survey_plan}
use Rattle.cli_plans.specs.Reading.{MayFollow, IsNamed, SavesUnder}
use Rattle.secvisor_cli.specs.Answers.{Outside, outside, Headline}
use Rattle.cli_live.specs.LiveReady.{out_of as script_name}
use Rattle.cli_live.specs.LiveAnswers.{LiveOutside, LiveHeadline, is_refusal}
use Rattle.cli_live.specs.Replays.{LiveLine, live_line, HasEnded, Replays}
use Rattle.cli_snap.specs.SnapReady.{out_of as snapshot_name}
use Rattle.cli_snap.specs.SnapAnswers.{SnapHeadline}
use Rattle.cli_survey.specs.SurveyAnswers.{SurveyHeadline}
use Rattle.cli_debug.specs.DebugAnswers.{DebugHeadline, wire}
use Rattle.cli_snap.specs.ResumePlans.{resume_plan}
use Rattle.cli_trials.specs.SweepAnswers.{MayAsk as MaySweep, SweepHeadline, sweep_plan}
use Rattle.cli_trials.specs.ShrinkAnswers.{MayAsk as MayShrink, ShrinkHeadline, out_of as small_script_name}
use Rattle.cli_plans.specs.Commands.{ShowSplit}
use Rattle.cli_snap.specs.Showing.{asked_in, held_shown}
use Rattle.cli_snap.specs.Answers.{MayAsk, Headline as ShowHeadline, Answers as Shows}
use Rattle.cli_dispatch.specs.declared.choice.TopCall.{TopCall}
use Rattle.cli_dispatch.specs.declared.choice.TopCall.TheVariants.{Live, Snap, Sweep, Shrink, Resume, Show, Others, Survey, Debug}

-- ---- what may be asked of the files

abbrev pub MayAnswer : TopCall → List (List ℕ) → FilesState → Type 0
MayAnswer Survey words files = MayFollow (survey_plan (survey_judged words)) files
MayAnswer Debug words files = MayFollow (survey_plan (debug_judged words)) files
MayAnswer Live words files = MayFollow (live_plan (live_judged words)) files × MaySaveUnder (script_name (live_judged words)) files
MayAnswer Snap words files = MayFollow (snap_plan (snap_judged words)) files × MaySaveUnder (snapshot_name (snap_judged words)) files
MayAnswer Sweep words files = MaySweep (sweep_judged words) files
MayAnswer Shrink words files = MayShrink (shrink_judged words) files
MayAnswer Resume words files = MayFollow (resume_plan (resume_judged words)) files
MayAnswer Show words files = MayAsk (asked_in words) files
MayAnswer Others words files = MayFollow (plan_of (judgement_of_words words)) files

-- ---- what each call owes

-- what stands outside but for the keys
abbrev pub without_keys : LiveOutside → Outside
without_keys all = outside all.files all.sink all.bench

-- a name of the plan isn't held, as the files tell, or a read failed
abbrev pub FailsToRead : Plan → (old new : FilesState) → Type 0
FailsToRead plan old new =
    (IsTrue old.tells × ((name : List ℕ) × IsNamed plan name × (old.held name ≡ None))) ⊎ (old.read_faults < new.read_faults)

-- nothing is saved, and no save fails
abbrev pub SavesNothing : (old new : FilesState) → Type 0
SavesNothing old new = (new.held ≡ old.held) × (new.save_faults ≡ old.save_faults)

-- `survey`
pub record SurveyOwed (words : List (List ℕ)) (old new : LiveOutside) (answer : Status) : Type 0 where
  pub headline : SurveyHeadline (survey_judged words) (without_keys old) (without_keys new) answer
  pub unread : is_ok (survey_judged words) ≡ false → new.files ≡ old.files
  pub unsaved : SavesNothing old.files new.files
  pub keys : new.keys ≡ old.keys

-- `debug`
pub record DebugOwed (words : List (List ℕ)) (old new : LiveOutside) (answer : Status) : Type 0 where
  pub headline : DebugHeadline (debug_judged words) old.files new.files (wire old.keys old.sink) (wire new.keys new.sink) answer
  pub read_fault : answer ≡ Status.ReadFault →
      FailsToRead (survey_plan (debug_judged words)) old.files new.files ⊎ (old.keys.faults < new.keys.faults)
  pub unread : is_ok (debug_judged words) ≡ false → new.files ≡ old.files
  pub unsaved : SavesNothing old.files new.files
  pub bench : new.bench ≡ old.bench

-- `live` and `vlive`
pub record LiveOwed (words : List (List ℕ)) (old new : LiveOutside) (answer : Status) : Type 0 where
  pub headline : LiveHeadline (live_judged words) old new answer
  -- `run`, or `vrun`, over what was saved is due the same
  pub replay : (line : LiveLine) → words ≡ live_line line → HasEnded answer old.keys new.keys → Replays line old new answer
  pub read_fault : answer ≡ Status.ReadFault →
      FailsToRead (live_plan (live_judged words)) old.files new.files ⊎ (old.keys.faults < new.keys.faults)
  pub unread : is_ok (live_judged words) ≡ false → new.files ≡ old.files
  pub unasked : is_refusal answer ≡ true → new.keys ≡ old.keys
  pub held : (name : List ℕ) → (name ≡ script_name (live_judged words) → ⊥) → new.files.held name ≡ old.files.held name
  pub unsaved : (is_refusal answer ≡ true) ⊎ (answer ≡ Status.Memory) → SavesNothing old.files new.files

-- `snap` and `vsnap`
pub record SnapOwed (words : List (List ℕ)) (old new : LiveOutside) (answer : Status) : Type 0 where
  pub headline : SnapHeadline (snap_judged words) (without_keys old) (without_keys new) answer
  pub read_fault : answer ≡ Status.ReadFault → FailsToRead (snap_plan (snap_judged words)) old.files new.files
  pub unread : is_ok (snap_judged words) ≡ false → new.files ≡ old.files
  pub held : (name : List ℕ) → (name ≡ snapshot_name (snap_judged words) → ⊥) → new.files.held name ≡ old.files.held name
  pub keys : new.keys ≡ old.keys

-- `sweep`
pub record SweepOwed (words : List (List ℕ)) (old new : LiveOutside) (answer : Status) : Type 0 where
  pub headline : SweepHeadline (sweep_judged words) old.files new.files old.sink new.sink answer
  pub read_fault : answer ≡ Status.ReadFault → FailsToRead (sweep_plan (sweep_judged words)) old.files new.files
  pub unread : is_ok (sweep_judged words) ≡ false → new.files ≡ old.files
  pub unsaved : SavesNothing old.files new.files
  pub keys : new.keys ≡ old.keys
  pub bench : new.bench ≡ old.bench

-- `shrink`
pub record ShrinkOwed (words : List (List ℕ)) (old new : LiveOutside) (answer : Status) : Type 0 where
  pub headline : ShrinkHeadline (shrink_judged words) old.files new.files old.sink new.sink answer
  pub read_fault : answer ≡ Status.ReadFault → FailsToRead (snap_plan (shrink_judged words)) old.files new.files
  pub unread : is_ok (shrink_judged words) ≡ false → new.files ≡ old.files
  pub held : (name : List ℕ) → (name ≡ small_script_name (shrink_judged words) → ⊥) → new.files.held name ≡ old.files.held name
  pub keys : new.keys ≡ old.keys
  pub bench : new.bench ≡ old.bench

-- a command of a plan, `resume` and those of the top call
pub record PlanOwed (plan : Plan) (is_good : Bool) (old new : LiveOutside) (answer : Status) : Type 0 where
  pub headline : Headline plan (without_keys old) (without_keys new) answer
  pub read_fault : answer ≡ Status.ReadFault → FailsToRead plan old.files new.files
  pub unread : is_good ≡ false → new.files ≡ old.files
  pub held : (name : List ℕ) → (SavesUnder plan name → ⊥) → new.files.held name ≡ old.files.held name
  pub unsaved : ((name : List ℕ) → SavesUnder plan name → ⊥) → SavesNothing old.files new.files
  pub keys : new.keys ≡ old.keys

-- `show`
pub record ShowOwed (words : List (List ℕ)) (old new : LiveOutside) (answer : Status) : Type 0 where
  pub headline : ShowHeadline (asked_in words) old.files new.files old.sink new.sink answer
  -- in files that tell what they hold, what is shown is that
  pub told : (asked : ShowSplit) → asked_in words ≡ Some asked → IsTrue old.files.tells → new.files.read_faults ≡ old.files.read_faults →
      Shows (held_shown old.files.held asked) old.sink new.sink answer
  pub unsaved : SavesNothing old.files new.files
  pub keys : new.keys ≡ old.keys
  pub bench : new.bench ≡ old.bench

-- ---- by the call

abbrev pub Owed : TopCall → List (List ℕ) → (old new : LiveOutside) → Status → Type 0
Owed Survey words old new answer = SurveyOwed words old new answer
Owed Debug words old new answer = DebugOwed words old new answer
Owed Live words old new answer = LiveOwed words old new answer
Owed Snap words old new answer = SnapOwed words old new answer
Owed Sweep words old new answer = SweepOwed words old new answer
Owed Shrink words old new answer = ShrinkOwed words old new answer
Owed Resume words old new answer = PlanOwed (resume_plan (resume_judged words)) (is_ok (resume_judged words)) old new answer
Owed Show words old new answer = ShowOwed words old new answer
Owed Others words old new answer =
    PlanOwed (plan_of (judgement_of_words words)) (is_ok (judgement_of_words words)) old new answer
