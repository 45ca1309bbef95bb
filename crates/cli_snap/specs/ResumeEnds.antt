-- That `resume` refuses nothing that is in range, and how it ends then. This project's own.
use Rattle.std.specs.Prelude.{◌≡◌, ◌≤◌, ℕ, List, length, Option, Some, None, Ok}
use Rattle.sv_types.specs.declared.status.Status.{Status}
use Rattle.sv_types.specs.Output.{run_status}
use Rattle.sv_types.specs.Policies.{Rules}
use Rattle.sv_types.specs.Schedule.{Schedule}
use Rattle.policy.specs.Text.{rules_of_text}
use Rattle.script.specs.AutoScripts.{events_of_text, first_refused}
use Rattle.snapshot_format.specs.Snapshots.{Contents, snapshot_read}
use Rattle.snapshot_format.specs.Judgements.{resume_refusal}
use Rattle.snapshot_format.specs.ResumedStates.{resumed_state}
use Rattle.secvisor_cli.specs.Answers.{Outside, Headline}
use Rattle.cli_plans.specs.CommandLine.{Source, Rounds, Auto, Bursts, Text, ResumeWords, resume_judged}
use Rattle.secvisor_cli.specs.DueIn.{AreReadWhole, EndsAs}
use Rattle.cli_plans.specs.Plans.{max_policy_bytes, max_script_bytes}
use Rattle.cli_snap.specs.ResumePlans.{resume_plan}
use Rattle.cli_snap.specs.SnapAndResume.{resumed_end}

-- a text that reads as a policy
pub record HoldPolicy (held : List ℕ → Option (List ℕ)) (name : List ℕ) (rules : Rules) : Type 0 where
  pub text : List ℕ
  pub held_is : held name ≡ Some text
  pub few : length text ≤ max_policy_bytes
  pub reads : rules_of_text text ≡ Ok rules

-- a text of which no line is refused, with its events
pub record HoldText (held : List ℕ → Option (List ℕ)) (name : List ℕ) (harts : ℕ) (script : Schedule) : Type 0 where
  pub text : List ℕ
  pub held_is : held name ≡ Some text
  pub few : length text ≤ max_script_bytes
  pub good : first_refused text ≡ None
  pub reads : script ≡ Schedule.Listed (events_of_text harts text)

-- where the events come from
abbrev pub HoldScript : (held : List ℕ → Option (List ℕ)) → Source → (harts : ℕ) → Schedule → Type 0
HoldScript held Rounds harts script = script ≡ Schedule.Rounds harts 0
HoldScript held (Auto number) harts script = script ≡ Schedule.Auto harts number
HoldScript held (Bursts number) harts script = script ≡ Schedule.Bursts harts 0 0 number
HoldScript held (Text name) harts script = HoldText held name harts script

-- The names of the words hold a snapshot, a policy and a script, each in its range, and the policy doesn't refuse the snapshot.
pub record HoldResumable (held : List ℕ → Option (List ℕ)) (words : ResumeWords) (s : Contents) (rules : Rules) (script : Schedule) : Type 0 where
  -- the snapshot's bytes
  pub bytes : List ℕ
  pub held_is : held words.saved ≡ Some bytes
  pub reads : snapshot_read bytes ≡ Ok s
  pub policy : HoldPolicy held words.policy rules
  pub events : HoldScript held words.script rules.harts script
  pub accepted : resume_refusal rules s ≡ None

-- Nothing is refused: the answer is the status of the verdict in which the run ends that goes on from the snapshot.
abbrev pub ResumeEndsLaw : Type 0
ResumeEndsLaw = (words : List (List ℕ)) (asked : ResumeWords) (s : Contents) (rules : Rules) (script : Schedule) (old new : Outside) (answer : Status) →
    resume_judged words ≡ Ok asked → HoldResumable old.files.held asked s rules script → AreReadWhole old.files new.files →
    Headline (resume_plan (resume_judged words)) old new answer →
    EndsAs (run_status (resumed_end (resumed_state rules s) s.events asked.events script).journal.verdict) old new answer
