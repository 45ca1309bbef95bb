-- What `resume` reads, in which order, and what is due by it. This project's own.
use Rattle.std.specs.Prelude.{ℕ, List, drop, Option, Some, None, Result, Ok, Err}
use Rattle.sv_types.specs.Policies.{Rules}
use Rattle.sv_types.specs.Schedule.{Schedule, first_events}
use Rattle.sv_types.specs.declared.event.Event.{Event}
use Rattle.snapshot_format.specs.Snapshots.{Contents, max_snapshot_bytes, snapshot_read}
use Rattle.snapshot_format.specs.declared.refusal.SnapRefusal.{SnapRefusal}
use Rattle.snapshot_format.specs.Judgements.{resume_refusal}
use Rattle.snapshot_format.specs.ResumedStates.{resumed_state}
use Rattle.snapshot_format.specs.declared.resume.refusal.ResumeRefusal.{ResumeRefusal}
use Rattle.cli_plans.specs.Plans.{Due, Refuse, RunFrom, Plan, End, Judge, asked_plan, read_part, policy_part, script_part}
use Rattle.cli_plans.specs.declared.file_fault.FileFault.{FileFault}
use Rattle.cli_plans.specs.declared.file_fault.Part.{Part}
use Rattle.cli_plans.specs.declared.refusal.Refusal.{Refusal}
use Rattle.cli_plans.specs.declared.refusal.Refusal.TheVariants.{File}
use Rattle.cli_plans.specs.CommandLine.{ResumeWords}

-- ---- the snapshot

abbrev pub contents_judged : (Contents → Plan) → Result Contents SnapRefusal → Plan
contents_judged next (Ok s) = next s
contents_judged next (Err refusal) = End (Refuse (File (FileFault.Snapshot refusal)))

unfoldable pub snapshot_part : (name : List ℕ) → (Contents → Plan) → Plan
snapshot_part name next = read_part Part.Snapshot name max_snapshot_bytes (λ bytes. Judge (contents_judged next (snapshot_read bytes)))

-- ---- what is due

-- the events of a run of which so many were made before
abbrev pub events_after : (made events : ℕ) → Schedule → List Event
events_after made events schedule = drop made (first_events events schedule)

-- a run from the state that the snapshot says, unless it is refused
abbrev pub resumed_due : Rules → Contents → List Event → (save : Option (List ℕ)) → Option ResumeRefusal → Due
resumed_due rules s events save None = RunFrom (resumed_state rules s) events save
resumed_due rules s events save (Some refusal) = Refuse (File (FileFault.Resume refusal))

-- ---- the plan: the snapshot's bytes, the policy and the script, and then whether the snapshot goes on under the policy

unfoldable pub behind_script : ResumeWords → Contents → Rules → Schedule → Plan
behind_script words s rules schedule =
    Judge (End (resumed_due rules s (events_after s.events words.events schedule) words.save (resume_refusal rules s)))

unfoldable pub after_policy : ResumeWords → Contents → Rules → Plan
after_policy words s rules = script_part rules.harts words.script (behind_script words s rules)

unfoldable pub after_snapshot : ResumeWords → Contents → Plan
after_snapshot words s = policy_part words.policy (after_policy words s)

unfoldable pub words_plan : ResumeWords → Plan
words_plan words = snapshot_part words.saved (after_snapshot words)

abbrev pub resume_plan : Result ResumeWords Refusal → Plan
resume_plan words = asked_plan words_plan words
