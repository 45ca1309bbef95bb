-- From what `resume` performed to each of its clauses.
use Rattle.std.proofs.Common.{◌≡◌, ◌≢◌, ℕ, List, Option, Some, None, Result, Ok, Err}
use Rattle.sv_types.specs.Policies.{Rules}
use Rattle.sv_types.specs.Schedule.{Schedule}
use Rattle.sv_types.specs.declared.event.Event.{Event}
use Rattle.sv_types.specs.declared.status.Status.{Status}
use Rattle.spec_reference.specs.Run.{run}
use Rattle.policy.specs.Text.{rules_of_text}
use Rattle.snapshot_format.specs.Snapshots.{Contents, snapshot_read}
use Rattle.snapshot_format.specs.declared.refusal.SnapRefusal.{SnapRefusal}
use Rattle.snapshot_format.specs.Judgements.{resume_refusal}
use Rattle.snapshot_format.specs.ResumedStates.{resumed_state}
use Rattle.snapshot_format.specs.declared.resume.refusal.ResumeRefusal.{ResumeRefusal}
use Rattle.secvisor_cli.specs.Answers.{Outside, Performs}
use Rattle.host_io.specs.Endings.{status_of_end}
use Rattle.cli_plans.specs.Plans.{Plan, found_plan, policy_part, status_due}
use Rattle.host_io.specs.declared.trouble.Trouble.{Trouble}
use Rattle.cli_plans.proofs.PlanLemmas.{HasFault, HasFoundFaults}
use Rattle.cli_plans.proofs.FoundFaults.{asked_found_faults, policy_found_faults, run_no_read_fault, script_found_faults}
use Rattle.secvisor_cli.proofs.TopLemmas.{plan_fault}
use Rattle.cli_plans.proofs.WordLemmas.{resume_no_read_fault}
use Rattle.cli_snap.specs.ResumePlans.{after_policy, behind_script, after_snapshot, contents_judged, events_after, resume_plan, resumed_due, snapshot_part, words_plan}
use Rattle.cli_plans.specs.CommandLine.{ResumeWords, resume_judged}

-- ---- a read fault

due_no_read_fault : (rules : Rules) (s : Contents) (events : List Event) (save : Option (List ℕ)) (refusal : Option ResumeRefusal) →
    status_due (resumed_due rules s events save refusal) ≢ Status.ReadFault
due_no_read_fault rules s events save None = run_no_read_fault (run (resumed_state rules s) events).journal.verdict
due_no_read_fault rules s events save (Some refusal) = λ e. cc e

script_faults : (words : ResumeWords) (s : Contents) (rules : Rules) (schedule : Schedule) → HasFoundFaults (behind_script words s rules schedule)
unfolding behind_script
script_faults words s rules schedule =
    due_no_read_fault rules s (events_after s.events words.events schedule) words.save (resume_refusal rules s)

policy_faults : (words : ResumeWords) (s : Contents) (rules : Rules) → HasFoundFaults (after_policy words s rules)
unfolding after_policy
policy_faults words s rules = script_found_faults rules.harts words.script (behind_script words s rules) (script_faults words s rules)

snapshot_faults : (words : ResumeWords) (s : Contents) → HasFoundFaults (after_snapshot words s)
unfolding after_snapshot policy_part found_plan
snapshot_faults words s = (λ e. cc e, λ bytes. policy_found_faults (after_policy words s) (rules_of_text bytes) (policy_faults words s))

judged_faults : (next : Contents → Plan) (read : Result Contents SnapRefusal) → ((s : Contents) → HasFoundFaults (next s)) → HasFoundFaults (contents_judged next read)
judged_faults next (Ok s) never = never s
judged_faults next (Err refusal) never = λ e. cc e

words_faults : (words : ResumeWords) → HasFoundFaults (words_plan words)
unfolding words_plan snapshot_part found_plan
words_faults words = (λ e. cc e, λ bytes. judged_faults (after_snapshot words) (snapshot_read bytes) (snapshot_faults words))

pub resume_fault : (words : List (List ℕ)) (old new : Outside) (result : Result Status Trouble) → Performs (resume_plan (resume_judged words)) old new result →
    status_of_end result ≡ Status.ReadFault → HasFault (resume_plan (resume_judged words)) old.files new.files
resume_fault words old new result p is =
    plan_fault (resume_plan (resume_judged words)) old new result (asked_found_faults words_plan (resume_judged words) (resume_no_read_fault words) words_faults) p is
