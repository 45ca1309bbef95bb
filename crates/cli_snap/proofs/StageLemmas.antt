-- The stages of the plan of `resume`.
use Rattle.std.proofs.Common.{◌≡◌, ◌≤◌, ℕ, List, true, refl, sym, ap, subst, inl, inr, Option, Some, None, Result, Ok, Err}
use Rattle.std.specs.Option.{option_copied}
use Rattle.sv_types.specs.Limits.{max_events}
use Rattle.sv_types.specs.Policies.{Rules}
use Rattle.sv_types.specs.Schedule.{first_events}
use Rattle.sv_types.specs.declared.event.Event.{Event}
use Rattle.spec_reference.specs.Counting.{CountsAtMost}
use Rattle.spec_reference.specs.States.{Journal}
use Rattle.host_io.specs.Outside.{FilesState}
use Rattle.snapshot_format.specs.Snapshots.{Contents, contents, max_snapshot_bytes, snapshot, snapshot_read}
use Rattle.snapshot_format.specs.declared.refusal.SnapRefusal.{SnapRefusal}
use Rattle.snapshot_format.specs.declared.whole.Snapshot.{Snapshot}
use Rattle.snapshot_format.specs.Judgements.{resume_refusal}
use Rattle.snapshot_format.specs.ResumedStates.{resumed_state}
use Rattle.snapshot_format.specs.declared.resume.refusal.ResumeRefusal.{ResumeRefusal}
use Rattle.cli_plans.specs.Plans.{Due, Refuse, RunFrom, Plan, End, Judge, Held}
use Rattle.cli_plans.specs.Reading.{FoundAs, Follows, MayFollow}
use Rattle.secvisor_cli.specs.Ready.{IsRunnable, PartRead, Passes, Prepares, Staged}
use Rattle.cli_plans.specs.declared.file_fault.FileFault.{FileFault}
use Rattle.cli_plans.specs.declared.file_fault.Part.{Part}
use Rattle.secvisor_cli.specs.declared.ready.PreparedRun.{PreparedRun}
use Rattle.secvisor_cli.specs.declared.ready.Stop.{Stop}
use Rattle.secvisor_cli.specs.declared.ready.Stop.TheVariants.{Refused, Memory}
use Rattle.cli_plans.specs.declared.refusal.Refusal.TheVariants.{File}
use Rattle.secvisor_cli.proofs.ReadyLemmas.{end_ready, judge_ready, judge_wants, read_ready, stopped_ready}
use Rattle.secvisor_cli.proofs.StageLemmas.{read_follows, read_may, read_faults, pass_ready}
use Rattle.cli_snap.specs.ResumePlans.{contents_judged, snapshot_part, resumed_due}
use Rattle.cli_snap.specs.ResumeReady.{IsMachine, IsResumed, IsSnapshot, Resumes}
use Rattle.cli_snap.proofs.CountLemmas.{counted}

-- ---- the snapshot

pub snapshot_staged : (name bytes : List ℕ) (old new : FilesState) (result : Result Snapshot Stop) → FoundAs old new name max_snapshot_bytes (Held bytes) →
    IsSnapshot (snapshot_read bytes) result → Staged (snapshot_part name) contents old new result
unfolding snapshot_part
snapshot_staged name bytes old new (Ok s) fact is = record {
  follows = λ next last reached follows.
      read_follows Part.Snapshot name max_snapshot_bytes (λ b. Judge (contents_judged next (snapshot_read b))) old new last bytes reached fact
      (inr (subst (λ (j : Result Contents SnapRefusal). Follows (contents_judged next j) new last reached) (sym is) follows));
  may = λ next may.
      subst (λ (j : Result Contents SnapRefusal). MayFollow (contents_judged next j) new) is
      (read_may Part.Snapshot name max_snapshot_bytes (λ b. Judge (contents_judged next (snapshot_read b))) old new bytes fact may);
  faults = read_faults name max_snapshot_bytes old new bytes fact;
}
snapshot_staged name bytes old new (Err (Refused refusal)) fact is = λ next.
    read_ready Part.Snapshot name max_snapshot_bytes (λ b. Judge (contents_judged next (snapshot_read b))) old new new bytes _ fact
    (judge_ready _ new new _ (subst (λ (j : Result Contents SnapRefusal). Prepares (contents_judged next j) new new (Err (Refused refusal))) (sym is.1)
    (end_ready (Refuse (File (FileFault.Snapshot is.0))) new _ is.2)))
snapshot_staged name bytes old new (Err Memory) fact is = λ next.
    read_ready Part.Snapshot name max_snapshot_bytes (λ b. Judge (contents_judged next (snapshot_read b))) old new new bytes _ fact (judge_wants _ new)

pub snapshot_unread : (name : List ℕ) (old new : FilesState) (stop : Stop) → PartRead Part.Snapshot name max_snapshot_bytes old new (Err stop) →
    Staged {T = Snapshot} (snapshot_part name) contents old new (Err stop)
unfolding snapshot_part
snapshot_unread name old new stop it = λ next. stopped_ready _ _ _ _ old new stop it

-- ---- any stage

-- what is ready after a stage that passes
pub pass : {A : Type 0} (stage : (A → Plan) → Plan) (value : A) (next : A → Plan) (old now new : FilesState) (result : Result PreparedRun Stop) →
    Passes stage value old now → Resumes (next value) now new result → Resumes (stage next) old new result
pass stage value next old now new (Ok booted) passes on =
    record { start = on.start; follows = passes.follows next new _ on.follows; is_new = on.is_new; runnable = on.runnable }
pass stage value next old now new (Err stop) passes p = pass_ready stage value next old now new (Err stop) passes p

pub judge_end : (due : Due) (files : FilesState) (result : Result PreparedRun Stop) → IsResumed due result → Resumes (Judge (End due)) files files result
judge_end (RunFrom start events save) files (Ok booted) it = record {
  start = start;
  follows =
      subst (λ (es : List Event). Follows (Judge (End (RunFrom start events save))) files files (Some (RunFrom start es (option_copied booted.save)))) (sym it.1)
      (subst (λ (name : Option (List ℕ)). Follows (Judge (End (RunFrom start events save))) files files (Some (RunFrom start events name))) (sym it.2) (inr (refl, refl)));
  is_new = it.0;
  runnable = it.3;
}
judge_end (Refuse why) files (Err (Refused refusal)) it = record { reached = Some (Refuse why); follows = inr (refl, refl); ready = it }
judge_end due files (Err Memory) it = record { reached = None; follows = inl (refl, refl); ready = refl }
judge_end _ files _ it = absurd it

-- ---- the machine

pub resumed_stop : (rules : Rules) (s : Contents) (events : List Event) (save : Option (List ℕ)) (stop : Stop) → IsMachine rules s (Err stop) →
    IsResumed (resumed_due rules s events save (resume_refusal rules s)) (Err stop)
resumed_stop rules s events save (Refused refusal) it =
    subst (λ (o : Option ResumeRefusal). IsResumed (resumed_due rules s events save o) (Err (Refused refusal))) (sym it.1) it.2
resumed_stop rules s events save Memory it =
    elim (resume_refusal rules s) as (λ o. IsResumed (resumed_due rules s events save o) (Err Memory)) [
      | None ↦ tt
      | Some why ↦ tt
    ]

runnable : (rules : Rules) (s : Contents) (booted : PreparedRun) → snapshot.has s ≡ true → booted.events ≤ max_events → IsMachine rules s (Ok booted.machine) → IsRunnable booted
unfolding resumed_state
runnable rules s booted has few it = record {
  events = few;
  state = record { state = _; stands = it.1.stands };
  counts = subst (λ (j : Journal). CountsAtMost max_events j.counts) (sym it.2) (counted s has);
  console = ap (λ (j : Journal). j.printed) it.2;
}

pub resumed_ready : (rules : Rules) (s : Contents) (events : List Event) (booted : PreparedRun) → snapshot.has s ≡ true → booted.events ≤ max_events → IsMachine rules s (Ok booted.machine) →
    first_events booted.events booted.script ≡ events → IsResumed (resumed_due rules s events (option_copied booted.save) (resume_refusal rules s)) (Ok booted)
resumed_ready rules s events booted has few it left =
    subst (λ (o : Option ResumeRefusal). IsResumed (resumed_due rules s events (option_copied booted.save) o) (Ok booted)) (sym it.0)
    (it.1, left, refl, runnable rules s booted has few it)
