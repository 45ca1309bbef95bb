-- From what `shrink` answered to each of its clauses.
use Rattle.std.proofs.Common.{◌≡◌, ◌≢◌, ◌≤◌, ℕ, List, false, refl, ap, arith, inl, inr, Option, Some, None, Result, Ok, Err}
use Rattle.std.specs.Result.{is_ok}
use Rattle.sv_types.specs.declared.status.Status.{Status}
use Rattle.host_io.specs.Endings.{status_of_end}
use Rattle.host_io.specs.Outside.{FilesState, SinkState}
use Rattle.host_io.specs.declared.trouble.Trouble.{Trouble}
use Rattle.host_io.specs.declared.trouble.Trouble.TheVariants.{Write, Memory}
use Rattle.cli_plans.specs.declared.refusal.Refusal.{Refusal}
use Rattle.cli_plans.specs.CommandLine.{SnapWords, shrink_judged}
use Rattle.cli_plans.specs.Plans.{Due, Refuse, RunFrom, Make, Saving, run_plan, snap_plan}
use Rattle.cli_plans.specs.Reading.{Follows}
use Rattle.cli_plans.specs.Refusals.{refusal_line, refusal_status}
use Rattle.cli_plans.proofs.FoundFaults.{run_found_faults}
use Rattle.cli_plans.proofs.PlanLemmas.{HasFault, follows_keeps, keeps_same}
use Rattle.cli_plans.proofs.WordLemmas.{NoReadFault, shrink_no_read_fault}
use Rattle.secvisor_cli.specs.Answers.{SavesAndWrites}
use Rattle.secvisor_cli.proofs.SaveLemmas.{ChangesOut, changes_none}
use Rattle.secvisor_cli.proofs.TopLemmas.{EffectOut, effect_out, fault_at, made_changes, wants_no_fault}
use Rattle.cli_trials.proofs.WritingLemmas.{same_rises, written_rises, written_no_fault, refused_fault}
use Rattle.cli_trials.specs.declared.shrink.shrinking.Shrunk.{Shrunk}
use Rattle.cli_trials.specs.declared.shrink.shrinking.Shrunk.TheVariants.{NothingStopped, Made}
use Rattle.cli_trials.specs.Lines.{shrunk_line}
use Rattle.cli_trials.specs.ShrinkAnswers.{AnswersReached, AnswersShrunk, Shrinks, out_of, script_saving}

-- ---- the sink

-- the count of faults doesn't fall
abbrev Rises : SinkState → SinkState → Type 0
Rises old new = old.faults ≤ new.faults

saved_rises : (saving : Saving) (line : List ℕ) (files saved : FilesState) (old new : SinkState) (result : Result Status Trouble) →
    SavesAndWrites saving line files saved old new result → Rises old new
saved_rises saving line files saved old new (Ok status) it = let same : new.faults ≡ old.faults = ap (λ (s : SinkState). s.faults) it.2 in omega (arith, same)
saved_rises saving line files saved old new (Err Write) (inl it) = same_rises old new it.1
saved_rises saving line files saved old new (Err Write) (inr it) = omega (arith, it.1.faults)
saved_rises saving line files saved old new (Err Memory) it = absurd it

shrunk_rises : (name : List ℕ) (shrunk : Shrunk) (files saved : FilesState) (old new : SinkState) (result : Result Status Trouble) →
    AnswersShrunk name shrunk files saved old new result → Rises old new
shrunk_rises name NothingStopped files saved old new result it = written_rises _ (shrunk_line NothingStopped) old new result it.1
shrunk_rises name (Made script) files saved old new result it = saved_rises (script_saving name script) (shrunk_line (Made script)) files saved old new result it

reached_rises : (words : SnapWords) (reached : Option Due) (files saved : FilesState) (old new : SinkState) (result : Result Status Trouble) →
    AnswersReached words reached files saved old new result → Rises old new
reached_rises words None files saved old new result it = same_rises old new it.2
reached_rises words (Some (Refuse refusal)) files saved old new result it = written_rises (refusal_status refusal) (refusal_line refusal) old new result it.1.writes
reached_rises words (Some (RunFrom start events save)) files saved old new result (inl it) = same_rises old new it.2
reached_rises words (Some (RunFrom start events save)) files saved old new result (inr it) = shrunk_rises words.out it.shrunk files saved old new result it.answers
reached_rises words (Some (Make name rules line)) files saved old new result it = absurd it

pub shrink_writes : (judged : Result SnapWords Refusal) (files saved : FilesState) (old new : SinkState) (result : Result Status Trouble) → Shrinks judged files saved old new result → Rises old new
shrink_writes (Err why) files saved old new result it = written_rises (refusal_status why) (refusal_line why) old new result it.1.writes
shrink_writes (Ok words) files saved old new result (inl it) = same_rises old new it.2
shrink_writes (Ok words) files saved old new result (inr it) = reached_rises words it.reached it.read saved old new result it.answers

-- ---- the files

shrunk_changes : (name : List ℕ) (shrunk : Shrunk) (files saved : FilesState) (old new : SinkState) (result : Result Status Trouble) → AnswersShrunk name shrunk files saved old new result →
    ChangesOut name files saved
shrunk_changes name NothingStopped files saved old new result it = changes_none name files saved it.0
shrunk_changes name (Made script) files saved old new result it =
    record { bytes = _; changes = made_changes (script_saving name script) (shrunk_line (Made script)) files saved old new result it }

reached_changes : (words : SnapWords) (reached : Option Due) (files saved : FilesState) (old new : SinkState) (result : Result Status Trouble) →
    AnswersReached words reached files saved old new result → ChangesOut words.out files saved
reached_changes words None files saved old new result it = changes_none words.out files saved it.1
reached_changes words (Some (Refuse refusal)) files saved old new result it = changes_none words.out files saved it.0
reached_changes words (Some (RunFrom start events save)) files saved old new result (inl it) = changes_none words.out files saved it.1
reached_changes words (Some (RunFrom start events save)) files saved old new result (inr it) = shrunk_changes words.out it.shrunk files saved old new result it.answers
reached_changes words (Some (Make name rules line)) files saved old new result it = absurd it

same_effect : (name : List ℕ) (files saved : FilesState) → saved ≡ files → EffectOut name files saved
same_effect name files saved is = effect_out name files files saved (keeps_same files files refl) (changes_none name files saved is)

pub shrink_effect : (judged : Result SnapWords Refusal) (files saved : FilesState) (old new : SinkState) (result : Result Status Trouble) → Shrinks judged files saved old new result →
    EffectOut (out_of judged) files saved
shrink_effect (Err why) files saved old new result it = same_effect _ files saved it.0
shrink_effect (Ok words) files saved old new result (inl it) = same_effect words.out files saved it.1
shrink_effect (Ok words) files saved old new result (inr it) =
    effect_out words.out files it.read saved (follows_keeps (run_plan words.run) files it.read it.reached it.follows) (reached_changes words it.reached it.read saved old new result it.answers)

pub shrink_unread : (judged : Result SnapWords Refusal) (files saved : FilesState) (old new : SinkState) (result : Result Status Trouble) → is_ok judged ≡ false →
    Shrinks judged files saved old new result → saved ≡ files
shrink_unread (Err why) files saved old new result bad it = it.0
shrink_unread (Ok words) files saved old new result bad it = cc bad

-- ---- a read fault

saved_no_fault : (saving : Saving) (line : List ℕ) (files saved : FilesState) (old new : SinkState) (result : Result Status Trouble) → SavesAndWrites saving line files saved old new result →
    status_of_end result ≢ Status.ReadFault
saved_no_fault saving line files saved old new (Ok status) it = λ is. cc (it.0, is)
saved_no_fault saving line files saved old new (Err Write) it = λ is. cc is
saved_no_fault saving line files saved old new (Err Memory) it = λ is. cc is

shrunk_no_fault : (name : List ℕ) (shrunk : Shrunk) (files saved : FilesState) (old new : SinkState) (result : Result Status Trouble) → AnswersShrunk name shrunk files saved old new result →
    status_of_end result ≢ Status.ReadFault
shrunk_no_fault name NothingStopped files saved old new result it = written_no_fault Status.Ended (shrunk_line NothingStopped) old new result (λ e. cc e) it.1
shrunk_no_fault name (Made script) files saved old new result it = saved_no_fault (script_saving name script) (shrunk_line (Made script)) files saved old new result it

reached_fault : (words : SnapWords) (reached : Option Due) (files read saved : FilesState) (old new : SinkState) (result : Result Status Trouble) → Follows (run_plan words.run) files read reached →
    AnswersReached words reached read saved old new result → status_of_end result ≡ Status.ReadFault → HasFault (run_plan words.run) files saved
reached_fault words None files read saved old new result follows it is = absurd (wants_no_fault result it.0 is)
reached_fault words (Some (Refuse refusal)) files read saved old new result follows it is =
    fault_at (run_plan words.run) files read saved (ap (λ (f : FilesState). f.read_faults) it.0)
    (refused_fault (run_plan words.run) refusal files read old new result (run_found_faults words.run) follows it.1.writes is)
reached_fault words (Some (RunFrom start events save)) files read saved old new result follows (inl it) is = absurd (wants_no_fault result it.0 is)
reached_fault words (Some (RunFrom start events save)) files read saved old new result follows (inr it) is =
    absurd (shrunk_no_fault words.out it.shrunk read saved old new result it.answers is)
reached_fault words (Some (Make name rules line)) files read saved old new result follows it is = absurd it

judged_fault : (judged : Result SnapWords Refusal) (files saved : FilesState) (old new : SinkState) (result : Result Status Trouble) → NoReadFault judged → Shrinks judged files saved old new result →
    status_of_end result ≡ Status.ReadFault → HasFault (snap_plan judged) files saved
judged_fault (Err why) files saved old new result never it is = absurd (written_no_fault (refusal_status why) (refusal_line why) old new result never it.1.writes is)
judged_fault (Ok words) files saved old new result never (inl it) is = absurd (wants_no_fault result it.0 is)
judged_fault (Ok words) files saved old new result never (inr it) is = reached_fault words it.reached files it.read saved old new result it.follows it.answers is

pub shrink_fault : (words : List (List ℕ)) (files saved : FilesState) (old new : SinkState) (result : Result Status Trouble) → Shrinks (shrink_judged words) files saved old new result →
    status_of_end result ≡ Status.ReadFault → HasFault (snap_plan (shrink_judged words)) files saved
shrink_fault words files saved old new result it is = judged_fault (shrink_judged words) files saved old new result (shrink_no_read_fault words) it is
