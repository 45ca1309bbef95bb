-- From what was read to the answer of `debug`, and what follows of that.
use Rattle.std.proofs.Common.{◌≡◌, ◌≤◌, ◌<◌, ◌⊎◌, ℕ, List, IsTrue, false, refl, sym, ◌∙◌, ap, subst, arith, inl, inr, Option, Some, None, Result, Ok, Err}
use Rattle.std.specs.Result.{is_ok}
use Rattle.sv_types.specs.Policies.{Rules}
use Rattle.sv_types.specs.Schedule.{first_events}
use Rattle.sv_types.specs.declared.status.Status.{Status}
use Rattle.spec_reference.specs.Start.{boot_start}
use Rattle.host_io.specs.Endings.{status_of_end}
use Rattle.host_io.specs.Outside.{FilesState, SinkState, BreaksOff, after_taking}
use Rattle.host_io.specs.declared.trouble.Trouble.{Trouble}
use Rattle.host_io.specs.declared.trouble.Trouble.TheVariants.{Memory}
use Rattle.live_keys.specs.Keys.{KeysState, before_taking}
use Rattle.debug_session.specs.Runs.{Run}
use Rattle.debug_session.specs.Serving.{answered}
use Rattle.debug_session.specs.declared.breakdown.Breakdown.{Breakdown}
use Rattle.debug_session.specs.declared.breakdown.Breakdown.TheVariants as breakdown
use Rattle.cli_plans.specs.declared.command_words.command.DiskKind.{DiskKind}
use Rattle.cli_plans.specs.declared.refusal.Refusal.{Refusal}
use Rattle.cli_plans.specs.CommandLine.{RunWords, debug_judged}
use Rattle.cli_plans.specs.Plans.{Due, Refuse, RunFrom, Make, run_plan, start_with, survey_plan}
use Rattle.cli_plans.specs.Reading.{Follows, MayFollow}
use Rattle.cli_plans.specs.Refusals.{refusal_line, refusal_status}
use Rattle.cli_plans.proofs.FoundFaults.{run_found_faults}
use Rattle.cli_plans.proofs.PlanLemmas.{HasFault, Keeps, follows_keeps, keeps_same, may_follow}
use Rattle.cli_plans.proofs.WordLemmas.{NoReadFault, debug_no_read_fault}
use Rattle.secvisor_cli.specs.Ready.{Prepares}
use Rattle.secvisor_cli.proofs.ReadyLemmas.{refused_follows, wanting_follows}
use Rattle.secvisor_cli.proofs.TopLemmas.{wants_no_fault}
use Rattle.secvisor_cli.specs.declared.ready.Stop.TheVariants.{Refused}
use Rattle.secvisor_cli.specs.declared.ready.Stop.TheVariants as stop
use Rattle.cli_trials.specs.Orders.{order_schedule}
use Rattle.cli_trials.specs.Reading.{BeginsFrom, run_due}
use Rattle.cli_trials.specs.Writing.{Refuses}
use Rattle.cli_trials.specs.declared.parts.Parts.{Parts}
use Rattle.cli_trials.proofs.WritingLemmas.{refused_fault, written_no_fault, written_rises}
use Rattle.cli_debug.specs.DebugAnswers.{AnswersDebug, AnswersReached, DebugsFiles, DebugsRun, RefusesDebug, Wire, end_of_session, wire}
use Rattle.cli_debug.specs.Debugged.{run_from}
use Rattle.cli_debug.specs.Debugging.{Debugs}
use Rattle.cli_debug.proofs.OneRun.{before_it}

-- ---- from what was read to the answer

abbrev due_of : RunWords → Rules → Parts → Due
due_of words rules parts = run_due words rules parts.image.items parts.disk.items (order_schedule rules.harts parts.order)

-- the run of the project's block device
of_block : (words : RunWords) (rules : Rules) (parts : Parts) (old new : Wire) (result : Result Status Trouble) (kind : DiskKind) → kind ≡ DiskKind.Block →
    DebugsRun (run_from parts.image.items (boot_start rules parts.image.items parts.disk.items) (first_events words.events (order_schedule rules.harts parts.order))) old new result →
    DebugsRun (run_from parts.image.items (start_with kind rules parts.image.items parts.disk.items) (first_events words.events (order_schedule rules.harts parts.order))) old new result
of_block words rules parts old new result kind is it =
    subst (λ (k : DiskKind).
    DebugsRun (run_from parts.image.items (start_with k rules parts.image.items parts.disk.items) (first_events words.events (order_schedule rules.harts parts.order))) old new result)
    (sym is) it

pub debugged_files : (words : RunWords) (parts : Parts) (files read : FilesState) (old new : Wire) (result : Result Status Trouble) → words.kind ≡ DiskKind.Block →
    (begins : BeginsFrom words parts files read) →
    DebugsRun (run_from parts.image.items (boot_start begins.rules parts.image.items parts.disk.items) (first_events words.events (order_schedule begins.rules.harts parts.order))) old new
    result → DebugsFiles words files read old new result
debugged_files words parts files read old new result kind begins it = record {
  reached = Some (due_of words begins.rules parts);
  follows = begins.follows;
  answers = record {
    rules = begins.rules;
    file = parts.image.items;
    disk = parts.disk.items;
    same = ap (λ (k : DiskKind). start_with k begins.rules parts.image.items parts.disk.items) kind;
    held = begins.held;
    debugs = of_block words begins.rules parts old new result words.kind kind it;
  };
}

pub refused_files : (words : RunWords) (files read : FilesState) (given : Refusal) (keys : KeysState) (old new : SinkState) (result : Result Status Trouble) →
    Prepares (run_plan words) files read (Err (Refused given)) → Refuses given old new result → DebugsFiles words files read (wire keys old) (wire keys new) result
refused_files words files read given keys old new result p refuses =
    record { reached = Some (Refuse given); follows = refused_follows (run_plan words) files read given p; answers = (refl, refuses) }

pub wants_files : (words : RunWords) (files read : FilesState) (old : Wire) → Prepares (run_plan words) files read (Err stop.Memory) → DebugsFiles words files read old old (Err Memory)
wants_files words files read old p = record { reached = None; follows = wanting_follows (run_plan words) files read p; answers = (refl, refl) }

-- ---- the words

pub answers_ok : (judged : Result RunWords Refusal) (words : RunWords) (files read : FilesState) (old new : Wire) (result : Result Status Trouble) → judged ≡ Ok words →
    DebugsFiles words files read old new result → AnswersDebug judged files read old new result
answers_ok judged words files read old new result is it = subst (λ (j : Result RunWords Refusal). AnswersDebug j files read old new result) (sym is) (inr it)

pub answers_refused : (judged : Result RunWords Refusal) (why : Refusal) (files : FilesState) (keys : KeysState) (old new : SinkState) (result : Result Status Trouble) → judged ≡ Err why →
    Refuses why old new result → AnswersDebug judged files files (wire keys old) (wire keys new) result
answers_refused judged why files keys old new result is it =
    subst (λ (j : Result RunWords Refusal). AnswersDebug j files files (wire keys old) (wire keys new) result) (sym is) (refl, (refl, it))

pub answers_want : (judged : Result RunWords Refusal) (files : FilesState) (old : Wire) → IsTrue (is_ok judged) → AnswersDebug judged files files old old (Err Memory)
answers_want (Ok words) files old good = inl (refl, refl, refl)
answers_want (Err why) files old good = absurd (cc good)

-- ---- what becomes of the files

pub keeps_files : (judged : Result RunWords Refusal) (files read : FilesState) (old new : Wire) (result : Result Status Trouble) → AnswersDebug judged files read old new result → Keeps files read
keeps_files (Err why) files read old new result it = keeps_same files read it.0
keeps_files (Ok words) files read old new result (inl wants) = keeps_same files read wants.1
keeps_files (Ok words) files read old new result (inr it) = follows_keeps (run_plan words) files read it.reached it.follows

pub unread : (judged : Result RunWords Refusal) (files read : FilesState) (old new : Wire) (result : Result Status Trouble) → is_ok judged ≡ false →
    AnswersDebug judged files read old new result → read ≡ files
unread (Err why) files read old new result bad it = it.0
unread (Ok words) files read old new result bad it = cc bad

-- ---- the counts of faults of the wire don't fall

pub record Rises (old new : Wire) : Type 0 where
  pub writes : old.sink.faults ≤ new.sink.faults
  pub keys : old.keys.faults ≤ new.keys.faults

same_wire : (old new : Wire) → new ≡ old → Rises old new
same_wire old new is =
    let sinks : new.sink.faults ≡ old.sink.faults = ap (λ (w : Wire). w.sink.faults) is in
    let keys : new.keys.faults ≡ old.keys.faults = ap (λ (w : Wire). w.keys.faults) is in
    record { writes = omega (arith, sinks); keys = omega (arith, keys) }

took_rises : (keys left : KeysState) (input : List ℕ) → keys ≡ before_taking input left → keys.faults ≤ left.faults
took_rises keys left input is = let same : keys.faults ≡ left.faults = ap (λ (k : KeysState). k.faults) is in omega (arith, same)

all_rises : (old new : SinkState) (bytes : List ℕ) → new ≡ after_taking old bytes → old.faults ≤ new.faults
all_rises old new bytes is = let same : new.faults ≡ old.faults = ap (λ (s : SinkState). s.faults) is in omega (arith, same)

broke_rises : (old new : SinkState) (bytes : List ℕ) → BreaksOff old new bytes → old.faults ≤ new.faults
broke_rises old new bytes broke = omega (arith, broke.faults)

served_rises : (run : Run) (old new : Wire) (served : Result (Unit {0}) Breakdown) → Debugs run old.keys new.keys old.sink new.sink served → Rises old new
served_rises run old new (Ok done) it =
    record { writes = all_rises old.sink new.sink (answered run it.input) (it.wrote run refl); keys = took_rises old.keys new.keys it.input it.took }
served_rises run old new (Err breakdown.Read) it =
    let more = it.faults in
    record { writes = all_rises old.sink new.sink (answered run it.input) (it.wrote run refl); keys = omega (arith, more) }
served_rises run old new (Err breakdown.Write) it =
    record { writes = broke_rises old.sink new.sink (answered run it.input) (it.broke run refl); keys = took_rises old.keys new.keys it.input it.took }
served_rises run old new (Err breakdown.Memory) it =
    let same = it.faults in
    record { writes = omega (arith, same); keys = took_rises old.keys new.keys it.input it.took }

refused_rises : (refusal : Refusal) (old new : Wire) (result : Result Status Trouble) → RefusesDebug refusal old new result → Rises old new
refused_rises refusal old new result it =
    let same : new.keys.faults ≡ old.keys.faults = ap (λ (k : KeysState). k.faults) it.0 in
    record { writes = written_rises (refusal_status refusal) (refusal_line refusal) old.sink new.sink result it.1.writes; keys = omega (arith, same) }

reached_rises : (image : List ℕ) (files : FilesState) (reached : Option Due) (old new : Wire) (result : Result Status Trouble) → AnswersReached image files reached old new result → Rises old new
reached_rises image files None old new result it = same_wire old new it.1
reached_rises image files (Some (Refuse refusal)) old new result it = refused_rises refusal old new result it
reached_rises image files (Some (RunFrom start events save)) old new result it = served_rises (run_from it.file start events) old new it.debugs.served it.debugs.debugs
reached_rises image files (Some (Make name rules line)) old new result it = absurd it

pub rises : (judged : Result RunWords Refusal) (files read : FilesState) (old new : Wire) (result : Result Status Trouble) → AnswersDebug judged files read old new result → Rises old new
rises (Err why) files read old new result it = refused_rises why old new result it.1
rises (Ok words) files read old new result (inl wants) = same_wire old new wants.2
rises (Ok words) files read old new result (inr it) = reached_rises words.image files it.reached old new result it.answers

-- ---- a read fault

-- a file's, or one of the bytes that come in
abbrev pub FaultOf : RunWords → (files read : FilesState) (old new : Wire) → Type 0
FaultOf words files read old new = HasFault (run_plan words) files read ⊎ (old.keys.faults < new.keys.faults)

served_fault : (run : Run) (old new : Wire) (served : Result (Unit {0}) Breakdown) → Debugs run old.keys new.keys old.sink new.sink served →
    status_of_end (end_of_session served) ≡ Status.ReadFault → old.keys.faults < new.keys.faults
served_fault run old new (Ok done) it is = absurd (cc is)
served_fault run old new (Err breakdown.Read) it is = it.faults
served_fault run old new (Err breakdown.Write) it is = absurd (cc is)
served_fault run old new (Err breakdown.Memory) it is = absurd (cc is)

reached_fault : (words : RunWords) (reached : Option Due) (files read : FilesState) (old new : Wire) (result : Result Status Trouble) → Follows (run_plan words) files read reached →
    AnswersReached words.image files reached old new result → status_of_end result ≡ Status.ReadFault → FaultOf words files read old new
reached_fault words None files read old new result follows it is = absurd (wants_no_fault result it.0 is)
reached_fault words (Some (Refuse refusal)) files read old new result follows it is =
    inl (refused_fault (run_plan words) refusal files read old.sink new.sink result (run_found_faults words) follows it.1.writes is)
reached_fault words (Some (RunFrom start events save)) files read old new result follows it is =
    inr (served_fault (run_from it.file start events) old new it.debugs.served it.debugs.debugs (sym (ap status_of_end it.debugs.result_is) ∙ is))
reached_fault words (Some (Make name rules line)) files read old new result follows it is = absurd it

judged_fault : (judged : Result RunWords Refusal) (files read : FilesState) (old new : Wire) (result : Result Status Trouble) → NoReadFault judged →
    AnswersDebug judged files read old new result → status_of_end result ≡ Status.ReadFault → HasFault (survey_plan judged) files read ⊎ (old.keys.faults < new.keys.faults)
judged_fault (Err why) files read old new result never it is =
    absurd (written_no_fault (refusal_status why) (refusal_line why) old.sink new.sink result never it.1.1.writes is)
judged_fault (Ok words) files read old new result never (inl wants) is = absurd (wants_no_fault result wants.0 is)
judged_fault (Ok words) files read old new result never (inr it) is = reached_fault words it.reached files read old new result it.follows it.answers is

pub debug_fault : (words : List (List ℕ)) (files read : FilesState) (old new : Wire) (result : Result Status Trouble) → AnswersDebug (debug_judged words) files read old new result →
    status_of_end result ≡ Status.ReadFault → HasFault (survey_plan (debug_judged words)) files read ⊎ (old.keys.faults < new.keys.faults)
debug_fault words files read old new result it is = judged_fault (debug_judged words) files read old new result (debug_no_read_fault words) it is

-- where all names may be asked for
pub may_debug : (words : List (List ℕ)) (files : FilesState) → ((asked : List (List ℕ × ℕ)) → IsTrue (files.permits asked)) →
    ((saves : List (List ℕ × List ℕ)) → IsTrue (files.permits_save saves)) → MayFollow (survey_plan (debug_judged words)) files
may_debug words files all saves = may_follow (survey_plan (debug_judged words)) files all saves

-- memory ran out before the session
pub wanted_before : (run : Run) (keys : KeysState) (sink : SinkState) (result : Result Status Trouble) → result ≡ Err Memory → DebugsRun run (wire keys sink) (wire keys sink) result
wanted_before run keys sink result is = record { served = Err breakdown.Memory; debugs = before_it run keys sink; result_is = is }
