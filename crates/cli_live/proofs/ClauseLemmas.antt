-- From what `live` performed to each of its clauses.
use Rattle.std.proofs.Common.{◌≡◌, ◌≢◌, ◌<◌, ◌≤◌, ◌⊎◌, ℕ, List, [], Bool, true, false, IsTrue, refl, sym, ◌∙◌, ap, subst, arith, inl, inr, Option, Some, None, Result, Ok, Err}
use Rattle.std.specs.Result.{is_ok}
use Rattle.sv_types.specs.declared.event.Event.{Event}
use Rattle.sv_types.specs.declared.event.Verdict.{Verdict}
use Rattle.sv_types.specs.declared.event.Verdict.TheVariants.{Running, Shutdown, Stopped}
use Rattle.sv_types.specs.declared.status.Status.{Status}
use Rattle.sv_types.specs.Output.{run_status}
use Rattle.sv_types.specs.Schedule.{Schedule}
use Rattle.spec_reference.specs.Report.{output}
use Rattle.spec_reference.specs.Run.{run}
use Rattle.spec_reference.specs.States.{State}
use Rattle.host_io.specs.Outside.{FilesState, after_taking, SinkState}
use Rattle.machine.proofs.Standing.{stands_disk}
use Rattle.live_keys.specs.Keys.{KeysState}
use Rattle.live_keys.specs.Placed.{keys_among}
use Rattle.cli_live.specs.Inputs.{WasRead}
use Rattle.cli_plans.specs.declared.refusal.Refusal.{Refusal}
use Rattle.cli_plans.specs.declared.refusal.Refusal.TheVariants.{NoCommand, OutOfRange, ReadFault, File, Measure, Entry}
use Rattle.host_io.specs.declared.trouble.Trouble.{Trouble}
use Rattle.host_io.specs.declared.trouble.Trouble.TheVariants.{Write, Memory}
use Rattle.cli_plans.specs.Refusals.{refusal_status}
use Rattle.cli_plans.specs.CommandLine.{Auto, unless_none, LiveWords, unsaved_run, live_judged}
use Rattle.cli_plans.specs.Plans.{Due, Refuse, RunFrom, Make, Saving, Plan, run_plan, live_plan}
use Rattle.cli_plans.specs.Reading.{Follows}
use Rattle.secvisor_cli.specs.Answers.{outside, Writes, SavedAfter}
use Rattle.host_io.specs.Endings.{status_of_end}
use Rattle.cli_plans.proofs.PlanLemmas.{asked_unread, Keeps, HasFault, HasFoundFaults, follows_keeps}
use Rattle.secvisor_cli.proofs.SaveLemmas.{changes, exact_saving, ChangesOut, changes_none, writes_faults}
use Rattle.cli_plans.proofs.FoundFaults.{asked_found_faults, run_found_faults, run_no_read_fault}
use Rattle.secvisor_cli.proofs.TopLemmas.{EffectOut, changes_vain, effect_out, refused_status, refused_fault, wants_no_fault}
use Rattle.cli_plans.proofs.WordLemmas.{live_no_read_fault}
use Rattle.cli_live.specs.LiveAnswers.{LiveOutside, live_outside, IsScriptOf, SavesScript, read_status, after_reading, is_refusal, RunsLive, AnswersLive, AnswersLiveReached, PerformsLive}
use Rattle.cli_live.specs.LiveReady.{out_of}
use Rattle.cli_live.specs.Replays.{LiveLine, live_line, HasEnded, is_of_run, Replays}
use Rattle.cli_live.proofs.PlanLemmas.{judge_gives}
use Rattle.cli_live.proofs.ReplayLemmas.{LineGood, RunGives, line_good, run_gives, run_due, words_due, journal_few}

-- ---- a run whose script was saved

-- all was written and saved
record HasSaved (harts : ℕ) (journal : List Event) (name : List ℕ) (old new : FilesState) (written : Result Status Trouble) (failed : Bool) (answer : Status) : Type 0 where
  pub status : Status
  pub written_is : written ≡ Ok status
  pub text : List ℕ
  pub script : IsScriptOf harts journal text
  pub held : IsTrue old.tells → new.held name ≡ Some text
  pub answer_is : answer ≡ read_status failed status

saved_ok : (harts : ℕ) (journal : List Event) (name : List ℕ) (old new : FilesState) (status answer : Status) (failed : Bool) (saved : Result Status Trouble) (text : List ℕ) →
    IsScriptOf harts journal text →
    SavedAfter (Some (exact_saving name text)) old new (Ok status) saved → Ok answer ≡ after_reading failed saved → HasSaved harts journal name old new (Ok status) failed answer
saved_ok harts journal name old new status answer failed saved text script (inl it) is =
    let same : Ok answer ≡ Ok (read_status failed status) = is ∙ ap (λ (r : Result Status Trouble). after_reading failed r) it.1 in
    record {
      status = status;
      written_is = refl;
      text = text;
      script = script;
      held = λ tells. it.0.held tells ∙ ap Some it.0.content;
      answer_is = cc same;
    }
saved_ok harts journal name old new status answer failed saved text script (inr it) is =
    let same : Ok answer ≡ Err Write = is ∙ ap (λ (r : Result Status Trouble). after_reading failed r) it.1 in absurd (cc same)

has_saved : (harts : ℕ) (journal : List Event) (name : List ℕ) (old new : FilesState) (written saved : Result Status Trouble) (failed : Bool) (answer : Status) →
    SavesScript harts journal name old new written saved → Ok answer ≡ after_reading failed saved → HasSaved harts journal name old new written failed answer
has_saved harts journal name old new (Err trouble) saved failed answer it is =
    let same : Ok answer ≡ Err trouble = is ∙ ap (λ (r : Result Status Trouble). after_reading failed r) it.1 in absurd (cc same)
has_saved harts journal name old new (Ok status) saved failed answer it is = saved_ok harts journal name old new status answer failed saved it.0 it.1 it.2 is

-- the status of a run, or that of a read of the keys that failed
abbrev pub RunAnswer : Verdict → (old new : KeysState) → Status → Type 0
RunAnswer verdict old new answer = (answer ≡ run_status verdict) ⊎ ((answer ≡ Status.ReadFault) × (old.faults < new.faults))

answer_by : (failed : Bool) (verdict : Verdict) (old new : KeysState) (status answer : Status) → (failed ≡ true → old.faults < new.faults) → status ≡ run_status verdict → answer ≡
    read_status failed status →
    RunAnswer verdict old new answer
answer_by true verdict old new status answer rose is same = inr (same, rose refl)
answer_by false verdict old new status answer rose is same = inl (same ∙ is)

-- what is known of a run that answered a status
pub record IsDone (start : State) (journal : List Event) (name : List ℕ) (old new : LiveOutside) (answer : Status) : Type 0 where
  pub bytes : new.sink ≡ after_taking old.sink (output (run start journal))
  pub status : RunAnswer (run start journal).journal.verdict old.keys new.keys answer
  pub text : List ℕ
  pub script : IsScriptOf start.rules.harts journal text
  pub held : IsTrue old.files.tells → new.files.held name ≡ Some text

pub is_done : (start : State) (asked : List Event) (name : List ℕ) (old new : LiveOutside) (answer : Status) → (r : RunsLive start asked name old new (Ok answer)) →
    IsDone start r.journal name old new answer
is_done start asked name old new answer r =
    let last : State = run start r.journal in
    let s = has_saved start.rules.harts r.journal name old.files new.files r.written r.saved r.ended.read_failed answer r.saves r.status in
    let w : Writes (run_status last.journal.verdict) (output last) old.sink new.sink (Ok s.status) =
    subst (λ (x : Result Status Trouble). Writes (run_status last.journal.verdict) (output last) old.sink new.sink x) s.written_is r.writes in
    record {
      bytes = w.whole;
      status = answer_by r.ended.read_failed last.journal.verdict old.keys new.keys s.status answer r.keys.read.failed w.status s.answer_is;
      text = s.text;
      script = s.script;
      held = s.held;
    }

-- ---- the replay

run_replays : (line : LiveLine) (words : LiveWords) (old new : LiveOutside) (read : FilesState) (start : State) (asked : List Event) (save : Option (List ℕ)) (answer : Status) → LineGood line words →
    Follows (live_plan (Ok words)) old.files read (Some (RunFrom start asked save)) →
    RunsLive start asked words.out (live_outside read old.sink old.keys old.bench) new (Ok answer) → Replays line old new answer
run_replays line words old new read start asked save answer good follows r =
    let reads : Follows (run_plan (unsaved_run line.kind line.image line.policy line.disk (Auto 0) good.count)) old.files read (Some (RunFrom start asked save)) =
    subst (λ (w : LiveWords). Follows (run_plan w.run) old.files read (Some (RunFrom start asked save))) good.words_are
    (judge_gives (run_plan words.run) old.files read (RunFrom start asked save) follows) in
    let g : RunGives line good.count old.files start asked = run_gives line good.count old.files read start asked save reads in
    let d : IsDone start r.journal words.out (live_outside read old.sink old.keys old.bench) new answer = is_done start asked words.out (live_outside read old.sink old.keys old.bench) new answer r in
    let k : Keeps old.files read = follows_keeps _ old.files read _ reads in
    let script : IsScriptOf g.rules.harts r.journal d.text = subst (λ (harts : ℕ). IsScriptOf harts r.journal d.text) g.good.harts d.script in
    record {
      start = start;
      journal = r.journal;
      parts = g.parts;
      found = g.found;
      text = d.text;
      saved = λ tells.
          ap (λ (w : LiveWords). new.files.held w.out) (sym good.words_are) ∙ d.held (subst (λ (b : Bool). IsTrue b) (sym k.tells) tells);
      bytes = d.bytes;
      status = d.status;
      disk = (r.bench.0, r.bench.1, stands_disk r.bench.0 (run start r.journal) r.bench.2.cleared r.bench.2.stands);
      few = journal_few r.journal r.left asked r.keys.bytes (keys_among r.journal) good.count (Schedule.Auto g.rules.harts 0) r.others g.asked_are good.few refl r.keys.front r.keys.read.few;
      again = λ held name events disk holds is names dash enough few.
          words_due line words name events disk held good names dash few
          ∙ run_due line g.rules g.parts start r.journal held name d.text events (unless_none disk) g.good holds is script enough;
    }

-- a refusal is no run that came to its end
refusal_unfinished : (refusal : Refusal) → is_of_run (refusal_status refusal) ≡ false
refusal_unfinished NoCommand = refl
refusal_unfinished (OutOfRange word) = refl
refusal_unfinished (ReadFault part) = refl
refusal_unfinished (File fault) = refl
refusal_unfinished (Measure found wanted) = refl
refusal_unfinished (Entry entry) = refl

refused_unended : (refusal : Refusal) (old new : LiveOutside) (answer : Status) → AnswersLive [] (Refuse refusal) old new (Ok answer) → HasEnded answer old.keys new.keys → ⊥
refused_unended refusal old new answer a (inl is) =
    let status : answer ≡ refusal_status refusal = refused_status refusal (outside old.files old.sink old.bench) (outside new.files new.sink new.bench) answer a.0 in
    cc (is, ap is_of_run status, refusal_unfinished refusal)
refused_unended refusal old new answer a (inr it) =
    let rose = it.1 in
    let same : new.keys.faults ≡ old.keys.faults = ap (λ (k : KeysState). k.faults) a.1 in
    omega arith

reached_replays : (line : LiveLine) (words : Result LiveWords Refusal) (reached : Option Due) (old new : LiveOutside) (read : FilesState) (answer : Status) → live_judged (live_line line) ≡ words →
    Follows (live_plan words) old.files read reached → AnswersLiveReached (out_of words) reached (live_outside read old.sink old.keys old.bench) new (Ok answer) → HasEnded answer old.keys new.keys →
    Replays line old new answer
reached_replays line words None old new read answer is follows a ended = absurd (cc a.0)
reached_replays line words (Some (Refuse refusal)) old new read answer is follows a ended = absurd (refused_unended refusal (live_outside read old.sink old.keys old.bench) new answer a ended)
reached_replays line words (Some (Make out rules printed)) old new read answer is follows a ended = absurd a
reached_replays line (Err refusal) (Some (RunFrom start asked save)) old new read answer is follows a ended = absurd (cc follows.0)
reached_replays line (Ok words) (Some (RunFrom start asked save)) old new read answer is follows (inl a) ended =
    run_replays line words old new read start asked save answer (line_good line words is) follows a.1
reached_replays line (Ok words) (Some (RunFrom start asked save)) old new read answer is follows (inr a) ended = absurd (cc a.2)

pub replays : (line : LiveLine) (words : Result LiveWords Refusal) (old new : LiveOutside) (result : Result Status Trouble) → live_judged (live_line line) ≡ words → PerformsLive words old new result →
    HasEnded (status_of_end result) old.keys new.keys → Replays line old new (status_of_end result)
replays line words old new (Ok answer) is p ended = reached_replays line words p.reached old new p.read answer is p.follows p.answers ended
replays line words old new (Err Write) is p (inl ended) = absurd (cc ended)
replays line words old new (Err Write) is p (inr ended) = absurd (cc ended.0)
replays line words old new (Err Memory) is p (inl ended) = absurd (cc ended)
replays line words old new (Err Memory) is p (inr ended) = absurd (cc ended.0)

-- ---- a run's status is neither a refusal's nor that of running out of memory

run_no_refusal : (verdict : Verdict) → is_refusal (run_status verdict) ≡ false
run_no_refusal Running = refl
run_no_refusal Shutdown = refl
run_no_refusal (Stopped rule hart turn) = refl

run_no_memory : (verdict : Verdict) → run_status verdict ≢ Status.Memory
run_no_memory Running = λ e. cc e
run_no_memory Shutdown = λ e. cc e
run_no_memory (Stopped rule hart turn) = λ e. cc e

answer_no_refusal : (verdict : Verdict) (old new : KeysState) (answer : Status) → RunAnswer verdict old new answer → is_refusal answer ≡ true → ⊥
answer_no_refusal verdict old new answer (inl is) refused = cc (refused, ap is_refusal is, run_no_refusal verdict)
answer_no_refusal verdict old new answer (inr it) refused = cc (refused, ap is_refusal it.0)

run_unrefused : (start : State) (asked : List Event) (name : List ℕ) (old new : LiveOutside) (result : Result Status Trouble) → RunsLive start asked name old new result →
    is_refusal (status_of_end result) ≡ true → ⊥
run_unrefused start asked name old new (Ok answer) r refused =
    answer_no_refusal (run start r.journal).journal.verdict old.keys new.keys answer (is_done start asked name old new answer r).status refused
run_unrefused start asked name old new (Err Write) r refused = cc refused
run_unrefused start asked name old new (Err Memory) r refused = cc refused

-- ---- the counts

reached_writes : (name : List ℕ) (reached : Option Due) (old new : LiveOutside) (result : Result Status Trouble) → AnswersLiveReached name reached old new result → old.sink.faults ≤ new.sink.faults
reached_writes name None old new result a = let same : new.sink.faults ≡ old.sink.faults = ap (λ (o : LiveOutside). o.sink.faults) a.1 in omega arith
reached_writes name (Some (Refuse refusal)) old new result a = writes_faults _ _ old.sink new.sink a.0.written a.0.writes
reached_writes name (Some (RunFrom start asked save)) old new result (inl a) = writes_faults _ _ old.sink new.sink a.1.written a.1.writes
reached_writes name (Some (RunFrom start asked save)) old new result (inr a) =
    let same : new.sink.faults ≡ old.sink.faults = ap (λ (k : SinkState). k.faults) a.0.sink in omega arith
reached_writes name (Some (Make out rules line)) old new result a = absurd a

pub live_writes : (words : Result LiveWords Refusal) (old new : LiveOutside) (result : Result Status Trouble) → PerformsLive words old new result → old.sink.faults ≤ new.sink.faults
live_writes words old new result p = reached_writes (out_of words) p.reached (live_outside p.read old.sink old.keys old.bench) new result p.answers

read_faults : (old new : KeysState) (bytes : List ℕ) (failed : Bool) → WasRead old new bytes failed → old.faults ≤ new.faults
read_faults old new bytes true r = let rose = r.failed refl in omega arith
read_faults old new bytes false r = let same = r.no_fault refl in omega arith

same_keys : (old new : KeysState) → new ≡ old → old.faults ≤ new.faults
same_keys old new is = let same : new.faults ≡ old.faults = ap (λ (k : KeysState). k.faults) is in omega arith

reached_keys : (name : List ℕ) (reached : Option Due) (old new : LiveOutside) (result : Result Status Trouble) → AnswersLiveReached name reached old new result → old.keys.faults ≤ new.keys.faults
reached_keys name None old new result a = same_keys old.keys new.keys (ap (λ (o : LiveOutside). o.keys) a.1)
reached_keys name (Some (Refuse refusal)) old new result a = same_keys old.keys new.keys a.1
reached_keys name (Some (RunFrom start asked save)) old new result (inl a) = read_faults old.keys new.keys a.1.keys.bytes a.1.ended.read_failed a.1.keys.read
reached_keys name (Some (RunFrom start asked save)) old new result (inr a) = same_keys old.keys new.keys a.1
reached_keys name (Some (Make out rules line)) old new result a = absurd a

pub live_keys : (words : Result LiveWords Refusal) (old new : LiveOutside) (result : Result Status Trouble) → PerformsLive words old new result → old.keys.faults ≤ new.keys.faults
live_keys words old new result p = reached_keys (out_of words) p.reached (live_outside p.read old.sink old.keys old.bench) new result p.answers

-- ---- no key was read

reached_keyless : (name : List ℕ) (reached : Option Due) (old new : LiveOutside) (result : Result Status Trouble) → AnswersLiveReached name reached old new result →
    is_refusal (status_of_end result) ≡ true → new.keys ≡ old.keys
reached_keyless name None old new result a refused = ap (λ (o : LiveOutside). o.keys) a.1
reached_keyless name (Some (Refuse refusal)) old new result a refused = a.1
reached_keyless name (Some (RunFrom start asked save)) old new result (inl a) refused = absurd (run_unrefused start asked name old new result a.1 refused)
reached_keyless name (Some (RunFrom start asked save)) old new result (inr a) refused = a.1
reached_keyless name (Some (Make out rules line)) old new result a refused = absurd a

pub live_keyless : (words : Result LiveWords Refusal) (old new : LiveOutside) (result : Result Status Trouble) → PerformsLive words old new result →
    is_refusal (status_of_end result) ≡ true → new.keys ≡ old.keys
live_keyless words old new result p = reached_keyless (out_of words) p.reached (live_outside p.read old.sink old.keys old.bench) new result p.answers

-- ---- the files

script_changes : (harts : ℕ) (journal : List Event) (name : List ℕ) (old new : FilesState) (written saved : Result Status Trouble) →
    SavesScript harts journal name old new written saved → ChangesOut name old new
script_changes harts journal name old new (Err trouble) saved it = changes_none name old new it.0
script_changes harts journal name old new (Ok status) saved it = record { bytes = it.0; changes = changes (Some (exact_saving name it.0)) old new (Ok status) saved it.2 }

reached_changes : (name : List ℕ) (reached : Option Due) (old new : LiveOutside) (result : Result Status Trouble) → AnswersLiveReached name reached old new result → ChangesOut name old.files new.files
reached_changes name None old new result a = changes_none name old.files new.files (ap (λ (o : LiveOutside). o.files) a.1)
reached_changes name (Some (Refuse refusal)) old new result a = changes_none name old.files new.files a.0.saves.0
reached_changes name (Some (RunFrom start asked save)) old new result (inl a) = script_changes start.rules.harts a.1.journal name old.files new.files a.1.written a.1.saved a.1.saves
reached_changes name (Some (RunFrom start asked save)) old new result (inr a) =
    record { bytes = []; changes = changes_vain (exact_saving name []) old.files new.files a.0.files }
reached_changes name (Some (Make out rules line)) old new result a = absurd a

pub live_effect : (words : Result LiveWords Refusal) (old new : LiveOutside) (result : Result Status Trouble) → PerformsLive words old new result → EffectOut (out_of words) old.files new.files
live_effect words old new result p =
    effect_out (out_of words) old.files p.read new.files (follows_keeps (live_plan words) old.files p.read p.reached p.follows)
    (reached_changes (out_of words) p.reached (live_outside p.read old.sink old.keys old.bench) new result p.answers)

-- ---- nothing was saved

after_unsaved : (asked : Saving) (old new : FilesState) (status : Status) (saved : Result Status Trouble) → SavedAfter (Some asked) old new (Ok status) saved → saved ≡ Err Memory → new ≡ old
after_unsaved asked old new status saved (inl it) is = absurd (cc (it.1, is))
after_unsaved asked old new status saved (inr it) is = absurd (cc (it.1, is))

memory_unsaved : (harts : ℕ) (journal : List Event) (name : List ℕ) (old new : FilesState) (written saved : Result Status Trouble) →
    SavesScript harts journal name old new written saved → saved ≡ Err Memory → new ≡ old
memory_unsaved harts journal name old new (Err trouble) saved it is = it.0
memory_unsaved harts journal name old new (Ok status) saved it is = after_unsaved (exact_saving name it.0) old new status saved it.2 is

wanted : (failed : Bool) (saved : Result Status Trouble) → Err Memory ≡ after_reading failed saved → saved ≡ Err Memory
wanted failed (Ok status) is = absurd (cc is)
wanted failed (Err trouble) is = sym is

answer_no_memory : (verdict : Verdict) (old new : KeysState) (answer : Status) → RunAnswer verdict old new answer → answer ≢ Status.Memory
answer_no_memory verdict old new answer (inl is) memory = run_no_memory verdict (sym is ∙ memory)
answer_no_memory verdict old new answer (inr it) memory = cc (it.0, memory)

run_unsaved : (start : State) (asked : List Event) (name : List ℕ) (old new : LiveOutside) (result : Result Status Trouble) → RunsLive start asked name old new result →
    status_of_end result ≡ Status.Memory → new.files ≡ old.files
run_unsaved start asked name old new (Ok answer) r memory =
    absurd (answer_no_memory (run start r.journal).journal.verdict old.keys new.keys answer (is_done start asked name old new answer r).status memory)
run_unsaved start asked name old new (Err Write) r memory = absurd (cc memory)
run_unsaved start asked name old new (Err Memory) r memory =
    memory_unsaved start.rules.harts r.journal name old.files new.files r.written r.saved r.saves (wanted r.ended.read_failed r.saved r.status)

reached_unsaved : (name : List ℕ) (reached : Option Due) (old new : LiveOutside) (result : Result Status Trouble) → AnswersLiveReached name reached old new result →
    (is_refusal (status_of_end result) ≡ true) ⊎ (status_of_end result ≡ Status.Memory) → new.files ≡ old.files
reached_unsaved name None old new result a is = ap (λ (o : LiveOutside). o.files) a.1
reached_unsaved name (Some (Refuse refusal)) old new result a is = a.0.saves.0
reached_unsaved name (Some (RunFrom start asked save)) old new result (inl a) (inl refused) = absurd (run_unrefused start asked name old new result a.1 refused)
reached_unsaved name (Some (RunFrom start asked save)) old new result (inl a) (inr memory) = run_unsaved start asked name old new result a.1 memory
reached_unsaved name (Some (RunFrom start asked save)) old new result (inr a) (inl refused) = absurd (cc (sym (ap (λ (r : Result Status Trouble). is_refusal (status_of_end r)) a.2) ∙ refused))
reached_unsaved name (Some (RunFrom start asked save)) old new result (inr a) (inr memory) = absurd (cc (sym (ap status_of_end a.2) ∙ memory))
reached_unsaved name (Some (Make out rules line)) old new result a is = absurd a

pub live_unsaved : (words : Result LiveWords Refusal) (old new : LiveOutside) (result : Result Status Trouble) → PerformsLive words old new result →
    (is_refusal (status_of_end result) ≡ true) ⊎ (status_of_end result ≡ Status.Memory) → (new.files.held ≡ old.files.held) × (new.files.save_faults ≡ old.files.save_faults)
live_unsaved words old new result p is =
    let k : Keeps old.files p.read = follows_keeps (live_plan words) old.files p.read p.reached p.follows in
    let same : new.files ≡ p.read = reached_unsaved (out_of words) p.reached (live_outside p.read old.sink old.keys old.bench) new result p.answers is in
    (ap (λ (f : FilesState). f.held) same ∙ k.held, ap (λ (f : FilesState). f.save_faults) same ∙ k.saves)

-- ---- words that are refused

pub live_unread : (words : Result LiveWords Refusal) (old new : LiveOutside) (result : Result Status Trouble) → is_ok words ≡ false → PerformsLive words old new result → new.files ≡ old.files
live_unread words old new result bad p =
    asked_unread (λ (w : LiveWords). run_plan w.run) words old.files new.files
    (λ read reached. AnswersLiveReached (out_of words) reached (live_outside read old.sink old.keys old.bench) new result) bad (λ refusal a. a.0.saves.0) p

-- ---- a read fault

-- of the files, or of the keys
abbrev LiveFault : Plan → (old new : LiveOutside) → Type 0
LiveFault plan old new = HasFault plan old.files new.files ⊎ (old.keys.faults < new.keys.faults)

answer_fault : (verdict : Verdict) (old new : KeysState) (answer : Status) → RunAnswer verdict old new answer → answer ≡ Status.ReadFault → old.faults < new.faults
answer_fault verdict old new answer (inl same) is = absurd (run_no_read_fault verdict (sym same ∙ is))
answer_fault verdict old new answer (inr it) is = it.1

run_fault : (start : State) (asked : List Event) (name : List ℕ) (old new : LiveOutside) (result : Result Status Trouble) → RunsLive start asked name old new result →
    status_of_end result ≡ Status.ReadFault →
    old.keys.faults < new.keys.faults
run_fault start asked name old new (Ok answer) r is = answer_fault (run start r.journal).journal.verdict old.keys new.keys answer (is_done start asked name old new answer r).status is
run_fault start asked name old new (Err Write) r is = absurd (cc is)
run_fault start asked name old new (Err Memory) r is = absurd (cc is)

reached_fault : (plan : Plan) (name : List ℕ) (reached : Option Due) (old new : LiveOutside) (read : FilesState) (result : Result Status Trouble) → HasFoundFaults plan →
    Follows plan old.files read reached →
    AnswersLiveReached name reached (live_outside read old.sink old.keys old.bench) new result → status_of_end result ≡ Status.ReadFault → LiveFault plan old new
reached_fault plan name None old new read result never follows a is = absurd (wants_no_fault result a.0 is)
reached_fault plan name (Some (Refuse refusal)) old new read result never follows a is = inl (refused_fault plan refusal (outside old.files old.sink old.bench)
    (outside new.files new.sink new.bench) read result never follows a.0 is)
reached_fault plan name (Some (RunFrom start asked save)) old new read result never follows (inl a) is =
    inr (run_fault start asked name (live_outside read old.sink old.keys old.bench) new result a.1 is)
reached_fault plan name (Some (RunFrom start asked save)) old new read result never follows (inr a) is = absurd (cc (sym (ap status_of_end a.2) ∙ is))
reached_fault plan name (Some (Make out rules line)) old new read result never follows a is = absurd a

pub live_fault : (words : List (List ℕ)) (old new : LiveOutside) (result : Result Status Trouble) → PerformsLive (live_judged words) old new result → status_of_end result ≡ Status.ReadFault →
    LiveFault (live_plan (live_judged words)) old new
live_fault words old new result p is =
    reached_fault (live_plan (live_judged words)) (out_of (live_judged words)) p.reached old new p.read result
    (asked_found_faults (λ (w : LiveWords). run_plan w.run) (live_judged words) (live_no_read_fault words) (λ w. run_found_faults w.run)) p.follows p.answers is
