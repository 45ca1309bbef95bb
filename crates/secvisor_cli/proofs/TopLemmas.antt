-- From what is ready to what is answered, and from the answer with its trouble to the status.
use Rattle.std.proofs.Common.{◌≡◌, ◌≢◌, ℕ, ◌≤◌, ◌<◌, List, [], ◌∷◌, string_bytes, false, IsTrue, refl, sym, ◌∙◌, ap, subst, arith, inl, inr, ◌⊎◌, Option, Some, None, Result, Ok, Err, IsErrOf}
use Rattle.std.specs.Option.{option_copied}
use Rattle.std.specs.Result.{is_ok}
use Rattle.sv_types.specs.declared.event.Event.{Event}
use Rattle.sv_types.specs.declared.status.Status.{Status}
use Rattle.spec_reference.specs.States.{State}
use Rattle.sv_types.specs.Policies.{Rules}
use Rattle.policy.specs.Text.{rules_of_text}
use Rattle.spec_hardware.specs.Machine.{Machine}
use Rattle.machine.proofs.Repeated.{counts_within}
use Rattle.spec_hardware.specs.Reaches.{IsNew}
use Rattle.sv_types.specs.Schedule.{first_events}
use Rattle.sv_types.specs.Limits.{max_events}
use Rattle.spec_reference.specs.Disk.{disk_bytes}
use Rattle.spec_reference.specs.Run.{run}
use Rattle.host_io.specs.Outside.{FilesState, SinkState, TryFails, after_taking, TookPrefix, BreaksOff}
use Rattle.host_io.proofs.SinkLemmas.{prefix_none, prefix_whole}
use Rattle.cli_plans.specs.declared.refusal.Refusal.{Refusal}
use Rattle.secvisor_cli.specs.declared.ready.PreparedRun.{PreparedRun}
use Rattle.secvisor_cli.specs.declared.ready.Made.{Made}
use Rattle.secvisor_cli.specs.declared.ready.Ready.{Ready}
use Rattle.secvisor_cli.specs.declared.ready.Ready.TheVariants.{Run as Boots, Save}
use Rattle.host_io.specs.declared.trouble.Trouble.{Trouble}
use Rattle.host_io.specs.declared.trouble.Trouble.TheVariants.{Write, Memory}
use Rattle.cli_plans.specs.Refusals.{refusal_line, refusal_status, takes_memory}
use Rattle.cli_plans.specs.CommandLine.{judgement_of_words}
use Rattle.cli_plans.specs.Plans.{Due, Refuse, RunFrom, Make, Exactly, Saving, policy_saving, saving_of_bytes, saves_due, Plan, bytes_due, status_due, asked_plan, plan_of}
use Rattle.cli_plans.specs.Reading.{Follows, MayFollow, MaySave, Saved, SaveBroke, SavesUnder}
use Rattle.secvisor_cli.specs.Ready.{IsMade, IsReady, IsReadyWhere, IsFresh, IsRunnable, MayCarryOut, MaySaveRun, Prepares}
use Rattle.secvisor_cli.specs.Answers.{Outside, outside, tries_due, MayTryWhere, AfterTry, TriedInVain, GaveUp, MeetsDue, Writes}
use Rattle.secvisor_cli.specs.Answers.{SavesAndWrites, WritesAndSaves, Answers, AnswersReached, Performs, MeetsSaves, MeetsSavesAfter}
use Rattle.secvisor_cli.specs.Answers.{Meets, MeetsReached, Headline, BenchAfter}
use Rattle.host_io.specs.Endings.{status_of_end}
use Rattle.secvisor_cli.proofs.EndLemmas.{runs_under}
use Rattle.cli_plans.proofs.PlanLemmas.{asked_unread, HasFoundFaults, HasFault, Keeps, follows_keeps, may_save, read_fault, saves_under, may_follow}
use Rattle.secvisor_cli.proofs.SaveLemmas.{Changes, Wrote, changes, changes_saved, changes_broke, unchanged, no_memory, wrote, meets_saves, meets_faults, ChangesOut}
use Rattle.cli_plans.proofs.FoundFaults.{judged_found_faults}

-- ---- what is ready, and what is refused

-- a machine that has made no event may be run
runs_fresh : (ready : PreparedRun) → IsFresh ready → IsRunnable ready
runs_fresh ready fresh = record {
  events = fresh.events;
  state = fresh.state;
  counts = counts_within 0 max_events ready.machine.journal.counts (omega arith) fresh.counts;
  console = fresh.console;
}

pub is_runnable : (due : Due) (ready : PreparedRun) → IsReady due (Ok (Boots ready)) → IsRunnable ready
is_runnable (RunFrom start events save) ready it = runs_fresh ready it.3
is_runnable _ ready it = absurd it

pub may_save_run : (due : Due) (ready : PreparedRun) (files : FilesState) → IsReady due (Ok (Boots ready)) → MaySave (saves_due due) files →
    MaySaveRun ready.machine (first_events ready.events ready.script) (option_copied ready.save) files
may_save_run (Refuse refusal) ready files it may = absurd it
may_save_run (RunFrom start events save) ready files it may = record {
  start = start;
  new = it.0;
  may =
      subst (λ (es : List Event). MaySave (saves_due (RunFrom start es (option_copied ready.save))) files) (sym it.1)
      (subst (λ (name : Option (List ℕ)). MaySave (saves_due (RunFrom start events name)) files) (sym it.2) may);
}
may_save_run (Make name rules line) ready files it may = absurd it

-- the name of what may be saved may be tried
pub may_try_run : (bytes : List ℕ) (save : Option (List ℕ)) (files : FilesState) → MaySave (saving_of_bytes bytes save) files → MayTryWhere save files
may_try_run bytes None files may = tt
may_try_run bytes (Some name) files may = (bytes, may)

-- a try in vain ends the answer
pub vain_answers : (start : State) (events : List Event) (save : Option (List ℕ)) (f0 f1 : FilesState) (sink : SinkState) (bench : Option Machine) (trouble : Trouble) →
    AfterTry save f0 f1 (Err trouble) → Answers (RunFrom start events save) (outside f0 sink bench) (outside f1 sink bench) (Err trouble)
vain_answers start events (Some name) f0 f1 sink bench Write it = inr (record { files = it; sink = refl; bench = refl }, refl)
vain_answers start events _ f0 f1 sink bench _ it = absurd it

pub may_save_made : (due : Due) (made : Made) (files : FilesState) → IsReady due (Ok (Save made)) → MaySave (saves_due due) files →
    IsTrue (files.permits_save ((made.name.now, made.text.items) ∷ []))
may_save_made (Make name rules line) made files it may = subst (λ (n : List ℕ). IsTrue (files.permits_save ((n, made.text.items) ∷ []))) (sym it.name_is) (may made.text.items it.reads)
may_save_made _ made files it may = absurd it

may_where : (reached : Option Due) (ready : Ready) (files : FilesState) → IsReadyWhere reached (Ok ready) → ((due : Due) → reached ≡ Some due → MaySave (saves_due due) files) →
    MayCarryOut ready files
may_where None ready files it may = absurd (cc it)
may_where (Some due) ready files it may = record { due = due; ready_is = it; may = may due refl }

pub may_carry_out : (plan : Plan) (old read : FilesState) (ready : Ready) → MayFollow plan old → Prepares plan old read (Ok ready) → MayCarryOut ready read
may_carry_out plan old read ready may p =
    may_where p.reached ready read p.ready
    (λ due is. may_save plan old read due may (subst (λ (reached : Option Due). Follows plan old read reached) is p.follows))

pub ready_answers : (reached : Option Due) (ready : Ready) (old new : Outside) (result : Result Status Trouble) → IsReadyWhere reached (Ok ready) →
    ((due : Due) → IsReady due (Ok ready) → Answers due old new result) → AnswersReached reached old new result
ready_answers None ready old new result it a = absurd (cc it)
ready_answers (Some due) ready old new result it a = a due it

pub booted_answers : (due : Due) (ready : PreparedRun) (old new : Outside) (result : Result Status Trouble) → IsReady due (Ok (Boots ready)) →
    ((start : State) → IsNew ready.machine start → Answers (RunFrom start (first_events ready.events ready.script) (option_copied ready.save)) old new result) →
    Answers due old new result
booted_answers (RunFrom start events save) ready old new result it a =
    subst (λ (name : Option (List ℕ)). Answers (RunFrom start events name) old new result) it.2
    (subst (λ (es : List Event). Answers (RunFrom start es (option_copied ready.save)) old new result) it.1 (a start it.0))
booted_answers _ ready old new result it a = absurd it

-- the text of a policy that was made, as the policy
abbrev exact_saving : Made → Saving
exact_saving made = record { name = made.name.now; content = Exactly made.text.items }

saved_as_policy : (name : List ℕ) (rules : Rules) (line : List ℕ) (made : Made) (old new : FilesState) → IsMade name rules line made → Saved (exact_saving made) old new →
    Saved (policy_saving name rules) old new
saved_as_policy name rules line made old new it s =
    subst (λ (n : List ℕ). Saved (policy_saving n rules) old new) it.name_is
    (record { bytes = s.bytes; content = subst (λ (text : List ℕ). rules_of_text text ≡ Ok rules) (sym s.content) it.reads; held = s.held; others = s.others; leaves = s.leaves })

broke_as_policy : (name : List ℕ) (rules : Rules) (line : List ℕ) (made : Made) (old new : FilesState) → IsMade name rules line made → SaveBroke (exact_saving made) old new →
    SaveBroke (policy_saving name rules) old new
broke_as_policy name rules line made old new it b =
    subst (λ (n : List ℕ). SaveBroke (policy_saving n rules) old new) it.name_is (record {
      bytes = b.bytes;
      content = subst (λ (text : List ℕ). rules_of_text text ≡
          Ok rules) (sym b.content) it.reads;
      faults = b.faults;
      others = b.others;
      leaves = b.leaves;
    })

as_policy : (name : List ℕ) (rules : Rules) (line : List ℕ) (made : Made) (f0 f1 : FilesState) (old new : SinkState) (result : Result Status Trouble) → IsMade name rules line made →
    SavesAndWrites (exact_saving made) (string_bytes made.line) f0 f1 old new result → SavesAndWrites (policy_saving name rules) line f0 f1 old new result
as_policy name rules line made f0 f1 old new (Ok status) it s =
    (s.0, saved_as_policy name rules line made f0 f1 it s.1, s.2 ∙ ap (λ (l : List ℕ). after_taking old l) it.line_is)
as_policy name rules line made f0 f1 old new (Err Write) it (inl s) = inl (broke_as_policy name rules line made f0 f1 it s.0, s.1)
as_policy name rules line made f0 f1 old new (Err Write) it (inr s) =
    inr (saved_as_policy name rules line made f0 f1 it s.0, subst (λ (l : List ℕ). BreaksOff old new l) it.line_is s.1)
as_policy name rules line made f0 f1 old new (Err Memory) it s = absurd s

pub made_answers : (due : Due) (made : Made) (f0 f1 : FilesState) (old new : SinkState) (bench : Option Machine) (result : Result Status Trouble) → IsReady due (Ok (Save made)) →
    SavesAndWrites (exact_saving made) (string_bytes made.line) f0 f1 old new result → Answers due (outside f0 old bench) (outside f1 new bench) result
made_answers (Make name rules line) made f0 f1 old new bench result it s = (as_policy name rules line made f0 f1 old new result it s, refl)
made_answers _ made f0 f1 old new bench result it s = absurd it

-- a refusal's line was written, and nothing else was done
pub refused_writes : (refusal : Refusal) (files : FilesState) (old new : SinkState) (bench : Option Machine) (result : Result Status Trouble) →
    Writes (refusal_status refusal) (refusal_line refusal) old new result →
    (IsErrOf result Memory → IsTrue (takes_memory refusal)) → (IsErrOf result Memory → new ≡ old) → WritesAndSaves (Refuse refusal) (outside files old bench) (outside files new bench) result
refused_writes refusal files old new bench result w wants quiet = record { written = result; writes = w; saves = (refl, refl); wants = wants; quiet = quiet; bench = refl }

-- ---- the status

bench_under : (P Q : Type 0) (due : Due) (old new : SinkState) (b0 b1 : Option Machine) → (Q → P) → BenchAfter P due old new b0 b1 → BenchAfter Q due old new b0 b1
bench_under P Q (RunFrom start events save) old new b0 b1 back some = (some.0, some.1, runs_under P Q start events some.0 old new back some.2)
bench_under _ _ _ old new b0 b1 back bench = bench

meets_ok : (due : Due) (old new : Outside) (s : Status) → WritesAndSaves due old new (Ok s) → Wrote (status_due due) (bytes_due due) old.sink new.sink (Ok s) →
    MeetsSaves due old new s → Meets due old new s
meets_ok due old new s a w saves = record {
  status = λ _. w.status;
  whole = λ _. w.whole;
  prefix = w.prefix;
  saves = saves;
  no_write = λ _. ap (λ (k : SinkState). k.faults) w.whole;
  wants = λ is. absurd (no_memory s w.proper is);
  quiet = λ is. absurd (no_memory s w.proper is);
  bench = bench_under _ _ due old.sink new.sink old.bench new.bench (λ is. absurd (no_memory s w.proper is)) a.bench;
}

meets_write : (due : Due) (old new : Outside) → WritesAndSaves due old new (Err Write) → Wrote (status_due due) (bytes_due due) old.sink new.sink (Err Write) →
    MeetsSaves due old new Status.WriteFault → Meets due old new Status.WriteFault
meets_write due old new a w saves = record {
  status = λ t. absurd (cc t);
  whole = λ t. absurd (cc t);
  prefix = w.prefix;
  saves = saves;
  no_write = λ never. absurd (never refl);
  wants = λ e. absurd (cc e);
  quiet = λ e. absurd (cc e);
  bench = bench_under _ _ due old.sink new.sink old.bench new.bench (λ e. absurd (cc e)) a.bench;
}

meets_memory : (due : Due) (old new : Outside) → WritesAndSaves due old new (Err Memory) → Wrote (status_due due) (bytes_due due) old.sink new.sink (Err Memory) →
    MeetsSaves due old new Status.Memory → Meets due old new Status.Memory
meets_memory due old new a w saves = record {
  status = λ t. absurd (cc t);
  whole = λ t. absurd (cc t);
  prefix = w.prefix;
  saves = saves;
  no_write = λ _. w.memory refl;
  wants = λ _. a.wants refl;
  quiet = λ _. a.quiet refl;
  bench = bench_under _ _ due old.sink new.sink old.bench new.bench (λ _. refl) a.bench;
}

meets_by : (due : Due) (old new : Outside) (result : Result Status Trouble) → WritesAndSaves due old new result → Wrote (status_due due) (bytes_due due) old.sink new.sink result →
    MeetsSaves due old new (status_of_end result) → Meets due old new (status_of_end result)
meets_by due old new (Ok s) a w saves = meets_ok due old new s a w saves
meets_by due old new (Err Write) a w saves = meets_write due old new a w saves
meets_by due old new (Err Memory) a w saves = meets_memory due old new a w saves

meets_written : (due : Due) (old new : Outside) (result : Result Status Trouble) → WritesAndSaves due old new result → MeetsSaves due old new (status_of_end result) →
    Meets due old new (status_of_end result)
meets_written due old new result a saves =
    meets_by due old new result a (wrote (saves_due due) old.files new.files (status_due due) (bytes_due due) old.sink new.sink a.written result a.writes a.saves) saves

meets_first : (due : Due) (old new : Outside) (result : Result Status Trouble) → WritesAndSaves due old new result →
    MeetsSavesAfter (saves_due due) (bytes_due due) old new (status_of_end result)
meets_first due old new result a = meets_saves (saves_due due) (status_due due) (bytes_due due) old new a.written result a.writes a.saves

meets_made : (name : List ℕ) (rules : Rules) (line : List ℕ) (old new : Outside) (result : Result Status Trouble) →
    SavesAndWrites (policy_saving name rules) line old.files new.files old.sink new.sink result → new.bench ≡ old.bench →
    Meets (Make name rules line) old new (status_of_end result)
meets_made name rules line old new (Ok status) a bench =
    subst (λ (s : Status). Meets (Make name rules line) old new s) (sym a.0)
    (record {
      status = λ _. refl;
      whole = λ _. a.2;
      prefix = prefix_whole old.sink new.sink line a.2;
      saves = record { saved = λ _. a.1; broke = λ e. absurd (cc e) };
      no_write = λ _. ap (λ (k : SinkState). k.faults) a.2;
      wants = λ e. absurd (cc e);
      quiet = λ e. absurd (cc e);
      bench = bench;
    })
meets_made name rules line old new (Err Write) (inl a) bench = record {
  status = λ t. absurd (cc t);
  whole = λ t. absurd (cc t);
  prefix = subst (λ (k : SinkState). TookPrefix old.sink k line) (sym a.1) (prefix_none old.sink line);
  saves = record { saved = λ t. absurd (cc t); broke = λ _. inl a };
  no_write = λ never. absurd (never refl);
  wants = λ e. absurd (cc e);
  quiet = λ e. absurd (cc e);
  bench = bench;
}
meets_made name rules line old new (Err Write) (inr a) bench = record {
  status = λ t. absurd (cc t);
  whole = λ t. absurd (cc t);
  prefix = a.1.prefix;
  saves = record { saved = λ t. absurd (cc t); broke = λ _. inr (a.0, a.1.faults) };
  no_write = λ never. absurd (never refl);
  wants = λ e. absurd (cc e);
  quiet = λ e. absurd (cc e);
  bench = bench;
}
meets_made name rules line old new (Err Memory) a bench = absurd a

meets : (due : Due) (old new : Outside) (result : Result Status Trouble) → Answers due old new result → MeetsDue due old new (status_of_end result)
meets (Refuse refusal) old new result a = inl (tt, meets_written (Refuse refusal) old new result a (meets_first (Refuse refusal) old new result a))
meets (RunFrom start events save) old new result (inl a) =
    inl (a.0, meets_written (RunFrom start events save) old new result a.1 (meets_first (RunFrom start events save) old new result a.1))
meets (RunFrom start events save) old new result (inr a) = inr (a.0, ap status_of_end a.1)
meets (Make name rules line) old new result a = inl (tt, meets_made name rules line old new result a.0 a.1)

reached_settled : (reached : Option Due) (old new : Outside) (result : Result Status Trouble) → AnswersReached reached old new result → MeetsReached reached old new (status_of_end result)
reached_settled None old new (Err Memory) a = (refl, a.1)
reached_settled (Some due) old new result a = meets due old new result a
reached_settled _ old new _ a = absurd (cc a.0)

pub headline : (plan : Plan) (old new : Outside) (result : Result Status Trouble) → Performs plan old new result → Headline plan old new (status_of_end result)
headline plan old new result p =
    record { reached = p.reached; read = p.read; follows = p.follows; meets = reached_settled p.reached (outside p.read old.sink old.bench) new result p.answers }

-- ---- the sink

first_broke : (saving : Saving) (old new : Outside) →
    (SaveBroke saving old.files new.files × (new.sink ≡ old.sink)) ⊎ (Saved saving old.files new.files × (old.sink.faults < new.sink.faults)) → old.sink.faults ≤ new.sink.faults
first_broke saving old new (inl it) = let same : new.sink.faults ≡ old.sink.faults = ap (λ (k : SinkState). k.faults) it.1 in omega arith
first_broke saving old new (inr it) = let rose = it.1 in omega arith

due_faults : (due : Due) (old new : Outside) → MeetsSaves due old new Status.WriteFault → old.sink.faults ≤ new.sink.faults
due_faults (Refuse refusal) old new m = meets_faults None (refusal_line refusal) old new m
due_faults (RunFrom start events save) old new m = meets_faults (saves_due (RunFrom start events save)) (bytes_due (RunFrom start events save)) old new m
due_faults (Make name rules line) old new m = first_broke (policy_saving name rules) old new (m.broke refl)

meets_writes : (due : Due) (old new : Outside) (s : Status) → Meets due old new s → (s ≡ Status.WriteFault) ⊎ (s ≢ Status.WriteFault) → old.sink.faults ≤ new.sink.faults
meets_writes due old new s m (inl is) =
    due_faults due old new (subst (λ (t : Status). MeetsSaves due old new t) is m.saves)
meets_writes due old new s m (inr never) = let same = m.no_write never in omega arith

write_fault_or_not : (s : Status) → (s ≡ Status.WriteFault) ⊎ (s ≢ Status.WriteFault)
write_fault_or_not Status.WriteFault = inl refl
write_fault_or_not _ = inr (λ e. cc e)

-- a try in vain, where one was made
pub gave_up : (name : Option (List ℕ)) (old new : Outside) → GaveUp name old new → TriedInVain old new
gave_up None old new it = absurd it
gave_up (Some name) old new it = it

reached_writes : (reached : Option Due) (old new : Outside) (s : Status) → MeetsReached reached old new s → old.sink.faults ≤ new.sink.faults
reached_writes None old new s m = let same : new.sink.faults ≡ old.sink.faults = ap (λ (o : Outside). o.sink.faults) m.1 in omega arith
reached_writes (Some due) old new s (inl m) = meets_writes due old new s m.1 (write_fault_or_not s)
reached_writes (Some due) old new s (inr m) =
    let same : new.sink.faults ≡ old.sink.faults = ap (λ (k : SinkState). k.faults) (gave_up (tries_due due) old new m.0).sink in omega arith

-- the count of writes no falls
pub headline_writes : (plan : Plan) (old new : Outside) (s : Status) → Headline plan old new s → old.sink.faults ≤ new.sink.faults
headline_writes plan old new s h = reached_writes h.reached (outside h.read old.sink old.bench) new s h.meets

-- ---- the files

-- what the whole changes of the files
pub record Effect (plan : Plan) (old new : FilesState) : Type 0 where
  pub reads : old.read_faults ≤ new.read_faults
  pub saves : old.save_faults ≤ new.save_faults
  pub held : (name : List ℕ) → (SavesUnder plan name → ⊥) → new.held name ≡ old.held name
  pub unsaved : ((name : List ℕ) → SavesUnder plan name → ⊥) → (new.held ≡ old.held) × (new.save_faults ≡ old.save_faults)

effect_read : (plan : Plan) (old new : FilesState) → Keeps old new → Effect plan old new
effect_read plan old new k = record {
  reads = k.reads;
  saves = let same = k.saves in omega arith;
  held = λ name never. ap (λ (held : List ℕ → Option (List ℕ)). held name) k.held;
  unsaved = λ never. (k.held, k.saves);
}

effect_same : (plan : Plan) (old read new : FilesState) → Keeps old read → new ≡ read → Effect plan old new
effect_same plan old read new k same = subst (λ (f : FilesState). Effect plan old f) (sym same) (effect_read plan old read k)

effect_saved : (plan : Plan) (old read new : FilesState) (due : Due) → Follows plan old read (Some due) → Changes (saves_due due) read new → Keeps old read → Effect plan old new
effect_saved plan old read new due follows c k =
    let first = k.reads in
    let second = c.reads in
    let kept = k.saves in
    let more = c.saves in
    record {
      reads = omega arith;
      saves = omega arith;
      held = λ name never. c.others name (λ under. never (saves_under plan old read due name follows under)) ∙ ap (λ (held : List ℕ → Option (List ℕ)). held name) k.held;
      unsaved = λ never.
          let same : new ≡ read = unchanged (saves_due due) read new c (λ name under. never name (saves_under plan old read due name follows under)) in
          (ap (λ (f : FilesState). f.held) same ∙ k.held, ap (λ (f : FilesState). f.save_faults) same ∙ k.saves);
    }

-- what a whole changes of the files that saves under one name
pub record EffectOut (name : List ℕ) (old new : FilesState) : Type 0 where
  pub reads : old.read_faults ≤ new.read_faults
  pub saves : old.save_faults ≤ new.save_faults
  pub held : (other : List ℕ) → other ≢ name → new.held other ≡ old.held other

pub effect_out : (name : List ℕ) (old read new : FilesState) → Keeps old read → ChangesOut name read new → EffectOut name old new
effect_out name old read new k out =
    let c = out.changes in
    let first = k.reads in
    let second = c.reads in
    let kept = k.saves in
    let more = c.saves in
    record {
      reads = omega arith;
      saves = omega arith;
      held = λ other never. c.others other (λ under. never (sym under)) ∙ ap (λ (held : List ℕ → Option (List ℕ)). held other) k.held;
    }

pub made_changes : (saving : Saving) (line : List ℕ) (f0 f1 : FilesState) (old new : SinkState) (result : Result Status Trouble) → SavesAndWrites saving line f0 f1 old new result →
    Changes (Some saving) f0 f1
made_changes saving line f0 f1 old new (Ok status) a = changes_saved saving f0 f1 a.1
made_changes saving line f0 f1 old new (Err Write) (inl a) = changes_broke saving f0 f1 a.0
made_changes saving line f0 f1 old new (Err Write) (inr a) = changes_saved saving f0 f1 a.0
made_changes saving line f0 f1 old new (Err Memory) a = absurd a

-- a try changes the count of saves alone
pub changes_vain : (saving : Saving) (old new : FilesState) → TryFails old new → Changes (Some saving) old new
changes_vain saving old new it =
    let rose = it.faults in
    record {
      reads = ap (λ (f : FilesState). f.read_faults) it.leaves;
      saves = omega arith;
      others = λ name never. ap (λ (f : FilesState). f.held name) it.leaves;
      none = λ e. absurd (cc e);
    }

changes_tried : (bytes : List ℕ) (save : Option (List ℕ)) (old new : Outside) → GaveUp save old new → Changes (saving_of_bytes bytes save) old.files new.files
changes_tried bytes None old new it = absurd it
changes_tried bytes (Some name) old new it = changes_vain (record { name = name; content = Exactly bytes }) old.files new.files it.files

answer_changes : (due : Due) (old new : Outside) (result : Result Status Trouble) → Answers due old new result → Changes (saves_due due) old.files new.files
answer_changes (Refuse refusal) old new result a = changes None old.files new.files a.written result a.saves
answer_changes (RunFrom start events save) old new result (inl a) = changes (saves_due (RunFrom start events save)) old.files new.files a.1.written result a.1.saves
answer_changes (RunFrom start events save) old new result (inr a) = changes_tried (disk_bytes (run start events).devices.disk) save old new a.0
answer_changes (Make name rules line) old new result a = made_changes (policy_saving name rules) line old.files new.files old.sink new.sink result a.0

effect_reached : (plan : Plan) (reached : Option Due) (old read : FilesState) (sink : SinkState) (bench : Option Machine) (new : Outside) (result : Result Status Trouble) →
    Follows plan old read reached → AnswersReached reached (outside read sink bench) new result → Effect plan old new.files
effect_reached plan None old read sink bench new result follows a =
    effect_same plan old read new.files (follows_keeps plan old read None follows) (ap (λ (o : Outside). o.files) a.1)
effect_reached plan (Some due) old read sink bench new result follows a =
    effect_saved plan old read new.files due follows (answer_changes due (outside read sink bench) new result a) (follows_keeps plan old read (Some due) follows)

pub effect : (plan : Plan) (old new : Outside) (result : Result Status Trouble) → Performs plan old new result → Effect plan old.files new.files
effect plan old new result p = effect_reached plan p.reached old.files p.read old.sink old.bench new result p.follows p.answers

-- the count of reads after the reading
read_count : (reached : Option Due) (read : FilesState) (sink : SinkState) (bench : Option Machine) (new : Outside) (result : Result Status Trouble) →
    AnswersReached reached (outside read sink bench) new result → new.files.read_faults ≡ read.read_faults
read_count None read sink bench new result a = ap (λ (o : Outside). o.files.read_faults) a.1
read_count (Some due) read sink bench new result a = (answer_changes due (outside read sink bench) new result a).reads

-- ---- words that are refused

pub unread : {A : Type 0} (next : A → Plan) (asked : Result A Refusal) (old new : Outside) (result : Result Status Trouble) → is_ok asked ≡ false →
    Performs (asked_plan next asked) old new result → new.files ≡ old.files
unread next asked old new result bad p =
    asked_unread next asked old.files new.files (λ read reached. AnswersReached reached (outside read old.sink old.bench) new result) bad (λ refusal a. a.saves.0) p

-- ---- a read fault

reached_fault : (plan : Plan) (reached : Option Due) (f0 f1 : FilesState) (old new : Outside) → HasFoundFaults plan → Follows plan f0 f1 reached →
    MeetsReached reached old new Status.ReadFault → HasFault plan f0 f1
reached_fault plan None f0 f1 old new never follows m = absurd (cc m.0)
reached_fault plan (Some due) f0 f1 old new never follows (inl m) = read_fault plan f0 f1 due never follows (sym (m.1.status refl))
reached_fault plan (Some due) f0 f1 old new never follows (inr m) = absurd (cc m.1)

pub fault_at : (plan : Plan) (old read new : FilesState) → new.read_faults ≡ read.read_faults → HasFault plan old read → HasFault plan old new
fault_at plan old read new same (inl missing) = inl missing
fault_at plan old read new same (inr rose) = inr (omega arith)

-- the status of a refusal that was written
pub refused_status : (refusal : Refusal) (old new : Outside) (answer : Status) → WritesAndSaves (Refuse refusal) old new (Ok answer) → answer ≡ refusal_status refusal
refused_status refusal old new answer a =
    (subst (λ (w : Result Status Trouble). Writes (refusal_status refusal) (refusal_line refusal) old.sink new.sink w) (sym a.saves.1) a.writes).status

-- nor does an answer say so for which memory ran out
pub wants_no_fault : (result : Result Status Trouble) → IsErrOf result Memory → status_of_end result ≢ Status.ReadFault
wants_no_fault (Ok status) it = absurd (cc it)
wants_no_fault _ it = λ is. cc is

pub refused_fault : (plan : Plan) (refusal : Refusal) (old new : Outside) (read : FilesState) (result : Result Status Trouble) → HasFoundFaults plan →
    Follows plan old.files read (Some (Refuse refusal)) →
    WritesAndSaves (Refuse refusal) (outside read old.sink old.bench) new result → status_of_end result ≡ Status.ReadFault → HasFault plan old.files new.files
refused_fault plan refusal old new read (Ok answer) never follows a is =
    let status : answer ≡ refusal_status refusal = refused_status refusal (outside read old.sink old.bench) new answer a in
    fault_at plan old.files read new.files (ap (λ (f : FilesState). f.read_faults) a.saves.0) (read_fault plan old.files read (Refuse refusal) never follows (sym status ∙ is))
refused_fault plan refusal old new read (Err Write) never follows a is = absurd (cc is)
refused_fault plan refusal old new read (Err Memory) never follows a is = absurd (cc is)

-- of any plan
pub plan_fault : (plan : Plan) (old new : Outside) (result : Result Status Trouble) → HasFoundFaults plan → Performs plan old new result → status_of_end result ≡ Status.ReadFault →
    HasFault plan old.files new.files
plan_fault plan old new result never p is =
    let before : Outside = outside p.read old.sink old.bench in
    fault_at plan old.files p.read new.files (read_count p.reached p.read old.sink old.bench new result p.answers)
    (reached_fault plan p.reached old.files p.read before new never p.follows
    (subst (λ (t : Status). MeetsReached p.reached before new t) is (reached_settled p.reached before new result p.answers)))

pub performs_fault : (words : List (List ℕ)) (old new : Outside) (result : Result Status Trouble) → Performs (plan_of (judgement_of_words words)) old new result →
    status_of_end result ≡ Status.ReadFault →
    HasFault (plan_of (judgement_of_words words)) old.files new.files
performs_fault words old new result p is = plan_fault (plan_of (judgement_of_words words)) old new result (judged_found_faults words) p is

-- ---- the words

-- where all names may be asked for and saved under
pub words_follow : (words : List (List ℕ)) (files : FilesState) → ((asked : List (List ℕ × ℕ)) → IsTrue (files.permits asked)) →
    ((saves : List (List ℕ × List ℕ)) → IsTrue (files.permits_save saves)) → MayFollow (plan_of (judgement_of_words words)) files
words_follow words files all saves = may_follow (plan_of (judgement_of_words words)) files all saves
