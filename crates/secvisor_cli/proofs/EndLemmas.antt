-- The end of a run: the rest of the console, and the report.
use Rattle.std.proofs.Common.{◌≡◌, ℕ, List, [], ◌∷◌, ◌++◌, ◌<◌, length, refl, sym, ◌∙◌, ap, subst, append_assoc, inl, inr, Result, Ok, Err, IsErrOf, IsTrue, IsFalse}
use Rattle.sv_types.specs.Limits.{max_printed}
use Rattle.std.proofs.lemmas.List.{append-nil}
use Rattle.sv_types.specs.declared.event.Event.{Event}
use Rattle.sv_types.specs.declared.event.Verdict.{Verdict}
use Rattle.sv_types.specs.declared.event.Verdict.TheVariants.{Running, Shutdown, Stopped}
use Rattle.sv_types.specs.declared.status.Status.{Status}
use Rattle.sv_types.specs.Output.{run_status}
use Rattle.spec_reference.specs.States.{State}
use Rattle.spec_reference.specs.Run.{run, step}
use Rattle.spec_reference.specs.Report.{output, report}
use Rattle.spec_reference.proofs.Runs.{run_on}
use Rattle.spec_hardware.specs.Machine.{Machine}
use Rattle.spec_hardware.specs.Reaches.{IsNew}
use Rattle.host_io.specs.Outside.{SinkState, after_taking, TookPrefix, BreaksOff}
use Rattle.host_io.proofs.SinkLemmas.{after_taking-append, prefix_after, prefix_of_front, prefix_same, breaks_after, prefix_none}
use Rattle.host_io.specs.declared.trouble.Trouble.{Trouble}
use Rattle.host_io.specs.declared.trouble.Trouble.TheVariants.{Memory, Write}
use Rattle.machine.specs.Console.{flush_is_due, HasRun, RunBroke}
use Rattle.secvisor_cli.specs.Answers.{Writes, RunsTo, is_answer}
use Rattle.machine.specs.Standing.{machine_output}
use Rattle.machine.proofs.Standing.{prints_after, stands_printed, stands_verdict, stands_output}

-- ---- the rest of the console, and then the report

pub finish_broke : (m : Machine) (old mid new : SinkState) (printed text : List ℕ) → mid ≡ after_taking old printed → printed ≡ m.journal.printed →
    BreaksOff mid new text → text ≡ report m.journal → (TookPrefix old new (machine_output m)) × (old.faults < new.faults)
finish_broke m old mid new printed text first printed_is broke text_is =
    let whole : printed ++ text ≡ machine_output m = ap (λ (p : List ℕ). p ++ text) printed_is ∙ ap (λ (t : List ℕ). m.journal.printed ++ t) text_is in
    (prefix_same old new _ _ whole (prefix_after old mid new printed text first broke.prefix), (breaks_after old mid new printed text first broke).faults)

pub finish_whole : (m : Machine) (old mid new : SinkState) (printed text : List ℕ) → mid ≡ after_taking old printed → printed ≡ m.journal.printed →
    new ≡ after_taking mid text → text ≡ report m.journal → new ≡ after_taking old (machine_output m)
finish_whole m old mid new printed text first printed_is second text_is =
    let whole : printed ++ text ≡ machine_output m = ap (λ (p : List ℕ). p ++ text) printed_is ∙ ap (λ (t : List ℕ). m.journal.printed ++ t) text_is in
    second ∙ ap (λ (k : SinkState). after_taking k text) first ∙ after_taking-append old printed text ∙ ap (λ (b : List ℕ). after_taking old b) whole

-- ---- the console only grows

printed_grows : (r : State) (es : List Event) → (more : List ℕ) × ((run r es).journal.printed ≡ r.journal.printed ++ more)
printed_grows r [] = ([], sym (append-nil r.journal.printed))
printed_grows r (e ∷ es) =
    let one = prints_after r e in
    let rest = printed_grows (step r e) es in
    (one.0 ++ rest.0, rest.1 ∙ ap (λ (p : List ℕ). p ++ rest.0) one.1 ∙ append_assoc r.journal.printed one.0 rest.0)

-- what was printed after some of the events stands at the front of what is printed after all
pub printed_front : (start : State) (done left events : List Event) → done ++ left ≡ events → (rest : List ℕ) × ((run start done).journal.printed ++ rest ≡ (run start events).journal.printed)
printed_front start done left events split =
    let grown = printed_grows (run start done) left in (
      grown.0,
      sym grown.1 ∙ ap (λ (s : State). s.journal.printed) (sym (run_on start done left)) ∙ ap (λ (es : List Event). (run start es).journal.printed) split,
    )

-- and of the output
output_front : (start : State) (done left events : List Event) → done ++ left ≡ events →
    (rest : List ℕ) × ((run start done).journal.printed ++ rest ≡ output (run start events))
output_front start done left events split =
    let last : State = run start events in
    let front = printed_front start done left events split in (
      front.0 ++ report last.journal,
      sym (append_assoc (run start done).journal.printed front.0 (report last.journal)) ∙ ap (λ (p : List ℕ). p ++ report last.journal) front.1,
    )

-- ---- a run that broke off

pub broke_prefix : (first : Machine) (start : State) (events : List Event) (m : Machine) (old new : SinkState) → RunBroke first start events m old new →
    TookPrefix old new (output (run start events))
broke_prefix first start events m old new b =
    let here : State = run start b.done in
    let printed : b.cleared ++ m.journal.printed ≡ here.journal.printed = stands_printed m here b.cleared b.stands in
    let front = output_front start b.done b.left events b.split in
    prefix_same old new _ _ front.1
    (prefix_of_front old new here.journal.printed front.0
    (prefix_same old new _ _ printed (prefix_after old (after_taking old b.cleared) new b.cleared m.journal.printed refl b.broke.prefix)))

pub broke_reaches : (wanting : Type 0) (first : Machine) (start : State) (events : List Event) (m : Machine) (old new : SinkState) → (wanting → ⊥) → IsNew first start →
    RunBroke first start events m old new → RunsTo wanting start events m old new
broke_reaches wanting first start events m old new never is_new b = record {
  done = b.done;
  left = b.left;
  split = b.split;
  cleared = b.cleared;
  stands = b.stands;
  first = first;
  reaches = record { new = is_new; chain = b.chain };
  rest = inr (b.room, b.due, b.broke);
  quiet = λ w. absurd (never w);
}

-- ---- a whole run

pub ran_reaches : (first : Machine) (start : State) (events : List Event) (m : Machine) (old mid new : SinkState) (result : Result Status Trouble) → IsNew first start →
    HasRun first start events m old mid → length m.journal.printed < max_printed → IsFalse (flush_is_due m.journal.printed) → TookPrefix mid new (machine_output m) →
    (IsErrOf result Memory → new ≡ mid) →
    RunsTo (IsErrOf result Memory) start events m old new
ran_reaches first start events m old mid new result is_new ran room undue prefix quiet = record {
  done = events;
  left = [];
  split = append-nil events;
  cleared = ran.cleared;
  stands = ran.stands;
  first = first;
  reaches = record { new = is_new; chain = ran.chain };
  rest = inl (refl, room, undue, subst (λ (k : SinkState). TookPrefix k new (machine_output m)) ran.taken prefix);
  quiet = λ w. quiet w ∙ ran.taken;
}

pub ran_writes : (first : Machine) (start : State) (m : Machine) (events : List Event) (old mid new : SinkState) (result : Result Status Trouble) → HasRun first start events m old mid →
    Writes (run_status m.journal.verdict) (machine_output m) mid new result → Writes (run_status (run start events).journal.verdict) (output (run start events)) old new result
ran_writes first start m events old mid new (Ok s) ran w =
    let last : State = run start events in
    let all : ran.cleared ++ machine_output m ≡ output last = stands_output m last ran.cleared ran.stands in
    record {
      status = w.status ∙ ap run_status (stands_verdict m last ran.cleared ran.stands);
      proper = w.proper;
      whole =
          w.whole ∙ ap (λ (k : SinkState). after_taking k (machine_output m)) ran.taken ∙ after_taking-append old ran.cleared (machine_output m)
          ∙ ap (λ (b : List ℕ). after_taking old b) all;
      prefix = prefix_same old new _ _ all (prefix_after old mid new ran.cleared (machine_output m) ran.taken w.prefix);
      write = λ e. absurd (cc e);
      memory = λ e. absurd (cc e);
    }
ran_writes first start m events old mid new (Err e) ran w =
    let last : State = run start events in
    let all : ran.cleared ++ machine_output m ≡ output last = stands_output m last ran.cleared ran.stands in
    record {
      status = tt;
      proper = tt;
      whole = tt;
      prefix = prefix_same old new _ _ all (prefix_after old mid new ran.cleared (machine_output m) ran.taken w.prefix);
      write = λ is. subst (λ (n : ℕ). n < new.faults) (ap (λ (k : SinkState). k.faults) ran.taken) (w.write is);
      memory = λ is. w.memory is ∙ ap (λ (k : SinkState). k.faults) ran.taken;
    }

-- a write that failed, and out of memory before any
pub broken_writes : (due : Status) (bytes : List ℕ) (old new : SinkState) → TookPrefix old new bytes → old.faults < new.faults → Writes due bytes old new (Err Write)
broken_writes due bytes old new prefix rose = record {
  status = tt;
  proper = tt;
  whole = tt;
  prefix = prefix;
  write = λ _. rose;
  memory = λ e. absurd (cc e);
}

pub wanting_writes : (due : Status) (bytes : List ℕ) (sink : SinkState) → Writes due bytes sink sink (Err Memory)
wanting_writes due bytes sink = record {
  status = tt;
  proper = tt;
  whole = tt;
  prefix = prefix_none sink bytes;
  write = λ e. absurd (cc e);
  memory = λ _. refl;
}

-- a run's end under another word when out of memory
pub runs_under : (P Q : Type 0) (start : State) (events : List Event) (m : Machine) (old new : SinkState) → (Q → P) → RunsTo P start events m old new → RunsTo Q start events m old new
runs_under P Q start events m old new back r = record {
  done = r.done;
  left = r.left;
  split = r.split;
  cleared = r.cleared;
  stands = r.stands;
  first = r.first;
  reaches = r.reaches;
  rest = r.rest;
  quiet = λ q. r.quiet (back q);
}

-- the status of a run is neither a write fault nor out of memory
pub run_is_answer : (v : Verdict) → IsTrue (is_answer (run_status v))
run_is_answer Running = refl
run_is_answer Shutdown = refl
run_is_answer (Stopped rule hart turn) = refl
