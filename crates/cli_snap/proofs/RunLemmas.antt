-- The run of `snap`: the console's bytes and nothing else.
use Rattle.std.proofs.Common.{◌≡◌, ℕ, suc, ◌<◌, ◌≤◌, ◌^◌, List, [], ◌∷◌, ◌++◌, length, refl, sym, ◌∙◌, ap, subst, arith, inl, inr, Result, Ok, Err, OnOk, IsErrOf, IsFalse}
use Rattle.std.proofs.lemmas.List.{append-nil}
use Rattle.sv_types.specs.Limits.{max_events, max_printed}
use Rattle.sv_types.specs.Schedule.{Schedule, first_events}
use Rattle.sv_types.specs.declared.event.Counts.{Counts}
use Rattle.sv_types.specs.declared.event.Event.{Event}
use Rattle.sv_types.specs.declared.event.Verdict.{Verdict}
use Rattle.sv_types.specs.declared.event.Verdict.TheVariants.{Running, Shutdown, Stopped}
use Rattle.sv_types.specs.declared.status.Status.{Status}
use Rattle.spec_reference.specs.Counting.{CountsAtMost}
use Rattle.spec_reference.specs.Run.{run, step}
use Rattle.spec_reference.specs.States.{State}
use Rattle.spec_hardware.specs.Machine.{Machine}
use Rattle.spec_hardware.specs.Reaches.{IsNew}
use Rattle.spec_hardware.specs.StandsFor.{StandsFor, machine_of}
use Rattle.script.proofs.FirstEvents.{first_few}
use Rattle.laws_resume.specs.Continues.{drawn_under, draw_count}
use Rattle.laws_resume.proofs.EventsCounted.{counted_law}
use Rattle.laws_resume.specs.EventCounts.{events_counted}
use Rattle.host_io.specs.Outside.{SinkState, after_taking, TookPrefix, BreaksOff}
use Rattle.host_io.proofs.SinkLemmas.{after_taking-append, prefix_after, prefix_of_front, prefix_same, prefix_whole}
use Rattle.machine.specs.Console.{flush_is_due, HasRun, RunBroke}
use Rattle.machine.specs.Standing.{HasState}
use Rattle.machine.proofs.Standing.{stands_new, stands_printed, cleared_none}
use Rattle.secvisor_cli.specs.Answers.{Writes}
use Rattle.host_io.specs.declared.trouble.Trouble.{Trouble}
use Rattle.host_io.specs.declared.trouble.Trouble.TheVariants.{Write, Memory}
use Rattle.secvisor_cli.proofs.EndLemmas.{printed_front, broken_writes}
use Rattle.cli_snap.specs.SnapAnswers.{StandsAfter}

-- ---- what was written

-- the console's bytes that were left behind the run were written, or their write failed
pub ran_writes : (first : Machine) (start : State) (events : List Event) (m : Machine) (old mid new : SinkState) → HasRun first start events m old mid → new ≡ after_taking mid m.journal.printed →
    Writes Status.Done (run start events).journal.printed old new (Ok Status.Done)
ran_writes first start events m old mid new ran whole =
    let all : new ≡ after_taking old (run start events).journal.printed =
    whole ∙ ap (λ (k : SinkState). after_taking k m.journal.printed) ran.taken ∙ after_taking-append old ran.cleared m.journal.printed
    ∙ ap (λ (b : List ℕ). after_taking old b) (stands_printed m (run start events) ran.cleared ran.stands) in
    record {
      status = refl;
      proper = refl;
      whole = all;
      prefix = prefix_whole old new (run start events).journal.printed all;
      write = λ e. absurd (cc e);
      memory = λ e. absurd (cc e);
    }

pub last_broke_writes : (first : Machine) (start : State) (events : List Event) (m : Machine) (old mid new : SinkState) → HasRun first start events m old mid → BreaksOff mid new m.journal.printed →
    Writes Status.Done (run start events).journal.printed old new (Err Write)
last_broke_writes first start events m old mid new ran broke =
    broken_writes Status.Done (run start events).journal.printed old new
    (prefix_same old new _ _ (stands_printed m (run start events) ran.cleared ran.stands) (prefix_after old mid new ran.cleared m.journal.printed ran.taken broke.prefix))
    (subst (λ (n : ℕ). n < new.faults) (ap (λ (k : SinkState). k.faults) ran.taken) broke.faults)

pub run_broke_writes : (first : Machine) (start : State) (events : List Event) (m : Machine) (old new : SinkState) → RunBroke first start events m old new →
    Writes Status.Done (run start events).journal.printed old new (Err Write)
run_broke_writes first start events m old new b =
    let here : State = run start b.done in
    let front = printed_front start b.done b.left events b.split in
    broken_writes Status.Done (run start events).journal.printed old new
    (prefix_same old new _ _ front.1
    (prefix_of_front old new here.journal.printed front.0
    (prefix_same old new _ _ (stands_printed m here b.cleared b.stands) (prefix_after old (after_taking old b.cleared) new b.cleared m.journal.printed refl b.broke.prefix))))
    b.broke.faults

-- ---- the machine that is left

none_left : (left : List Event) → left ≡ [] → (written : Result Status Trouble) → OnOk written (left ≡ [])
none_left left none (Ok status) = none
none_left left none (Err trouble) = tt

ran_at : (first : Machine) (start : State) (events : List Event) (m : Machine) (old mid new : SinkState) (written : Result Status Trouble) → IsNew first start → HasRun first start events m old mid →
    length m.journal.printed < max_printed → IsFalse (flush_is_due m.journal.printed) → (IsErrOf written Memory → ⊥) → TookPrefix mid new m.journal.printed → StandsAfter start events m old new written
ran_at first start events m old mid new written is_new ran room undue never prefix = record {
  done = events;
  left = [];
  split = append-nil events;
  all = none_left [] refl written;
  cleared = ran.cleared;
  stands = ran.stands;
  first = first;
  reaches = record { new = is_new; chain = ran.chain };
  rest = inl (refl, room, undue, subst (λ (k : SinkState). TookPrefix k new m.journal.printed) ran.taken prefix);
  quiet = λ w. absurd (never w);
}

pub ran_stands : (first : Machine) (start : State) (events : List Event) (m : Machine) (old mid new : SinkState) → IsNew first start → HasRun first start events m old mid →
    length m.journal.printed < max_printed → IsFalse (flush_is_due m.journal.printed) → new ≡ after_taking mid m.journal.printed → StandsAfter start events m old new (Ok Status.Done)
ran_stands first start events m old mid new is_new ran room undue whole = ran_at first start events m old mid new (Ok Status.Done) is_new ran room undue (λ w. cc w)
    (prefix_whole mid new m.journal.printed whole)

pub last_broke_stands : (first : Machine) (start : State) (events : List Event) (m : Machine) (old mid new : SinkState) → IsNew first start → HasRun first start events m old mid →
    length m.journal.printed < max_printed → IsFalse (flush_is_due m.journal.printed) → BreaksOff mid new m.journal.printed → StandsAfter start events m old new (Err Write)
last_broke_stands first start events m old mid new is_new ran room undue broke = ran_at first start events m old mid new (Err Write) is_new ran room undue (λ w. cc w) broke.prefix

pub run_broke_stands : (first : Machine) (start : State) (events : List Event) (m : Machine) (old new : SinkState) → IsNew first start → RunBroke first start events m old new →
    StandsAfter start events m old new (Err Write)
run_broke_stands first start events m old new is_new b = record {
  done = b.done;
  left = b.left;
  split = b.split;
  all = tt;
  cleared = b.cleared;
  stands = b.stands;
  first = first;
  reaches = record { new = is_new; chain = b.chain };
  rest = inr (inl (b.room, b.due, b.broke));
  quiet = λ w. absurd (cc w);
}

-- before the first event
pub new_stands : (m : Machine) (start : State) (events : List Event) (sink : SinkState) → IsNew m start → StandsAfter start events m sink sink (Err Memory)
new_stands m start events sink is_new = record {
  done = [];
  left = events;
  split = refl;
  all = tt;
  cleared = [];
  stands = stands_new m start is_new;
  first = m;
  reaches = record { new = is_new; chain = cleared_none m };
  rest = inr (inr (refl, refl));
  quiet = λ w. refl;
}

-- ---- what the snapshot needs of it

pub has_state : (start : State) (events : List Event) (m : Machine) (old new : SinkState) (written : Result Status Trouble) → StandsAfter start events m old new written → HasState m
has_state start events m old new written it = record { state = run start it.done; stands = it.stands.stands }

done_is : (start : State) (events : List Event) (m : Machine) (old new : SinkState) (status : Status) → (it : StandsAfter start events m old new (Ok status)) → it.done ≡ events
done_is start events m old new status it = sym (append-nil it.done) ∙ ap (λ (left : List Event). it.done ++ left) (sym it.all) ∙ it.split

pub stands_all : (start : State) (events : List Event) (m : Machine) (old new : SinkState) (status : Status) → StandsAfter start events m old new (Ok status) → StandsFor m (run start events)
stands_all start events m old new status it = subst (λ (es : List Event). StandsFor m (run start es)) (done_is start events m old new status it) it.stands.stands

pub counts_are : (m : Machine) (r : State) → StandsFor m r → events_counted m.journal.counts ≡ events_counted r.journal.counts
unfolding machine_of
counts_are m r stands = ap (λ (x : Machine). events_counted x.journal.counts) stands.same

pub none_counted : (c : Counts) → CountsAtMost 0 c → events_counted c ≡ 0
none_counted c few = omega (arith, few.turns, few.beats, few.keys, few.ticks)

-- the events that are counted are those that were made
pub counts_drawn : (first m : Machine) (start : State) (events : List Event) → IsNew first start → CountsAtMost 0 first.journal.counts → StandsFor m (run start events) →
    events_counted m.journal.counts ≡ draw_count start events
counts_drawn first m start events is_new few stands =
    let none : events_counted start.journal.counts ≡ 0 = sym (counts_are first start is_new.stands) ∙ none_counted first.journal.counts few in
    let all = counted_law start events in
    let here = counts_are m (run start events) stands in
    omega (arith, none, all, here)

drawn_few_by : (verdict : Verdict) (later n : ℕ) → later ≤ n → drawn_under verdict suc later ≤ suc n
unfolding drawn_under
drawn_few_by Running later n few = omega (arith, few)
drawn_few_by Shutdown later n few = omega arith
drawn_few_by (Stopped rule h at) later n few = omega arith

pub drawn_few : (s : State) (events : List Event) → draw_count s events ≤ length events
unfolding draw_count
drawn_few s [] = omega arith
drawn_few s (e ∷ events) = drawn_few_by s.journal.verdict (draw_count (step s e) events) (length events) (drawn_few (step s e) events)

pub few_counted : (first m : Machine) (start : State) (n : ℕ) (script : Schedule) → IsNew first start → CountsAtMost 0 first.journal.counts → n ≤ max_events →
    StandsFor m (run start (first_events n script)) →
    events_counted m.journal.counts < 2 ^ 64
few_counted first m start n script is_new none few stands =
    let all = counts_drawn first m start (first_events n script) is_new none stands in
    let some = drawn_few start (first_events n script) in
    let most = first_few n script in
    omega (arith, all, some, most, few)
