-- A live run, from what it made to what it owes.
use Rattle.std.proofs.Common.{◌≡◌, ◌≢◌, ◌≤◌, ◌+◌, ◌-◌, ◌*◌, ℕ, List, [], ◌++◌, length, map, Bool, true, false, refl, sym, ◌∙◌, ap, subst, arith, inl, inr, ◌⊎◌, Option, Some, None, Result, Err}
use Rattle.std.proofs.lemmas.List.{map-append, length-map}
use Rattle.std.proofs.lemmas.Bool.{cases_Bool}
use Rattle.sv_types.specs.ApprovedPages.{numbers_from}
use Rattle.sv_types.proofs.PageNumbers.{numbers_length}
use Rattle.sv_types.specs.Output.{run_status}
use Rattle.sv_types.specs.Policies.{Rules}
use Rattle.sv_types.specs.Schedule.{Schedule, auto_event, first_events, random_at}
use Rattle.sv_types.specs.declared.event.Event.{Event}
use Rattle.sv_types.specs.declared.event.Verdict.{Verdict}
use Rattle.sv_types.specs.declared.event.Verdict.TheVariants.{Running}
use Rattle.sv_types.specs.declared.status.Status.{Status}
use Rattle.spec_reference.specs.Report.{output, report}
use Rattle.spec_reference.specs.Run.{run}
use Rattle.spec_reference.specs.States.{State}
use Rattle.spec_hardware.specs.Machine.{Machine}
use Rattle.spec_hardware.specs.Reaches.{IsNew}
use Rattle.spec_hardware.specs.StandsFor.{StandsFor, machine_of}
use Rattle.host_io.specs.Outside.{FilesState, SinkState, after_taking, TookPrefix}
use Rattle.host_io.proofs.SinkLemmas.{after_taking-nil, prefix_after, prefix_of_front, prefix_same}
use Rattle.script.specs.AutoScripts.{events_of_text, first_refused}
use Rattle.script.proofs.FirstEvents.{first_drawn}
use Rattle.machine.specs.Console.{HasRun, flush_is_due}
use Rattle.machine.specs.Standing.{machine_output}
use Rattle.machine.proofs.Standing.{stands_new, stands_printed, stands_verdict, cleared_none}
use Rattle.live_keys.specs.Journal.{events_of}
use Rattle.live_keys.specs.Keys.{KeysState}
use Rattle.live_keys.specs.Placed.{autos_between, events_between, keys_among, others_among}
use Rattle.live_keys.specs.declared.live_key.LiveKey.{LiveKey}
use Rattle.live_keys.proofs.Events.{numbers_join}
use Rattle.cli_live.proofs.MadeEvents.{last_under, shown_early}
use Rattle.cli_live.specs.Coming.{CameRunning}
use Rattle.cli_live.specs.Drives.{BrokeOff, GoesOn, HasBroken, HasDriven, IsShownEarly, MayShow}
use Rattle.cli_live.specs.Inputs.{HasKeys}
use Rattle.cli_live.specs.LiveRuns.{harts_of, events_made, IsUnderWay}
use Rattle.cli_live.specs.declared.live_run.LiveRun.{LiveRun}
use Rattle.cli_live.specs.declared.threads.LiveEnd.{LiveEnd}
use Rattle.host_io.specs.declared.trouble.Trouble.{Trouble}
use Rattle.host_io.specs.declared.trouble.Trouble.TheVariants.{Write}
use Rattle.secvisor_cli.specs.Answers.{Writes}
use Rattle.secvisor_cli.proofs.EndLemmas.{ran_writes, broken_writes}
use Rattle.cli_live.specs.declared.ready.LiveReady.{LiveReady}
use Rattle.cli_live.specs.LiveReady.{IsLiveFresh}
use Rattle.cli_live.specs.LiveAnswers.{live_outside, IsScriptOf, SavesScript, StandsBehind, BreaksLast, Reports, RunsLive}

-- ---- the machine that is left

pub ran_stands : (first : Machine) (start : State) (events : List Event) (m : Machine) (old mid new : SinkState) → IsNew first start → HasRun first start events m old mid →
    TookPrefix mid new (machine_output m) → StandsBehind start events m old new
ran_stands first start events m old mid new is_new ran prefix = record {
  cleared = ran.cleared;
  stands = ran.stands;
  first = first;
  reaches = record { new = is_new; chain = ran.chain };
  rest = subst (λ (k : SinkState). TookPrefix k new (machine_output m)) ran.taken prefix;
}

pub broken_stands : (early : Type 0) (first : Machine) (start : State) (events : List Event) (m : Machine) (old new : SinkState) → IsNew first start → HasBroken early first start events m old new →
    StandsBehind start events m old new
broken_stands early first start events m old new is_new b = record {
  cleared = b.cleared;
  stands = b.stands;
  first = first;
  reaches = record { new = is_new; chain = b.chain };
  rest = prefix_of_front (after_taking old b.cleared) new m.journal.printed (report m.journal) b.broke.prefix;
}

-- what the sink took before a write failed stands at the front of the output
pub broken_prefix : (early : Type 0) (first : Machine) (start : State) (events : List Event) (m : Machine) (old new : SinkState) → HasBroken early first start events m old new →
    TookPrefix old new (output (run start events))
broken_prefix early first start events m old new b =
    let last : State = run start events in
    prefix_of_front old new last.journal.printed (report last.journal)
    (prefix_same old new _ _ (stands_printed m last b.cleared b.stands) (prefix_after old (after_taking old b.cleared) new b.cleared m.journal.printed refl b.broke.prefix))

-- ---- the events that are drawn

pub drawn_split : (harts made all : ℕ) → made ≤ all → first_events made (Schedule.Auto harts 0) ++ autos_between harts made all ≡ first_events all (Schedule.Auto harts 0)
drawn_split harts made all le =
    let whole : made + (all - made) ≡ all = omega arith in
    let here : made ≡ 0 + made = omega arith in
    ap (λ (es : List Event). es ++ autos_between harts made all) (first_drawn harts 0 made)
    ∙ ap (λ (n : ℕ). map (auto_event harts 0) (numbers_from 0 made) ++ map (auto_event harts 0) (numbers_from n (all - made))) here
    ∙ sym (map-append (auto_event harts 0) (numbers_from 0 made) (numbers_from (0 + made) (all - made)))
    ∙ ap (λ (ns : List ℕ). map (auto_event harts 0) ns) (sym (numbers_join 0 made (all - made)))
    ∙ ap (λ (n : ℕ). map (auto_event harts 0) (numbers_from 0 n)) whole
    ∙ sym (first_drawn harts 0 all)

pub drawn_none : (harts made all : ℕ) → made ≡ all → autos_between harts made all ≡ []
drawn_none harts made all same =
    let none : all - made ≡ 0 = omega arith in
    ap (λ (n : ℕ). map (auto_event harts 0) (numbers_from made n)) none

-- ---- the rules of a machine that has just started

pub rules_are : (m : Machine) (r : State) → StandsFor m r → m.rules ≡ r.rules
unfolding machine_of
rules_are m r s = ap (λ (x : Machine). x.rules) s.same

-- ---- the script

pub is_script : (l : LiveRun) (text : List ℕ) → IsUnderWay l → ((harts : ℕ) → events_of_text harts text ≡ events_of harts l.journal) → first_refused text ≡ None →
    length text ≤ 24 * length l.journal.keys.items + 16 → IsScriptOf (harts_of l.script) (events_made l) text
is_script l text way reads accepted size =
    let long : length l.journal.keys.items ≡ length l.taker.bytes = sym (length-map l.journal.keys.items (λ (key : LiveKey). key.byte)) ∙ ap (λ (bytes : List ℕ). length bytes) way.keys in
    let few = way.few in
    record { reads = reads (harts_of l.script); accepted = accepted; short = omega arith }

-- ---- the whole

none_made : (l : LiveRun) → l.journal.keys.items ≡ [] → l.journal.autos ≡ 0 → events_made l ≡ []
none_made l keys autos =
    ap (λ (all : List LiveKey). events_between (harts_of l.script) 0 all l.journal.autos) keys
    ∙ ap (λ (n : ℕ). events_between (harts_of l.script) 0 [] n) autos

script_is : (l : LiveRun) → IsUnderWay l → l.journal.autos ≡ 0 → l.script ≡ Schedule.Auto (harts_of l.script) 0
unfolding random_at
script_is l way autos = way.drawn ∙ ap (λ (n : ℕ). Schedule.Auto (harts_of l.script) (random_at 0 n)) autos

ran_none : (m : Machine) (start : State) (sink : SinkState) (made : List Event) → made ≡ [] → IsNew m start → m.journal.printed ≡ [] → HasDriven m start made m sink sink
ran_none m start sink made none new printed =
    subst (λ (es : List Event). HasDriven m start es m sink sink) (sym none) (record {
      run = record { cleared = []; stands = stands_new m start new; chain = cleared_none m; taken = sym (after_taking-nil sink) };
      came = tt;
      rest = ap flush_is_due printed;
    })

-- how the sink and the machine stand at the end
pub record EndsLive (start : State) (journal : List Event) (machine : Machine) (old new : SinkState) (written : Result Status Trouble) : Type 0 where
  pub writes : Writes (run_status (run start journal).journal.verdict) (output (run start journal)) old new written
  pub verdict : machine.journal.verdict ≡ (run start journal).journal.verdict
  pub came : CameRunning start journal
  pub bench : StandsBehind start journal machine old new

ran_ends : (first : Machine) (start : State) (events : List Event) (m : Machine) (old mid new : SinkState) (written : Result Status Trouble) → IsNew first start →
    HasDriven first start events m old mid →
    Writes (run_status m.journal.verdict) (machine_output m) mid new written → EndsLive start events m old new written
ran_ends first start events m old mid new written is_new ran writes = record {
  writes = ran_writes first start m events old mid new written ran.run writes;
  verdict = stands_verdict m (run start events) ran.run.cleared ran.run.stands;
  came = ran.came;
  bench = ran_stands first start events m old mid new is_new ran.run writes.prefix;
}

broken_ends : (early : Type 0) (first : Machine) (start : State) (events : List Event) (m : Machine) (old new : SinkState) → IsNew first start → HasBroken early first start events m old new →
    EndsLive start events m old new (Err Write)
broken_ends early first start events m old new is_new b = record {
  writes = broken_writes _ _ old new (broken_prefix early first start events m old new b) b.broke.faults;
  verdict = stands_verdict m (run start events) b.cleared b.stands;
  came = b.came;
  bench = broken_stands early first start events m old new is_new b;
}

-- what a live run was, from what it was to the machine before it
pub record DroveLive (live last : LiveRun) (ended : LiveEnd) (old mid : SinkState) : Type 0 where
  pub on : ended.write_failed ≡ false → GoesOn (events_made live) (events_made last) live.machine last.machine old mid
  pub broke : ended.write_failed ≡ true → BrokeOff live last old mid

ends_live : (live last : LiveRun) (ended : LiveEnd) (start : State) (name : List ℕ) (f0 f1 : FilesState) (old mid new : SinkState) (result : Result Status Trouble) →
    events_made live ≡ [] → IsNew live.machine start → live.machine.journal.printed ≡ [] → DroveLive live last ended old mid → (r : Reports last ended name f0 f1 mid new result) →
    (ended.write_failed ≡ true) ⊎ (ended.write_failed ≡ false) → EndsLive start (events_made last) last.machine old new r.written
ends_live live last ended start name f0 f1 old mid new result none is_new printed drove r (inr done) =
    ran_ends live.machine start (events_made last) last.machine old mid new r.written is_new
    ((drove.on done).ran live.machine start old (ran_none live.machine start old (events_made live) none is_new printed)) (r.writes done)
ends_live live last ended start name f0 f1 old mid new result none is_new printed drove r (inl broke) =
    subst (λ (s : SinkState). EndsLive start (events_made last) last.machine old s r.written) (sym (r.broke broke).1)
    (subst (λ (w : Result Status Trouble). EndsLive start (events_made last) last.machine old mid w) (sym (r.broke broke).0)
    (broken_ends (MayShow last) live.machine start (events_made last) last.machine old mid is_new
    ((drove.broke broke).broke live.machine start old (ran_none live.machine start old (events_made live) none is_new printed))))

-- ---- the last event before a write that failed

drawn_length : (harts n : ℕ) → length (first_events n (Schedule.Auto harts 0)) ≡ n
drawn_length harts n =
    ap (λ (es : List Event). length es) (first_drawn harts 0 n) ∙ length-map (numbers_from 0 n) (auto_event harts 0) ∙ numbers_length 0 n

shown_as : (journal : List Event) (made n asked m : ℕ) (v w : Verdict) → made ≡ n → asked ≡ m → v ≡ w → IsShownEarly journal made asked v → IsShownEarly journal n m w
shown_as journal made n asked m v w made_is asked_is is early =
    subst (λ (x : Verdict). IsShownEarly journal n m x) is
    (subst (λ (x : ℕ). IsShownEarly journal n x v) asked_is (subst (λ (x : ℕ). IsShownEarly journal x asked v) made_is early))

broken_last : (early : Type 0) (first : Machine) (start : State) (journal asked : List Event) (m : Machine) (old new : SinkState) →
    (early → IsShownEarly journal (length (others_among journal)) (length asked) (run start journal).journal.verdict) → HasBroken early first start journal m old new →
    BreaksLast start journal asked old new
broken_last early first start journal asked m old new shown b = record {
  cleared = b.cleared;
  rest = m.journal.printed;
  printed = stands_printed m (run start journal) b.cleared b.stands;
  broke = b.broke;
  late = last_under early _ start journal b.cleared m.journal.printed shown b.late;
}

pub runs_live : (ready : LiveReady) (last : LiveRun) (ended : LiveEnd) (start : State) (f0 f1 : FilesState) (old mid new : SinkState) (k0 k1 : KeysState) (b0 : Option Machine)
    (result : Result Status Trouble) → IsLiveFresh ready → IsNew ready.live.machine start → DroveLive ready.live last ended old mid → HasKeys k0 k1 (keys_among (events_made last)) ended →
    others_among (events_made last) ≡ first_events last.journal.autos (Schedule.Auto (harts_of ready.live.script) 0) → last.journal.autos ≤ ready.live.events →
    (ended.write_failed ≡ false → (last.journal.autos ≡ ready.live.events) ⊎ (last.machine.journal.verdict ≢ Running)) → harts_of last.script ≡ harts_of ready.live.script →
    last.events ≡ ready.live.events →
    Reports last ended ready.out.now f0 f1 mid new result →
    RunsLive start (first_events ready.live.events ready.live.script) ready.out.now (live_outside f0 old k0 b0) (live_outside f1 new k1 (Some last.machine)) result
runs_live ready last ended start f0 f1 old mid new k0 k1 b0 result fresh is_new drove keys others most all same events r =
    let live : LiveRun = ready.live in
    let harts : ℕ = harts_of live.script in
    let ends : EndsLive start (events_made last) last.machine old new r.written =
    ends_live live last ended start ready.out.now f0 f1 old mid new result (none_made live fresh.keys fresh.autos) is_new fresh.console drove r (cases_Bool ended.write_failed) in
    record {
      journal = events_made last;
      ended = ended;
      keys = keys;
      left = autos_between harts last.journal.autos live.events;
      others =
          ap (λ (es : List Event). es ++ autos_between harts last.journal.autos live.events) others
          ∙ drawn_split harts last.journal.autos live.events most
          ∙ ap (λ (s : Schedule). first_events live.events s) (sym (script_is live fresh.way fresh.autos));
      all = λ done. enough harts last.journal.autos live.events last.machine.journal.verdict (run start (events_made last)).journal.verdict ends.verdict (all done);
      came = ends.came;
      written = r.written;
      broke = λ broke. (r.broke broke).0;
      late = λ broke.
          subst (λ (s : SinkState). BreaksLast start (events_made last) (first_events live.events live.script) old s) (sym (r.broke broke).1)
          (broken_last (MayShow last) live.machine start (events_made last) (first_events live.events live.script) last.machine old mid
          (λ shown. shown_as (events_made last) _ _ _ _ _ _ (sym (ap (λ (es : List Event). length es) others ∙ drawn_length harts last.journal.autos))
          (events ∙ sym (ap (λ (s : Schedule). length (first_events live.events s)) (script_is live fresh.way fresh.autos) ∙ drawn_length harts live.events)) ends.verdict (shown_early last shown))
          ((drove.broke broke).broke live.machine start old (ran_none live.machine start old (events_made live) (none_made live fresh.keys fresh.autos) is_new fresh.console)));
      writes = ends.writes;
      saved = r.saved;
      saves =
          subst (λ (h : ℕ). SavesScript h (events_made last) ready.out.now f0 f1 r.written r.saved)
          (same ∙ fresh.harts ∙ ap (λ (rules : Rules). rules.harts) (rules_are live.machine start is_new.stands)) r.saves;
      status = r.status;
      bench = (last.machine, refl, ends.bench);
    }
  where
    enough : (harts made asked : ℕ) (v w : Verdict) → v ≡ w → (made ≡ asked) ⊎ (v ≢ Running) → (autos_between harts made asked ≡ []) ⊎ (w ≢ Running)
    enough harts made asked v w is (inl whole) = inl (drawn_none harts made asked whole)
    enough harts made asked v w is (inr over) = inr (λ running. over (is ∙ running))
