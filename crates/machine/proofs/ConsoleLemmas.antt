-- A run, its console and the sink.
use Rattle.std.proofs.Common.{◌≡◌, ◌≢◌, ℕ, zero, suc, ◌≤◌, ◌<◌, List, [], ◌∷◌, ◌++◌, length, drop, replicate, refl, sym, ◌∙◌, ap, subst, append_assoc, arith, IsFalse, IsTrue, length-append}
use Rattle.sv_types.specs.Limits.{max_printed}
use Rattle.std.proofs.lemmas.List.{append-nil, append_cancel_left}
use Rattle.std.proofs.Math.Seq.{drop-append_seam}
use Rattle.sv_types.specs.declared.event.Event.{Event}
use Rattle.sv_types.specs.declared.event.Counts.{Counts}
use Rattle.sv_types.specs.declared.event.Verdict.{Verdict}
use Rattle.sv_types.specs.declared.event.Verdict.TheVariants.{Running, Shutdown, Stopped}
use Rattle.spec_reference.specs.Counting.{CountsAtMost}
use Rattle.spec_reference.specs.Run.{HasEnded, run, step}
use Rattle.spec_reference.specs.States.{State}
use Rattle.spec_reference.proofs.Runs.{ended_stays, run_on}
use Rattle.spec_hardware.specs.HardwareEvent.{IsEvent}
use Rattle.spec_hardware.specs.Machine.{Machine}
use Rattle.spec_hardware.specs.Reaches.{Cleared, IsNew, ReachesFrom}
use Rattle.spec_hardware.specs.StandsFor.{StandsFor}
use Rattle.laws_simulation.proofs.RunsReach.{clear_law}
use Rattle.machine.specs.Repeats.{Makes, Repeats}
use Rattle.machine.proofs.Repeated.{one_more, repeats_stand}
use Rattle.host_io.specs.Outside.{SinkState, after_taking, BreaksOff}
use Rattle.host_io.proofs.SinkLemmas.{after_taking-append, after_taking-nil}
use Rattle.machine.specs.Standing.{Stands, HasState}
use Rattle.machine.specs.Console.{flush_is_due, HasTaken, Flushed, HasRun, RunBroke}
use Rattle.machine.proofs.Standing.{stands_new, stands_step, stands_away, stands_verdict, away_counts, cleared_none, event_ended, flushed_none, prints_after, stands_printed, step_room, verdict_is}

-- ---- the machines on the way

-- one event more, and then printed bytes are taken away
pub reaches_more : (first : Machine) (r : State) (done : List Event) (m next after : Machine) (e : Event) → ReachesFrom first r done m → IsEvent m e next →
    StandsFor next (step (run r done) e) → Cleared next after → ReachesFrom first r (done ++ e ∷ []) after
reaches_more first r [] m next after e chain event stands cleared =
    (next, (record { ready = m; printed = chain; event = event; stands = stands }, cleared))
reaches_more first r (d ∷ done) m next after e chain event stands cleared =
    (chain.0, (chain.1.0, reaches_more chain.0 (step r d) done m next after e chain.1.1 event stands cleared))

has_ended : (v : Verdict) → v ≢ Running → HasEnded v
has_ended Running ended = absurd (ended refl)
has_ended Shutdown ended = tt
has_ended (Stopped rule hart at) ended = tt

-- a machine that has ended makes the other events without a change
reaches_ended : (first : Machine) (r : State) (done rest : List Event) (m : Machine) → ReachesFrom first r done m → StandsFor m (run r done) → m.journal.verdict ≢ Running →
    ReachesFrom first r (done ++ rest) m
reaches_ended first r done [] m chain stands ended = subst (λ (es : List Event). ReachesFrom first r es m) (sym (append-nil done)) chain
reaches_ended first r done (e ∷ rest) m chain stands ended =
    let here : State = run r done in
    let still : step here e ≡ here = ended_stays here (e ∷ []) (has_ended here.journal.verdict (λ is. ended (verdict_is m here stands ∙ is))) in
    let same : StandsFor m (step here e) = subst (λ (s : State). StandsFor m s) (sym still) stands in
    let more : ReachesFrom first r (done ++ e ∷ []) m = reaches_more first r done m m m e chain (event_ended m e ended) same (cleared_none m) in
    let on : StandsFor m (run r (done ++ e ∷ [])) = subst (λ (s : State). StandsFor m s) (sym (run_on r done (e ∷ []))) same in
    subst (λ (es : List Event). ReachesFrom first r es m) (append_assoc done (e ∷ []) rest)
    (reaches_ended first r (done ++ e ∷ []) rest m more on ended)

-- ---- the run so far

-- the run goes on: so far the machine has run over some of the events, and the others are left
pub record RunsOn (first : Machine) (start : State) (all left : List Event) (machine : Machine) (old new : SinkState) : Type 0 where
  pub done : List Event
  pub split : done ++ left ≡ all
  pub ran : HasRun first start done machine old new

pub runs_none : (first : Machine) (start : State) (all left : List Event) (sink : SinkState) → left ≡ all → IsNew first start → RunsOn first start all left first sink sink
runs_none first start all left sink same new = record {
  done = [];
  split = same;
  ran = record { cleared = []; stands = stands_new first start new; chain = cleared_none first; taken = sym (after_taking-nil sink) };
}

-- the state after one event more, before its bytes are flushed
pub stands_next : (start : State) (m next : Machine) (done : List Event) (event : Event) (cleared : List ℕ) → Stands m cleared (run start done) → Makes m event next →
    Stands next cleared (run start (done ++ event ∷ []))
stands_next start m next done event cleared s makes =
    subst (λ (r : State). Stands next cleared r) (sym (run_on start done (event ∷ [])))
    (stands_step m next (run start done) cleared event s (makes.stands (run start done) s.stands) makes.event)

-- one event more, and bytes that are flushed after it
ran_more : (first : Machine) (start : State) (done : List Event) (m next flushed : Machine) (event : Event) (old now new : SinkState) →
    HasRun first start done m old now → Makes m event next → Flushed next flushed now new → HasRun first start (done ++ event ∷ []) flushed old new
ran_more first start done m next flushed event old now new ran makes f = record {
  cleared = ran.cleared ++ f.cleared;
  stands = stands_away next flushed (run start (done ++ event ∷ [])) ran.cleared f.cleared (stands_next start m next done event ran.cleared ran.stands makes) f.away;
  chain = reaches_more first start done m next flushed event ran.chain makes.event (makes.stands (run start done) ran.stands.stands) f.away.cleared;
  taken = f.taken ∙ ap (λ (s : SinkState). after_taking s f.cleared) ran.taken ∙ after_taking-append old ran.cleared f.cleared;
}

in_row : (done : List Event) (n : ℕ) (event : Event) → (done ++ replicate n event) ++ event ∷ [] ≡ done ++ replicate (suc n) event
in_row done n event = append_assoc done (replicate n event) (event ∷ []) ∙ ap (λ (batch : List Event). done ++ batch) (one_more n event)

-- an event several times more
ran_again : (n : ℕ) (first : Machine) (start : State) (done : List Event) (m next : Machine) (event : Event) (old now : SinkState) →
    HasRun first start done m old now → Repeats n m event next → HasRun first start (done ++ replicate n event) next old now
ran_again zero first start done m next event old now ran same =
    subst (λ (events : List Event). HasRun first start events next old now) (sym (append-nil done)) (subst (λ (x : Machine). HasRun first start done x old now) (sym same) ran)
ran_again (suc n) first start done m next event old now ran (before, (those, (on, makes))) =
    subst (λ (events : List Event). HasRun first start events next old now) (in_row done n event)
    (ran_more first start (done ++ replicate n event) before next next event old now now (ran_again n first start done m before event old now ran those) makes (flushed_none next now))

-- the same, and bytes that are flushed after the last one
ran_flushed : (n : ℕ) (first : Machine) (start : State) (done : List Event) (m next flushed : Machine) (event : Event) (old now new : SinkState) → 0 < n →
    HasRun first start done m old now → Repeats n m event next → Flushed next flushed now new → HasRun first start (done ++ replicate n event) flushed old new
ran_flushed zero first start done m next flushed event old now new some ran repeats f = absurd (omega arith)
ran_flushed (suc n) first start done m next flushed event old now new some ran (before, (those, (on, makes))) f =
    subst (λ (events : List Event). HasRun first start events flushed old new) (in_row done n event)
    (ran_more first start (done ++ replicate n event) before next flushed event old now new (ran_again n first start done m before event old now ran those) makes f)

split_by : (all done left rest batch : List Event) → left ≡ batch ++ rest → done ++ left ≡ all → (done ++ batch) ++ rest ≡ all
split_by all done left rest batch parts split = append_assoc done batch rest ∙ ap (λ (events : List Event). done ++ events) (sym parts) ∙ split

pub runs_more : (n : ℕ) (first : Machine) (start : State) (all left rest : List Event) (m next flushed : Machine) (event : Event) (old now new : SinkState) → 0 < n →
    RunsOn first start all left m old now → left ≡ replicate n event ++ rest → Repeats n m event next → Flushed next flushed now new →
    RunsOn first start all rest flushed old new
runs_more n first start all left rest m next flushed event old now new some on parts repeats f = record {
  done = on.done ++ replicate n event;
  split = split_by all on.done left rest (replicate n event) parts on.split;
  ran = ran_flushed n first start on.done m next flushed event old now new some on.ran repeats f;
}

-- what a run prints stands after what was printed before
run_prints : (r : State) (events : List Event) → (more : List ℕ) × ((run r events).journal.printed ≡ r.journal.printed ++ more)
run_prints r [] = ([], sym (append-nil r.journal.printed))
run_prints r (e ∷ events) =
    let one = prints_after r e in
    let those = run_prints (step r e) events in (
      one.0 ++ those.0,
      those.1 ∙ ap (λ (p : List ℕ). p ++ those.0) one.1 ∙ append_assoc r.journal.printed one.0 those.0,
    )

-- an event several times, with nothing taken away
repeats_stands : (k : ℕ) (m before : Machine) (event : Event) (r : State) (cleared : List ℕ) → Stands m cleared r → Repeats k m event before →
    Stands before cleared (run r (replicate k event))
repeats_stands zero m before event r cleared s same = subst (λ (x : Machine). Stands x cleared r) (sym same) s
repeats_stands (suc k) m before event r cleared s (mid, (those, (on, makes))) =
    let here : Stands mid cleared (run r (replicate k event)) = repeats_stands k m mid event r cleared s those in
    subst (λ (x : State). Stands before cleared x)
    (sym (run_on r (replicate k event) (event ∷ [])) ∙ ap (λ (events : List Event). run r events) (one_more k event))
    (stands_step mid before (run r (replicate k event)) cleared event here (makes.stands (run r (replicate k event)) here.stands) makes.event)

none_more : (bytes more : List ℕ) → length (bytes ++ more) ≡ length bytes → bytes ++ more ≡ bytes
none_more bytes [] same = append-nil bytes
none_more bytes (b ∷ more) same = let all = length-append bytes (b ∷ more) in absurd (omega (arith, all, same))

-- where nothing more was printed, the same bytes stand
still_printed : (m before : Machine) (r after : State) (cleared : List ℕ) → Stands m cleared r → Stands before cleared after →
    (more : List ℕ) × (after.journal.printed ≡ r.journal.printed ++ more) → length before.journal.printed ≡ length m.journal.printed → before.journal.printed ≡ m.journal.printed
still_printed m before r after cleared s t (more, prints) quiet =
    let grown : m.journal.printed ++ more ≡ before.journal.printed =
    append_cancel_left cleared (m.journal.printed ++ more) before.journal.printed
    (sym (append_assoc cleared m.journal.printed more) ∙ ap (λ (p : List ℕ). p ++ more) (stands_printed m r cleared s) ∙ sym prints
    ∙ sym (stands_printed before after cleared t)) in
    sym grown ∙ none_more m.journal.printed more (ap (λ (p : List ℕ). length p) grown ∙ quiet)

pub left_printed : (m : Machine) (r : State) (cleared : List ℕ) → Stands m cleared r → drop (length cleared) r.journal.printed ≡ m.journal.printed
left_printed m r cleared s =
    ap (λ (p : List ℕ). drop (length cleared) p) (sym (stands_printed m r cleared s)) ∙ drop-append_seam cleared m.journal.printed

broke_next : (n : ℕ) (first : Machine) (start : State) (all left rest : List Event) (m next : Machine) (event : Event) (old now new : SinkState) → 0 < n →
    IsFalse (flush_is_due m.journal.printed) → RunsOn first start all left m old now → left ≡ replicate n event ++ rest → Repeats n m event next →
    length next.journal.printed ≤ max_printed → IsTrue (flush_is_due next.journal.printed) → BreaksOff now new next.journal.printed → RunBroke first start all next old new
broke_next zero first start all left rest m next event old now new some undue on parts repeats room due broke = absurd (omega arith)
broke_next (suc k) first start all left rest m next event old now new some undue on parts (before, (those, (still, makes))) room due broke =
    let front : List Event = on.done ++ replicate k event in
    let ran : HasRun first start front before old now = ran_again k first start on.done m before event old now on.ran those in
    let joined : run start front ≡ run (run start on.done) (replicate k event) = run_on start on.done (replicate k event) in
    let s : Stands before on.ran.cleared (run (run start on.done) (replicate k event)) = repeats_stands k m before event (run start on.done) on.ran.cleared on.ran.stands those in
    let here : Stands before on.ran.cleared (run start front) = subst (λ (x : State). Stands before on.ran.cleared x) (sym joined) s in
    let same : before.journal.printed ≡ m.journal.printed =
    still_printed m before (run start on.done) (run (run start on.done) (replicate k event)) on.ran.cleared on.ran.stands s (run_prints (run start on.done) (replicate k event)) still.quiet in
    record {
      done = front ++ event ∷ [];
      left = rest;
      split = ap (λ (events : List Event). events ++ rest) (in_row on.done k event) ∙ split_by all on.done left rest (replicate (suc k) event) parts on.split;
      cleared = on.ran.cleared;
      stands = stands_next start before next front event on.ran.cleared here makes;
      chain = reaches_more first start front before next next event ran.chain makes.event (makes.stands (run start front) here.stands) (cleared_none next);
      room = room;
      late = record {
        front = front;
        last = event;
        split = refl;
        rest = ap flush_is_due (left_printed before (run start front) on.ran.cleared here ∙ same) ∙ undue;
      };
      due = due;
      broke = subst (λ (k : SinkState). BreaksOff k new next.journal.printed) on.ran.taken broke;
    }

pub runs_broke : (n : ℕ) (first : Machine) (start : State) (all left rest : List Event) (m next stays : Machine) (event : Event) (old now new : SinkState) → 0 < n →
    IsFalse (flush_is_due m.journal.printed) → RunsOn first start all left m old now → left ≡ replicate n event ++ rest → Repeats n m event next →
    stays ≡ next → length next.journal.printed ≤ max_printed → IsTrue (flush_is_due next.journal.printed) → BreaksOff now new next.journal.printed → RunBroke first start all stays old new
runs_broke n first start all left rest m next stays event old now new some undue on parts repeats same room due broke =
    subst (λ (x : Machine). RunBroke first start all x old new) (sym same)
    (broke_next n first start all left rest m next event old now new some undue on parts repeats room due broke)

-- ---- the end

-- the machine has ended: the run over what is left changes nothing
pub ran_ended : (first : Machine) (start : State) (all left : List Event) (m : Machine) (old new : SinkState) → RunsOn first start all left m old new →
    m.journal.verdict ≢ Running → HasRun first start all m old new
ran_ended first start all left m old new on ended =
    let here : State = run start on.done in
    let over : HasEnded here.journal.verdict = has_ended here.journal.verdict (λ is. ended (stands_verdict m here on.ran.cleared on.ran.stands ∙ is)) in
    let same : here ≡ run start (on.done ++ left) = sym (ended_stays here left over) ∙ sym (run_on start on.done left) in
    subst (λ (es : List Event). HasRun first start es m old new) on.split (record {
      cleared = on.ran.cleared;
      stands = subst (λ (r : State). Stands m on.ran.cleared r) same on.ran.stands;
      chain = reaches_ended first start on.done left m on.ran.chain on.ran.stands.stands ended;
      taken = on.ran.taken;
    })

-- none is left
pub ran_all : (first : Machine) (start : State) (all left : List Event) (m : Machine) (old new : SinkState) → RunsOn first start all left m old new → left ≡ [] →
    HasRun first start all m old new
ran_all first start all left m old new on none =
    subst (λ (es : List Event). HasRun first start es m old new) (sym (append-nil on.done) ∙ ap (λ (es : List Event). on.done ++ es) (sym none) ∙ on.split) on.ran

-- ---- what the sink took

pub taken_none : (sink : SinkState) → HasTaken sink sink
taken_none sink = record { bytes = []; taken = sym (after_taking-nil sink) }

pub taken_more : (old : SinkState) (m flushed : Machine) (now new : SinkState) → HasTaken old now → Flushed m flushed now new → HasTaken old new
taken_more old m flushed now new has f =
    record { bytes = has.bytes ++ f.cleared; taken = f.taken ∙ ap (λ (s : SinkState). after_taking s f.cleared) has.taken ∙ after_taking-append old has.bytes f.cleared }

-- ---- counts and room, where the machine stands for some state

pub state_after : (n : ℕ) (m next flushed : Machine) (e : Event) (now new : SinkState) → HasState m → Repeats n m e next → Flushed next flushed now new → HasState flushed
state_after n m next flushed e now new has repeats f = record {
  state = run has.state (replicate n e);
  stands = clear_law next flushed (run has.state (replicate n e)) (repeats_stand n m next e repeats has.state has.stands) f.away.cleared;
}

pub flushed_counts : (n : ℕ) (next flushed : Machine) (now new : SinkState) → CountsAtMost n next.journal.counts → Flushed next flushed now new →
    CountsAtMost n flushed.journal.counts
flushed_counts n next flushed now new counts f = subst (λ (c : Counts). CountsAtMost n c) (sym (away_counts next flushed f.cleared f.away)) counts

pub room_after : (m next : Machine) (e : Event) → HasState m → Makes m e next → length m.journal.printed < max_printed →
    length next.journal.printed ≤ max_printed
room_after m next e has makes room =
    let grown = step_room m next has.state e has.stands (makes.stands has.state has.stands) makes.event in omega arith

-- the last event alone may print
pub room_again : (n : ℕ) (m next : Machine) (e : Event) → HasState m → Repeats n m e next → length m.journal.printed < max_printed → length next.journal.printed ≤ max_printed
room_again zero m next e has same room = let none : length next.journal.printed ≡ length m.journal.printed = ap (λ (x : Machine). length x.journal.printed) same in omega (arith, none)
room_again (suc n) m next e has (before, (those, (on, makes))) room =
    room_after before next e (record { state = run has.state (replicate n e); stands = repeats_stand n m before e those has.state has.stands }) makes (let quiet = on.quiet in
    omega (arith, quiet, room))
