-- Events that are made one after another, and what of the console is written.
use Rattle.std.proofs.Common.{◌≡◌, ◌≤◌, ◌<◌, ◌+◌, ◌-◌, ◌^◌, ◌%◌, ◌≢◌, ℕ, ◌⊎◌, inl, inr, IsFalse, IsTrue, OnOk, OnErr}
use Rattle.std.proofs.Common.{IsErr, Result, Ok, Err, true, false, List, [], ◌∷◌, ◌++◌, length, drop, refl, sym, ◌∙◌, ap, subst, arith}
use Rattle.std.proofs.Common.{length-append}
use Rattle.std.proofs.lemmas.List.{length-drop}
use Rattle.std.specs.Result.{is_err}
use Rattle.sv_types.specs.Limits.{max_events, max_printed}
use Rattle.sv_types.specs.declared.event.Event.{Event}
use Rattle.sv_types.specs.declared.event.Event.TheVariants.{Key}
use Rattle.sv_types.specs.declared.event.Verdict.{Verdict}
use Rattle.sv_types.specs.declared.event.Verdict.TheVariants.{Running, Shutdown, Stopped}
use Rattle.sv_types.specs.declared.event.Counts.{Counts}
use Rattle.sv_types.specs.Schedule.{Schedule, after_event, auto_event}
use Rattle.spec_reference.specs.Counting.{CountsAtMost}
use Rattle.spec_reference.specs.Run.{run, step}
use Rattle.spec_reference.specs.States.{State}
use Rattle.spec_hardware.specs.HardwareEvent.{Happens, HappensUnder, IsEvent}
use Rattle.spec_hardware.specs.Machine.{Machine}
use Rattle.spec_hardware.specs.Reaches.{Cleared, ReachesFrom, without_first_printed}
use Rattle.laws_simulation.proofs.RunsReach.{clear_law, dropped_twice}
use Rattle.host_io.specs.Outside.{SinkState, after_taking, BreaksOff, MayWrite}
use Rattle.host_io.proofs.SinkLemmas.{after_taking-append, after_taking-nil}
use Rattle.live_keys.specs.Journal.{events_of, key_bytes}
use Rattle.live_keys.specs.declared.journal.Journal.{Journal}
use Rattle.machine.specs.Standing.{HasState, Stands}
use Rattle.machine.specs.Console.{Flushed, flush_is_due}
use Rattle.machine.proofs.Standing.{stands_away, stands_verdict, cleared_none}
use Rattle.machine.proofs.ConsoleLemmas.{left_printed, reaches_more, stands_next}
use Rattle.machine.proofs.Repeated.{counts_within}
use Rattle.machine.specs.Limits.{max_counts}
use Rattle.machine.specs.Repeats.{Makes}
use Rattle.atomic_table.specs.Seated.{TableId}
use Rattle.cli_live.specs.declared.live_run.LiveRun.{LiveRun}
use Rattle.live_keys.specs.declared.line.Taker.{Taker}
use Rattle.cli_live.specs.Coming.{CameRunning, IsKey, MayCome}
use Rattle.cli_live.specs.LiveRuns.{harts_of, events_made, IsUnderWay, MayStep, count_of}
use Rattle.cli_live.specs.Drives.{GoesOn, ComesLast, EndsInScript, HasBroken, Breaks, BrokeOff, IsShownEarly, MayShow, shown_every, MayDrive, Driven, StaysUnderWay, Drives}
use Rattle.cli_live.proofs.DrawnEvents.{same_harts}

-- ---- printed bytes that are taken away twice

cleared_join : (a b c : Machine) → Cleared a b → Cleared b c → Cleared a c
cleared_join a b c one two =
    let printed : List ℕ = a.journal.printed in
    let long : length b.journal.printed ≡ length printed - one.taken = ap (λ (x : Machine). length x.journal.printed) one.same ∙ length-drop one.taken printed in
    let there : two.taken ≤ length b.journal.printed = two.there in
    let first : one.taken ≤ length printed = one.there in
    let sum : a.cleared + one.taken + two.taken ≡ a.cleared + (one.taken + two.taken) = omega arith in
    record {
      taken = one.taken + two.taken;
      there = omega arith;
      same =
          two.same
          ∙ ap (λ (x : Machine). without_first_printed x two.taken) one.same
          ∙ ap (λ (p : List ℕ). record a { journal = record a.journal { printed = p }; cleared = a.cleared + one.taken + two.taken }) (dropped_twice one.taken two.taken printed)
          ∙ ap (λ (n : ℕ). record a { journal = record a.journal { printed = drop (one.taken + two.taken) printed }; cleared = n }) sum;
    }

reaches_cleared : (first : Machine) (r : State) (events : List Event) (m after : Machine) → ReachesFrom first r events m → Cleared m after → ReachesFrom first r events after
reaches_cleared first r [] m after chain cleared = cleared_join first m after chain cleared
reaches_cleared first r (e ∷ events) m after chain cleared = (chain.0, (chain.1.0, reaches_cleared chain.0 (step r e) events m after chain.1.1 cleared))

pub cleared_state : (m after : Machine) → HasState m → Cleared m after → HasState after
cleared_state m after has cleared = record { state = has.state; stands = clear_law m after has.state has.stands cleared }

pub cleared_counts : (n : ℕ) (m after : Machine) → CountsAtMost n m.journal.counts → Cleared m after → CountsAtMost n after.journal.counts
cleared_counts n m after counts cleared = subst (λ (c : Counts). CountsAtMost n c) (sym (ap (λ (x : Machine). x.journal.counts) cleared.same)) counts

pub cleared_verdict : (m after : Machine) → Cleared m after → after.journal.verdict ≡ m.journal.verdict
cleared_verdict m after cleared = ap (λ (x : Machine). x.journal.verdict) cleared.same

-- ---- one event, and what is written of the console

taken_by : (sink before after : SinkState) (cleared more : List ℕ) → before ≡ after_taking sink cleared → after ≡ after_taking before more → after ≡ after_taking sink (cleared ++ more)
taken_by sink before after cleared more first then = then ∙ ap (λ (s : SinkState). after_taking s more) first ∙ after_taking-append sink cleared more

-- a key may always be made, and a machine that has ended is given nothing else
pub key_comes : (v : Verdict) (byte : ℕ) → MayCome v (Key byte)
key_comes Running byte = tt
key_comes Shutdown byte = tt
key_comes (Stopped rule hart turn) byte = tt

-- a key leaves a run running, or ended
key_happens : (m : Machine) (e : Event) (after : Machine) → IsKey e → Happens m e after → after.journal.verdict ≡ m.journal.verdict
key_happens m (Key byte) after is it = ap (λ (x : Machine). x.journal.verdict) it.same
key_happens m _ after is it = absurd is

key_under : (v : Verdict) (m : Machine) (e : Event) (after : Machine) → IsKey e → HappensUnder v m e after → after.journal.verdict ≡ m.journal.verdict
key_under Running m e after is it = key_happens m e after is it
key_under _ m e after is it = ap (λ (x : Machine). x.journal.verdict) it

pub key_verdict : (m : Machine) (e : Event) (after : Machine) → IsKey e → IsEvent m e after → after.journal.verdict ≡ m.journal.verdict
unfolding IsEvent
key_verdict m e after is it = key_under m.journal.verdict m e after is it

came_more : (r : State) (made : List Event) (e : Event) → CameRunning r made → MayCome (run r made).journal.verdict e → CameRunning r (made ++ e ∷ [])
came_more r [] e came may = (may, tt)
came_more r (d ∷ made) e came may = (came.0, came_more (step r d) made e came.1 may)

came_next : (start : State) (made : List Event) (m : Machine) (cleared : List ℕ) (e : Event) → Stands m cleared (run start made) → CameRunning start made → MayCome m.journal.verdict e →
    CameRunning start (made ++ e ∷ [])
came_next start made m cleared e s came may =
    came_more start made e came (subst (λ (v : Verdict). MayCome v e) (stands_verdict m (run start made) cleared s) may)

pub made_one : (m next flushed : Machine) (e : Event) (s t : SinkState) → MayCome m.journal.verdict e → IsFalse (flush_is_due flushed.journal.printed) → Makes m e next → Flushed next flushed s t →
    (made : List Event) → GoesOn made (made ++ e ∷ []) m flushed s t
made_one m next flushed e s t may rest steps f made = record {
  taken = record { bytes = f.cleared; taken = f.taken };
  ran = λ first start sink on. record {
    run = record {
      cleared = on.run.cleared ++ f.cleared;
      stands = stands_away next flushed (run start (made ++ e ∷ [])) on.run.cleared f.cleared (stands_next start m next made e on.run.cleared on.run.stands steps) f.away;
      chain = reaches_more first start made m next flushed e on.run.chain steps.event (steps.stands (run start made) on.run.stands.stands) f.away.cleared;
      taken = taken_by sink s t on.run.cleared f.cleared on.run.taken f.taken;
    };
    came = came_next start made m on.run.cleared e on.run.stands on.came may;
    rest = rest;
  };
}

pub broken_one : (m next : Machine) (e : Event) (s t : SinkState) → MayCome m.journal.verdict e → Makes m e next → BreaksOff s t next.journal.printed →
    IsTrue (flush_is_due next.journal.printed) → (made : List Event) →
    Breaks ⊥ made (made ++ e ∷ []) m next s t
broken_one m next e s t may steps off due made = record {
  broke = λ first start sink on. record {
    cleared = on.run.cleared;
    stands = stands_next start m next made e on.run.cleared on.run.stands steps;
    chain = reaches_more first start made m next next e on.run.chain steps.event (steps.stands (run start made) on.run.stands.stands) (cleared_none next);
    came = came_next start made m on.run.cleared e on.run.stands on.came may;
    late = inl (record { front = made; last = e; split = refl; rest = ap flush_is_due (left_printed m (run start made) on.run.cleared on.run.stands) ∙ on.rest }, due);
    broke = subst (λ (k : SinkState). BreaksOff k t next.journal.printed) on.run.taken off;
  };
}

pub shown : (m after : Machine) (s t : SinkState) → after.journal.printed ≡ [] → Flushed m after s t → (made : List Event) → GoesOn made made m after s t
shown m after s t none f made = record {
  taken = record { bytes = f.cleared; taken = f.taken };
  ran = λ first start sink on. record {
    run = record {
      cleared = on.run.cleared ++ f.cleared;
      stands = stands_away m after (run start made) on.run.cleared f.cleared on.run.stands f.away;
      chain = reaches_cleared first start made m after on.run.chain f.away.cleared;
      taken = taken_by sink s t on.run.cleared f.cleared on.run.taken f.taken;
    };
    came = on.came;
    rest = ap flush_is_due none;
  };
}

pub broken_show : (m : Machine) (s t : SinkState) → BreaksOff s t m.journal.printed → (made : List Event) → Breaks (Unit {0}) made made m m s t
broken_show m s t off made = record {
  broke = λ first start sink on. record {
    cleared = on.run.cleared;
    stands = on.run.stands;
    chain = on.run.chain;
    came = on.came;
    late = inr (tt, on.rest);
    broke = subst (λ (k : SinkState). BreaksOff k t m.journal.printed) on.run.taken off;
  };
}

-- ---- one after another

pub on_none : (made : List Event) (m : Machine) (s : SinkState) → GoesOn made made m m s s
on_none made m s = record { taken = record { bytes = []; taken = sym (after_taking-nil s) }; ran = λ first start sink on. on }

pub on_then : {made more all : List Event} {a b c : Machine} {s t u : SinkState} → GoesOn made more a b s t → GoesOn more all b c t u → GoesOn made all a c s u
on_then {s = s} {t = t} {u = u} x y = record {
  taken = record { bytes = x.taken.bytes ++ y.taken.bytes; taken = taken_by s t u x.taken.bytes y.taken.bytes x.taken.taken y.taken.taken };
  ran = λ first start sink on. y.ran first start sink (x.ran first start sink on);
}

pub on_breaks : {early : Type 0} {made more all : List Event} {a b c : Machine} {s t u : SinkState} → GoesOn made more a b s t → Breaks early more all b c t u → Breaks early made all a c s u
on_breaks x y = record { broke = λ first start sink on. y.broke first start sink (x.ran first start sink on) }

pub on_to : {made more all : List Event} {a b : Machine} {s t : SinkState} → GoesOn made more a b s t → more ≡ all → GoesOn made all a b s t
on_to {made = made} {a = a} {b = b} {s = s} {t = t} x same = subst (λ (es : List Event). GoesOn made es a b s t) same x

pub breaks_to : {early : Type 0} {made more all : List Event} {a b : Machine} {s t : SinkState} → Breaks early made more a b s t → more ≡ all → Breaks early made all a b s t
breaks_to {early = early} {made = made} {a = a} {b = b} {s = s} {t = t} x same = subst (λ (es : List Event). Breaks early made es a b s t) same x

pub last_under : (early other : Type 0) (start : State) (events : List Event) (cleared rest : List ℕ) → (early → other) → ComesLast early start events cleared rest →
    ComesLast other start events cleared rest
last_under early other start events cleared rest over (inl due) = inl due
last_under early other start events cleared rest over (inr it) = inr (over it.0, it.1)

pub breaks_under : {early other : Type 0} {made more : List Event} {a b : Machine} {s t : SinkState} → (early → other) → Breaks early made more a b s t → Breaks other made more a b s t
breaks_under {early = early} {other = other} {more = more} {b = b} {t = t} over x = record {
  broke = λ first start sink on.
      let it : HasBroken early first start more b sink t = x.broke first start sink on in
      record {
        cleared = it.cleared;
        stands = it.stands;
        chain = it.chain;
        came = it.came;
        late = last_under early other start more it.cleared b.journal.printed over it.late;
        broke = it.broke;
      };
}

-- what came due with the last event did so whatever is shown early
pub breaks_due : {early : Type 0} {made more : List Event} {a b : Machine} {s t : SinkState} → Breaks ⊥ made more a b s t → Breaks early made more a b s t
breaks_due x = breaks_under (λ never. absurd never) x

pub breaks_shown : {early : Type 0} {made more : List Event} {a b : Machine} {s t : SinkState} → early → Breaks (Unit {0}) made more a b s t → Breaks early made more a b s t
breaks_shown is x = breaks_under (λ _. is) x

-- ---- when the console is shown early

pub shown_often : (l : LiveRun) → l.journal.autos % shown_every ≡ 0 → EndsInScript (events_made l) → MayShow l
unfolding MayShow
shown_often l often drawn = inl (often, drawn)

pub shown_last : (l : LiveRun) → (l.journal.autos ≡ l.events) ⊎ (l.machine.journal.verdict ≢ Running) → MayShow l
unfolding MayShow
shown_last l last = inr last

pub shown_early : (l : LiveRun) → MayShow l → IsShownEarly (events_made l) l.journal.autos l.events l.machine.journal.verdict
unfolding MayShow
shown_early l shown = shown

-- whatever was taken of the line
pub broke_taken : (old mid : LiveRun) (taker : Taker) (s t : SinkState) → BrokeOff old mid s t → BrokeOff old (record mid { taker = taker }) s t
unfolding MayShow
broke_taken old mid taker s t off = off

-- ---- what a sink keeps

pub may_write : {made more : List Event} {a b : Machine} {s t : SinkState} → GoesOn made more a b s t → MayWrite s → MayWrite t
may_write on may = record {
  is_open = subst (λ b. IsTrue b) (sym (ap (λ (k : SinkState). k.is_open) on.taken.taken)) may.is_open;
  count = subst (λ k. k < 2 ^ 64 - 1) (sym (ap (λ (k : SinkState). k.faults) on.taken.taken)) may.count;
}

-- ---- answers

pub on_ok : {T E : Type 0} (r : Result T E) (P : Type 0) → P → OnOk r P
on_ok (Ok x) P p = p
on_ok (Err e) P p = tt

pub ok_map : {T E : Type 0} (r : Result T E) (P Q : Type 0) → (P → Q) → OnOk r P → OnOk r Q
ok_map (Ok x) P Q f p = f p
ok_map (Err e) P Q f p = tt

pub ok_both : {T E : Type 0} (r : Result T E) (P Q S : Type 0) → (P → Q → S) → OnOk r P → OnOk r Q → OnOk r S
ok_both (Ok x) P Q S f p q = f p q
ok_both (Err e) P Q S f p q = tt

pub err_map : {T E : Type 0} (r : Result T E) (P Q : Type 0) → (P → Q) → OnErr r P → OnErr r Q
err_map (Ok x) P Q f p = tt
err_map (Err e) P Q f p = f p

pub err_three : {T E : Type 0} (r : Result T E) (P Q S U : Type 0) → (P → Q → S → U) → OnErr r P → OnErr r Q → OnErr r S → OnErr r U
err_three (Ok x) P Q S U f p q s = tt
err_three (Err e) P Q S U f p q s = f p q s

-- ---- one drive after another, and what fails after it

pub stays_then : {a b c : LiveRun} → StaysUnderWay a b → StaysUnderWay b c → StaysUnderWay a c
stays_then x y = record { way = y.way; line = y.line ∙ x.line; all = y.all ∙ x.all; harts = y.harts ∙ x.harts; events = y.events ∙ x.events }

pub driven_then : {a b c : LiveRun} {s t u : SinkState} → Driven a b s t → Driven b c t u → Driven a c s u
driven_then x y = record { went = on_then x.went y.went; room = y.room }

-- a run that was driven may be driven on
pub may_drive : {a b : LiveRun} {line : TableId} {s t : SinkState} → MayDrive a line s → Driven a b s t → StaysUnderWay a b → MayDrive b line t
may_drive may x stays = record { sink = may_write x.went may.sink; on = record { way = stays.way; room = x.room }; line = stays.line ∙ may.line }

pub drives_then : {T E : Type 0} (r : Result T E) {a b c : LiveRun} {s t u : SinkState} → Driven a b s t → StaysUnderWay a b → Drives r b c t u → Drives r a c s u
drives_then r x stays y = record {
  on = ok_map r _ _ (λ more. driven_then x more) y.on;
  broke = err_map r _ _ (λ off. on_breaks x.went off) y.broke;
  stays = stays_then stays y.stays;
}

pub drives_off : {T E : Type 0} (r : Result T E) {a b : LiveRun} {s t : SinkState} → IsErr r → BrokeOff a b s t → StaysUnderWay a b → Drives r a b s t
drives_off (Ok x) failed off stays = absurd (cc failed)
drives_off (Err e) failed off stays = record { on = tt; broke = off; stays = stays }

-- ---- a live run between two events

pub may_step : (l : LiveRun) → IsUnderWay l → length l.machine.journal.printed < max_printed → l.journal.autos ≤ max_events → MayStep l.machine
may_step l way room autos =
    let keys : length (key_bytes l.journal) ≡ length l.taker.bytes = ap (λ (bytes : List ℕ). length bytes) way.keys in
    let few = way.few in
    record {
      state = way.state;
      counts = counts_within (count_of l.journal) (max_counts - 1) l.machine.journal.counts (omega arith) way.counts;
      room = room;
    }

-- a run of which some of the console was shown
pub cleared_way : (l : LiveRun) (after : Machine) → IsUnderWay l → Cleared l.machine after → StaysUnderWay l (record l { machine = after })
cleared_way l after way cleared = record {
  way = record {
    keys = way.keys;
    few = way.few;
    places = way.places;
    drawn = way.drawn;
    state = cleared_state l.machine after way.state cleared;
    counts = cleared_counts (count_of l.journal) l.machine after way.counts cleared;
  };
  line = refl;
  all = refl;
  harts = refl;
  events = refl;
}

-- a key is counted, and so is another event
pub key_counted : (old new : Journal) (byte : ℕ) (c : Counts) → key_bytes new ≡ key_bytes old ++ byte ∷ [] → new.autos ≡ old.autos → CountsAtMost (count_of old + 1) c →
    CountsAtMost (count_of new) c
key_counted old new byte c keys autos counts =
    let long : length (key_bytes new) ≡ length (key_bytes old) + 1 = ap (λ (bytes : List ℕ). length bytes) keys ∙ length-append (key_bytes old) (byte ∷ []) in
    counts_within (count_of old + 1) (count_of new) c (omega arith) counts

pub auto_counted : (old new : Journal) (c : Counts) → key_bytes new ≡ key_bytes old → new.autos ≡ old.autos + 1 → CountsAtMost (count_of old + 1) c → CountsAtMost (count_of new) c
auto_counted old new c keys autos counts =
    let long : length (key_bytes new) ≡ length (key_bytes old) = ap (λ (bytes : List ℕ). length bytes) keys in
    counts_within (count_of old + 1) (count_of new) c (omega arith) counts

-- the events of the journal, and the one that was drawn after them
pub auto_made : (script next : Schedule) (old new : Journal) (event : Event) → event ≡ auto_event (harts_of script) 0 old.autos → next ≡ after_event script →
    events_of (harts_of script) new ≡ events_of (harts_of script) old ++ auto_event (harts_of script) 0 old.autos ∷ [] →
    events_of (harts_of script) old ++ event ∷ [] ≡ events_of (harts_of next) new
auto_made script next old new event drawn rest grown =
    ap (λ (e : Event). events_of (harts_of script) old ++ e ∷ []) drawn ∙ sym grown ∙ ap (λ (h : ℕ). events_of h new) (sym (same_harts script next rest))

-- ---- one drive after another

pub both_on : {T U E : Type 0} (driven : Result T E) (ended : Result U E) (P Q S : Type 0) → (P → Q → S) → OnErr driven (IsErr ended) → OnOk driven P → OnOk ended Q → is_err ended ≡ false → S
both_on (Ok x) (Ok y) P Q S then first p q never = then p q
both_on (Err d) (Ok y) P Q S then first p q never = absurd (cc first)
both_on _ _ _ _ _ then first p q never = absurd (cc never)

pub both_break : {T U E : Type 0} (driven : Result T E) (ended : Result U E) (old mid new : LiveRun) (s t u : SinkState) → is_err ended ≡ true →
    OnOk driven (GoesOn (events_made old) (events_made mid) old.machine mid.machine s t) → OnErr driven (BrokeOff old mid s t) →
    OnErr driven ((new ≡ mid) × (u ≡ t)) → OnOk driven (OnErr ended (BrokeOff mid new t u)) → BrokeOff old new s u
both_break (Ok x) (Ok y) old mid new s t u is on broke stays then = absurd (cc is)
both_break (Ok x) (Err e) old mid new s t u is on broke stays then = on_breaks on then
both_break (Err d) ended old mid new s t u is on broke stays then =
    subst (λ (k : SinkState). BrokeOff old new s k) (sym stays.1)
    (subst (λ (l : LiveRun). BrokeOff old l s t) (sym stays.0) broke)

pub ok_gives : {T E : Type 0} (r : Result T E) (P : Type 0) → OnOk r P → is_err r ≡ false → P
ok_gives (Ok x) P p never = p
ok_gives (Err e) P p never = absurd (cc never)
