-- How a survey goes on by an event, or by rows of them.
use Rattle.std.proofs.Common.{◌≡◌, ℕ, ◌+◌, ◌-◌, ◌<◌, ◌≤◌, List, [], ◌++◌, length, take, replicate, refl, sym, ◌∙◌, ap, subst, arith, Bool, true, false, inr}
use Rattle.std.specs.Prelude.{Option, Some, None, IsTrue, is_some, not, nat_lt, ◌&&◌}
use Rattle.std.proofs.lemmas.Bool.Decides.{nat_tests}
use Rattle.sv_types.proofs.TruthValues.{and_first, and_second}
use Rattle.sv_types.specs.Limits.{max_notes, max_printed}
use Rattle.sv_types.specs.Schedule.{Schedule, first_events}
use Rattle.sv_types.specs.declared.event.Counts.{Counts}
use Rattle.sv_types.specs.declared.event.Event.{Event}
use Rattle.sv_types.specs.declared.event.Note.{Note}
use Rattle.sv_types.specs.declared.event.Verdict.{Verdict}
use Rattle.sv_types.specs.declared.event.Verdict.TheVariants.{Running, Shutdown, Stopped}
use Rattle.spec_reference.specs.Counting.{CountsAtMost}
use Rattle.spec_reference.specs.Run.{run}
use Rattle.spec_reference.specs.States.{State}
use Rattle.spec_hardware.specs.Machine.{Machine}
use Rattle.spec_hardware.specs.StandsFor.{StandsFor}
use Rattle.laws_simulation.specs.HwPassing.{hw_passed_over}
use Rattle.laws_simulation.specs.Passing.{passed_over}
use Rattle.laws_simulation.proofs.HwPassesHold.{hw_pass_law}
use Rattle.script.specs.Runs.{BeginsWith}
use Rattle.script.specs.declared.event_run.EventRun.{EventRun}
use Rattle.host_io.specs.Outside.{SinkState, BreaksOff}
use Rattle.machine.specs.Console.{Flushed}
use Rattle.machine.specs.Drawing.{count_left, events_with}
use Rattle.machine.specs.Limits.{max_counts}
use Rattle.machine.specs.Repeats.{MayMake, StaysUnloaded}
use Rattle.machine.specs.Standing.{HasState, Stands}
use Rattle.machine.specs.declared.drawing.Drawing.{Drawing}
use Rattle.machine.proofs.ConsoleLemmas.{flushed_counts}
use Rattle.machine.proofs.DrawnBatches.{none_left, one_drawn}
use Rattle.laws_simulation.proofs.RunsReach.{clear_law}
use Rattle.machine.proofs.Loadings.{none_seen}
use Rattle.machine.proofs.Passes.{pass_rest}
use Rattle.machine.proofs.Repeated.{counts_within}
use Rattle.report.specs.Findings.{RefusedLoads}
use Rattle.report.specs.Views.{loads_view, writes_view}
use Rattle.report.specs.declared.findings.found.Found.{Found}
use Rattle.report.specs.declared.findings.loads.RefusedLoad.{RefusedLoad}
use Rattle.cli_survey.specs.Advances.{Advances, GoesOver, GoesToBreak, GoesToEnd, IsPassed, IsRepeated, IsRowMade, MayGoOn, MayTend}
use Rattle.cli_survey.specs.Refusals.{refusals, with_loads}
use Rattle.cli_survey.specs.Surveys.{has_room, is_clear, is_running}
use Rattle.cli_survey.proofs.LookLemmas.{none_refused}
use Rattle.cli_survey.proofs.RowLemmas.{more_notes, row_made, told_row}
use Rattle.cli_survey.proofs.SurveyLemmas.{keeps_writes, pass_counts, pass_notes, pass_running, running_is, surveys_break, surveys_flush, surveys_on, surveys_over}

-- ---- over a pass

pub state_passed : (m passed : Machine) → HasState m → passed ≡ hw_passed_over m → HasState passed
state_passed m passed has is = subst HasState (sym is) (record { state = passed_over has.state; stands = hw_pass_law m has.state has.stands })

room_passed : (m passed : Machine) → passed ≡ hw_passed_over m → length m.journal.printed < max_printed → length passed.journal.printed < max_printed
room_passed m passed is room =
    let same : passed.journal.printed ≡ m.journal.printed = ap (λ (x : Machine). x.journal.printed) is ∙ (pass_rest m).printed in
    subst (λ (p : List ℕ). length p < max_printed) (sym same) room

counts_passed : (n : ℕ) (m passed : Machine) → passed ≡ hw_passed_over m → CountsAtMost n m.journal.counts → CountsAtMost n passed.journal.counts
counts_passed n m passed is counts =
    let same : passed.journal.counts ≡ m.journal.counts = ap (λ (x : Machine). x.journal.counts) is ∙ pass_counts m in
    subst (λ (c : Counts). CountsAtMost n c) (sym same) counts

notes_passed : (m passed : Machine) → passed ≡ hw_passed_over m → length m.journal.notes ≤ max_notes → length passed.journal.notes ≤ max_notes
notes_passed m passed is few =
    let same : passed.journal.notes ≡ m.journal.notes = ap (λ (x : Machine). x.journal.notes) is ∙ pass_notes m in
    subst (λ (notes : List Note). length notes ≤ max_notes) (sym same) few

pub tend_passed : (n : ℕ) (m passed : Machine) → passed ≡ hw_passed_over m → MayTend m n → MayTend passed n
tend_passed n m passed is may = record {
  few = may.few;
  state = state_passed m passed may.state is;
  counts = counts_passed (max_counts - (n + 1)) m passed is may.counts;
  room = room_passed m passed is may.room;
  kept = notes_passed m passed is may.kept;
}

pub tend_makes : (n k : ℕ) (m : Machine) → MayTend m n → 0 < k → k ≤ n + 1 → MayMake m k
tend_makes n k m may some within =
    let few = may.few in
    record {
      asked = some;
      few = omega (arith, few, within);
      room = may.room;
      counts = counts_within (max_counts - (n + 1)) (max_counts - k) m.journal.counts (omega (arith, within)) may.counts;
    }

pub go_passed : (n : ℕ) (m passed : Machine) (to : SinkState) → passed ≡ hw_passed_over m → MayGoOn m n to → MayGoOn passed n to
go_passed n m passed to is may = record {
  sink = may.sink;
  few = may.few;
  state = state_passed m passed may.state is;
  counts = counts_passed (max_counts - (n + 1)) m passed is may.counts;
  room = room_passed m passed is may.room;
  kept = notes_passed m passed is may.kept;
}

-- ---- over a row of events

pub go_fewer : (n k : ℕ) (m : Machine) (to : SinkState) → k ≤ n → MayGoOn m n to → MayGoOn m k to
go_fewer n k m to within may =
    let few = may.few in
    record {
      sink = may.sink;
      few = omega (arith, few, within);
      state = may.state;
      counts = counts_within (max_counts - (n + 1)) (max_counts - (k + 1)) m.journal.counts (omega (arith, within)) may.counts;
      room = may.room;
      kept = may.kept;
    }

pub go_tends : (n k : ℕ) (m : Machine) (to : SinkState) → k ≤ n → MayGoOn m n to → MayTend m k
go_tends n k m to within may =
    let fewer : MayGoOn m k to = go_fewer n k m to within may in
    record { few = fewer.few; state = fewer.state; counts = fewer.counts; room = fewer.room; kept = fewer.kept }

pub go_told : (n told : ℕ) (m : Machine) (to new : SinkState) → told ≡ n → new ≡ to → MayGoOn m n to → MayGoOn m told new
go_told n told m to new count sink may = subst (λ (k : ℕ). MayGoOn m k new) (sym count) (subst (λ (s : SinkState). MayGoOn m n s) (sym sink) may)

pub go_room : (n : ℕ) (left : ℕ) (m next : Machine) (e : Event) (to : SinkState) → IsRowMade m e n next → MayGoOn m left to → length next.journal.printed ≤ max_printed
go_room n left m next e to made may = made.room may.room

state_flushed : (n : ℕ) (m next flushed : Machine) (e : Event) (now new : SinkState) → HasState m → IsRowMade m e n next → Flushed next flushed now new → HasState flushed
state_flushed n m next flushed e now new has made f =
    let row : List Event = replicate n e in
    let there : Stands m (take m.cleared has.state.journal.printed) has.state = record { stands = has.stands; away = refl } in
    record {
      state = run has.state row;
      stands = clear_law next flushed (run has.state row) (made.stands has.state (take m.cleared has.state.journal.printed) there).stands f.away.cleared;
    }

pub go_made : (n left rest : ℕ) (m next flushed : Machine) (e : Event) (now new : SinkState) → rest + n ≡ left → IsRowMade m e n next → MayGoOn m left now →
    Flushed next flushed now new → length flushed.journal.printed < max_printed → MayGoOn flushed rest new
go_made n left rest m next flushed e now new split made may f room =
    let few = may.few in
    record {
      sink = record {
        is_open = subst IsTrue (sym (ap (λ (s : SinkState). s.is_open) f.taken)) may.sink.is_open;
        count = subst (λ (k : ℕ). k < 18446744073709551615) (sym (ap (λ (s : SinkState). s.faults) f.taken)) may.sink.count;
      };
      few = omega (arith, few, split);
      state = state_flushed n m next flushed e now new may.state made f;
      counts = flushed_counts (max_counts - (rest + 1)) next flushed now new
          (counts_within (max_counts - (left + 1) + n) (max_counts - (rest + 1)) next.journal.counts (omega (arith, few, split))
          (made.counts (max_counts - (left + 1)) may.counts)) f;
      room = room;
      kept = subst (λ (notes : List Note). length notes ≤ max_notes) (sym (ap (λ (x : Machine). x.journal.notes) f.away.cleared.same)) (made.kept may.kept);
    }

-- the same behind a pass
pub go_advanced : (n left rest : ℕ) (m next flushed : Machine) (w after : Found) (e : Event) (now new : SinkState) → rest + n ≡ left → Advances m w e n next after →
    MayGoOn m left now → Flushed next flushed now new → length flushed.journal.printed < max_printed → MayGoOn flushed rest new
go_advanced n left rest m next flushed w after e now new split a may f room =
    go_made n left rest a.ready next flushed e now new split a.made (go_passed left m a.ready now a.passed.passed may) f room

pub room_advanced : (n left : ℕ) (m next : Machine) (w after : Found) (e : Event) (now : SinkState) → Advances m w e n next after → MayGoOn m left now →
    length next.journal.printed ≤ max_printed
room_advanced n left m next w after e now a may = go_room n left a.ready next e now a.made (go_passed left m a.ready now a.passed.passed may)

-- ---- where nothing is to be seen to

pub clear_running : (m : Machine) → is_clear m ≡ true → is_running m.journal.verdict ≡ true
clear_running m clear = and_first (is_running m.journal.verdict) (not (is_some m.loading)) clear

is_none : {A : Type 0} (x : Option A) → not (is_some x) ≡ true → x ≡ None
is_none None is = refl
is_none (Some x) is = absurd (cc is)

pub clear_unloaded : (m : Machine) → is_clear m ≡ true → m.loading ≡ None
clear_unloaded m clear = is_none m.loading (and_second (is_running m.journal.verdict) (not (is_some m.loading)) clear)

clear_both : (running loading : Bool) → running ≡ true → loading ≡ false → (running && not loading) ≡ true
clear_both true false is none = refl
clear_both true true is none = absurd (cc none)
clear_both false loading is none = absurd (cc is)

pub clear_of : (m : Machine) → is_running m.journal.verdict ≡ true → is_some m.loading ≡ false → is_clear m ≡ true
clear_of m running none = clear_both (is_running m.journal.verdict) (is_some m.loading) running none

-- it stays so over events that change neither
clear_by : {A : Type 0} (v : Verdict) (x : Option A) → v ≡ Running → x ≡ None → (is_running v && not (is_some x)) ≡ true
clear_by Running None runs none = refl
clear_by Running (Some x) runs none = absurd (cc none)
clear_by Shutdown x runs none = absurd (cc runs)
clear_by (Stopped rule h turn) x runs none = absurd (cc runs)

pub clear_stays : (m next : Machine) → is_clear m ≡ true → StaysUnloaded m next → is_clear next ≡ true
clear_stays m next clear stays =
    clear_by next.journal.verdict next.loading (stays.on.running (running_is m.journal.verdict (clear_running m clear))) (stays.loading (clear_unloaded m clear))

above_by : (a b : ℕ) → a ≤ b → nat_lt a b ≡ false → a ≡ b
above_by a b few is = grind (arith, nat_tests)

pub no_room : (m : Machine) → length m.journal.notes ≤ max_notes → has_room m ≡ false → length m.journal.notes ≡ max_notes
no_room m few full = above_by (length m.journal.notes) max_notes few full

below_by : (a b : ℕ) → nat_lt a b ≡ true → a < b
below_by a b is = grind (arith, nat_tests)

pub room_below : (m : Machine) → has_room m ≡ true → length m.journal.notes < max_notes
room_below m room = below_by (length m.journal.notes) max_notes room

clear_passed : (m : Machine) (w : Found) → is_clear m ≡ true → IsPassed m w m w
clear_passed m w clear =
    let running : m.journal.verdict ≡ Running = running_is m.journal.verdict (clear_running m clear) in
    record { passed = pass_running m running; kept = keeps_writes (writes_view w.writes) m.journal.verdict running }

unrefused : (m : Machine) (r : State) (e : Event) (l : RefusedLoads) → StandsFor m r → m.loading ≡ None → l ≡ with_loads l (refusals r e)
unrefused m r e l stands none = sym (ap (λ (xs : List RefusedLoad). with_loads l xs) (none_refused r e (none_seen m r stands none)))

-- the row that a chain made
pub clear_made : (n : ℕ) (m next : Machine) (e : Event) → HasState m → is_clear m ≡ true → IsRepeated m e n next → IsRowMade m e n next
clear_made n m next e has clear it = row_made n m next e has (running_is m.journal.verdict (clear_running m clear)) it

clear_advances : (m next : Machine) (w : Found) (e : Event) (n : ℕ) → is_clear m ≡ true → length m.journal.notes + n ≤ max_notes → IsRowMade m e n next → Advances m w e n next w
clear_advances m next w e n clear fits made =
    let some = made.some in
    record {
      ready = m;
      passed = clear_passed m w clear;
      running = clear_running m clear;
      looked = λ r stands. unrefused m r e (loads_view w.loads) stands (clear_unloaded m clear);
      made = made;
      told = told_row n m next e w.noted (omega (arith, some, fits)) fits made;
    }

-- ---- the events of a loop before which nothing is to be seen to

pub over_none : (n : ℕ) (before : List Event) (m : Machine) (to : SinkState) → MayGoOn m n to → GoesOver n n before before m m to to
over_none n before m to may = record { fewer = omega arith; on = λ start all found old is_start up. up; may = may }

-- the sink is told how far the survey has come
pub over_told : (many n told : ℕ) (before : List Event) (script : Schedule) (m next : Machine) (now to new : SinkState) →
    GoesOver many n before (first_events n script) m next now to → told ≡ n → new ≡ to → GoesOver many told before (first_events told script) m next now new
over_told many n told before script m next now to new over count sink =
    subst (λ (k : ℕ). GoesOver many k before (first_events k script) m next now new) (sym count)
    (subst (λ (s : SinkState). GoesOver many n before (first_events n script) m next now s) (sym sink) over)

-- a row more
pub over_made : (n many left rest : ℕ) (before mid after : List Event) (m at next flushed : Machine) (e : Event) (now to new : SinkState) →
    GoesOver many left before mid m at now to → is_clear at ≡ true → mid ≡ replicate n e ++ after → rest + n ≡ left →
    length at.journal.notes + n ≤ max_notes → IsRowMade at e n next → Flushed next flushed to new → length flushed.journal.printed < max_printed → GoesOver many rest before after m flushed now new
over_made n many left rest before mid after m at next flushed e now to new over clear parts split fits made f room =
    let fewer = over.fewer in
    record {
      fewer = omega (arith, fewer, split);
      on = λ start all found old is_start up.
          surveys_flush start all after next flushed found old to new
          (surveys_on n start all mid after at next found found e old to is_start (over.on start all found old is_start up) parts (clear_advances at next found e n clear fits made)) f;
      may = go_made n left rest at next flushed e to new split made over.may f room;
    }

-- a write of the console failed after it
pub over_broke : (n many left : ℕ) (before mid after : List Event) (m at next passed : Machine) (e : Event) (now to new : SinkState) →
    GoesOver many left before mid m at now to → is_clear at ≡ true → mid ≡ replicate n e ++ after → length at.journal.notes + n ≤ max_notes → IsRowMade at e n next →
    passed ≡ hw_passed_over next → BreaksOff to new next.journal.printed → GoesToBreak before m passed now new
over_broke n many left before mid after m at next passed e now to new over clear parts fits made is broke = λ start all found old is_start up.
    surveys_break start all after next passed found old to new
    (surveys_on n start all mid after at next found found e old to is_start (over.on start all found old is_start up) parts (clear_advances at next found e n clear fits made)) is broke

-- none is left
pub over_all : (many left : ℕ) (before mid : List Event) (m at : Machine) (now to : SinkState) → GoesOver many left before mid m at now to → is_clear at ≡ true → mid ≡ [] →
    GoesToEnd before m at now to
over_all many left before mid m at now to over clear none = λ start all found old is_start up.
    surveys_over (mid ≡ []) start all mid at at found found old to (over.on start all found old is_start up)
    (record { passed = clear_passed at found clear; same = refl; noted = refl; over = inr none }) (λ last. last)

-- ---- room for notes

few_flushed : (n : ℕ) (m next flushed : Machine) (e : Event) (now new : SinkState) → HasState m → is_clear m ≡ true → IsRepeated m e n next →
    length m.journal.notes ≤ max_notes → Flushed next flushed now new → length flushed.journal.notes ≤ length m.journal.notes + n
few_flushed n m next flushed e now new has clear row few f =
    let more = more_notes n m next e has (running_is m.journal.verdict (clear_running m clear)) row few in
    let same : length flushed.journal.notes ≡ length next.journal.notes = ap (λ (x : Machine). length x.journal.notes) f.away.cleared.same in
    omega (arith, same, more)

-- so many events fewer are left, of each of which a note is kept
pub fits_on : (n left rest : ℕ) (m next flushed : Machine) (e : Event) (now new : SinkState) → HasState m → is_clear m ≡ true → IsRepeated m e n next →
    length m.journal.notes + left ≤ max_notes → rest + n ≡ left → Flushed next flushed now new → length flushed.journal.notes + rest ≤ max_notes
fits_on n left rest m next flushed e now new has clear row fits split f =
    let few = few_flushed n m next flushed e now new has clear row (omega (arith, fits)) f in
    omega (arith, few, fits, split)

-- ---- none is left of rows

pub none_drawn : {S : Type 0} (schedule : S → Schedule) (d : Drawing S) (later : ℕ) → count_left d + later ≡ 0 → events_with later schedule d ≡ []
none_drawn schedule d later none =
    let row : d.batch.count ≡ 0 = omega (arith, none) in
    let rest : d.undrawn + later ≡ 0 = omega (arith, none) in
    ap (λ (n : ℕ). replicate n d.batch.event ++ first_events (d.undrawn + later) (schedule d.source)) row ∙ none_left (d.undrawn + later) (schedule d.source) rest

-- ---- the first of several events of a source

pub drawn_one : (fit rest later : ℕ) (one : EventRun) (before behind : Schedule) → 0 < fit → one.count ≡ 1 → BeginsWith before one behind →
    first_events (fit + rest + later) before ≡ replicate 1 one.event ++ first_events (fit - 1 + rest + later) behind
drawn_one fit rest later one before behind some once first =
    let sum : fit + rest + later ≡ fit + (rest + later) = omega arith in
    let less : fit - 1 + (rest + later) ≡ fit - 1 + rest + later = omega (arith, some) in
    ap (λ (n : ℕ). first_events n before) sum
    ∙ one_drawn (fit + (rest + later)) fit (rest + later) 1 one before behind refl some once refl first
    ∙ ap (λ (n : ℕ). replicate 1 one.event ++ first_events n behind) less
