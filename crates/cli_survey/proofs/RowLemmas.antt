-- Rows of equal events that were made, and what is told of their notes.
use Rattle.std.proofs.Common.{◌≡◌, ℕ, zero, suc, false, ◌+◌, ◌<◌, ◌≤◌, List, [], ◌∷◌, ◌++◌, length, replicate, refl, sym, ◌∙◌, ap, subst, take, arith}
use Rattle.std.specs.Prelude.{Option, Some, None}
use Rattle.sv_types.specs.Limits.{max_notes}
use Rattle.sv_types.specs.declared.event.Event.{Event}
use Rattle.sv_types.specs.declared.event.Event.TheVariants.{Turn, Beat, Key, Tick, Poke}
use Rattle.sv_types.specs.declared.event.Note.{Note}
use Rattle.sv_types.specs.declared.event.Verdict.{Verdict}
use Rattle.sv_types.specs.declared.event.Verdict.TheVariants.{Running, Shutdown, Stopped}
use Rattle.spec_reference.specs.Counting.{CountsAtMost}
use Rattle.spec_reference.specs.Run.{run, step}
use Rattle.spec_hardware.specs.HardwareEvent.{Happens, HappensUnder, IsEvent, Written, with_bytes_at}
use Rattle.spec_reference.specs.States.{State}
use Rattle.spec_reference.proofs.Runs.{run_on}
use Rattle.spec_hardware.specs.Machine.{Machine}
use Rattle.spec_hardware.specs.StandsFor.{StandsFor}
use Rattle.laws_simulation.specs.SurveyLaws.{IsNoWrite}
use Rattle.laws_simulation.specs.Passes.{IsRow}
use Rattle.laws_simulation.proofs.RowsHold.{row_law}
use Rattle.machine.specs.Noting.{hw_noting, noting}
use Rattle.machine.specs.Repeats.{MayMake, Repeats, StaysUnloaded}
use Rattle.machine.specs.Standing.{HasState, Stands}
use Rattle.machine.proofs.ConsoleLemmas.{room_again}
use Rattle.machine.proofs.Noted.{noted_stands}
use Rattle.machine.proofs.Repeated.{one_more, repeats_stand, step_counts}
use Rattle.machine.proofs.Standing.{stands_notes, stands_step, verdict_is}
use Rattle.report.specs.Findings.{FoundByNotes, demotions, denied_moves, after_demotion, after_denied, found_by, with_notes}
use Rattle.report.specs.Views.{notes_view}
use Rattle.report.specs.declared.findings.findings.Finding.{Finding}
use Rattle.cli_survey.specs.Advances.{IsRepeated, IsRowMade, TellsOn}
use Rattle.cli_survey.specs.Noted.{Tells, noted}
use Rattle.cli_survey.specs.Rows.{GoesAsRow}
use Rattle.cli_survey.specs.Surveys.{is_turn}
use Rattle.cli_survey.proofs.LookLemmas.{one_refuses}
use Rattle.cli_survey.proofs.NotedLemmas.{apart_notes, refusals_same, refused_full, row_few, row_full, row_more, row_notes, run_full}

-- ---- a row by its chain

none_running : (v : Verdict) → v ≡ Running → IsNoWrite v
none_running v is = subst IsNoWrite (sym is) tt

row_of : (n : ℕ) (m next : Machine) (e : Event) (r : State) → StandsFor m r → m.journal.verdict ≡ Running → 0 < n → Repeats n m e next → GoesAsRow r n e
row_of zero m next e r s running some same = absurd (omega arith)
row_of (suc k) m next e r s running some (before, (those, (on, makes))) =
    let mid : State = run r (replicate k e) in
    let here : StandsFor before mid = repeats_stand k m before e those r s in
    let row : IsRow r k e = row_law r k e (none_running mid.journal.verdict (sym (verdict_is before mid here) ∙ on.running running)) in
    record { state = row.state; passed = row.passed }

stands_row : (n : ℕ) (m next : Machine) (e : Event) (r : State) (cleared : List ℕ) → Stands m cleared r → Repeats n m e next → Stands next cleared (run r (replicate n e))
stands_row zero m next e r cleared s same = subst (λ (x : Machine). Stands x cleared r) (sym same) s
stands_row (suc k) m next e r cleared s (mid, (those, (on, makes))) =
    let here : Stands mid cleared (run r (replicate k e)) = stands_row k m mid e r cleared s those in
    subst (λ (x : State). Stands next cleared x)
    (sym (run_on r (replicate k e) (e ∷ [])) ∙ ap (λ (events : List Event). run r events) (one_more k e))
    (stands_step mid next (run r (replicate k e)) cleared e here (makes.stands (run r (replicate k e)) here.stands) makes.event)

notes_seen : (m : Machine) (r : State) → StandsFor m r → m.journal.notes ≡ r.journal.notes
notes_seen m r s = stands_notes m r (take m.cleared r.journal.printed) (record { stands = s; away = refl })

few_after : (n : ℕ) (m next : Machine) (e : Event) → HasState m → m.journal.verdict ≡ Running → IsRepeated m e n next → length m.journal.notes ≤ max_notes →
    length next.journal.notes ≤ max_notes
few_after n m next e has running it few =
    let r : State = has.state in
    let before : length m.journal.notes ≡ length r.journal.notes = ap (λ (notes : List Note). length notes) (notes_seen m r has.stands) in
    let after : length next.journal.notes ≡ length (run r (replicate n e)).journal.notes =
    ap (λ (notes : List Note). length notes) (notes_seen next (run r (replicate n e)) (repeats_stand n m next e it.chain r has.stands)) in
    let first = row_few r n e (omega (arith, few, before)) (row_of n m next e r has.stands running it.some it.chain) in
    omega (arith, after, first)

pub more_notes : (n : ℕ) (m next : Machine) (e : Event) → HasState m → m.journal.verdict ≡ Running → IsRepeated m e n next → length m.journal.notes ≤ max_notes →
    length next.journal.notes ≤ length m.journal.notes + n
more_notes n m next e has running it few =
    let r : State = has.state in
    let before : length m.journal.notes ≡ length r.journal.notes = ap (λ (notes : List Note). length notes) (notes_seen m r has.stands) in
    let after : length next.journal.notes ≡ length (run r (replicate n e)).journal.notes =
    ap (λ (notes : List Note). length notes) (notes_seen next (run r (replicate n e)) (repeats_stand n m next e it.chain r has.stands)) in
    let more = row_more r n e (omega (arith, few, before)) (row_of n m next e r has.stands running it.some it.chain) in
    omega (arith, before, after, more)

pub row_made : (n : ℕ) (m next : Machine) (e : Event) → HasState m → m.journal.verdict ≡ Running → IsRepeated m e n next → IsRowMade m e n next
row_made n m next e has running it = record {
  some = it.some;
  stands = λ r cleared s. stands_row n m next e r cleared s it.chain;
  row = λ r s. row_of n m next e r s running it.some it.chain;
  refuses = it.refuses;
  counts = it.counts;
  room = λ room. room_again n m next e has it.chain room;
  kept = λ kept. few_after n m next e has running it kept;
}

-- an event that was made is a row of one
pub step_made : (m next : Machine) (e : Event) → HasState m → ((r : State) → StandsFor m r → StandsFor next (step r e)) → IsEvent m e next → IsRepeated m e 1 next
step_made m next e has stands event = record {
  some = omega arith;
  chain = (m, (refl, (record { quiet = refl; running = λ running. running }, record { stands = stands; event = event })));
  refuses = λ r s. one_refuses 1 e r refl;
  counts = λ k counts. step_counts k m next has.state e has.stands (stands has.state has.stands) counts;
}

-- and what was made once at most is one
pub once_made : (n : ℕ) (m next : Machine) (e : Event) → 0 < n → n ≤ 1 → Repeats n m e next →
    ((k : ℕ) → CountsAtMost k m.journal.counts → CountsAtMost (k + n) next.journal.counts) → IsRepeated m e n next
once_made n m next e some most chain counts =
    record { some = some; chain = chain; refuses = λ r s. one_refuses n e r (omega (arith, some, most)); counts = counts }

-- of a machine that is as this one
pub once_from : (n : ℕ) (m at next : Machine) (e : Event) → at ≡ m → n ≤ 1 → IsRepeated at e n next → IsRepeated m e 1 next
once_from n m at next e same most it =
    let some = it.some in
    let once : n ≡ 1 = omega (arith, some, most) in
    subst (λ (x : Machine). IsRepeated x e 1 next) same (subst (λ (k : ℕ). IsRepeated at e k next) once it)

-- ---- a row of other events than turns

stays_written : (m : Machine) (w : Option Written) → StaysUnloaded m (with_bytes_at m w)
stays_written m None = record { on = record { quiet = refl; running = λ running. running }; loading = λ none. none }
stays_written m (Some w) = record { on = record { quiet = refl; running = λ running. running }; loading = λ none. none }

-- so what keeps journal and load stays, too
stays_with : (m by after : Machine) → StaysUnloaded m by → after.journal.printed ≡ by.journal.printed → after.journal.verdict ≡ by.journal.verdict →
    after.loading ≡ by.loading → StaysUnloaded m after
stays_with m by after stays printed verdict loading = record {
  on = record {
    quiet = ap (λ (p : List ℕ). length p) printed ∙ stays.on.quiet;
    running = λ running. verdict ∙ stays.on.running running;
  };
  loading = λ none. loading ∙ stays.loading none;
}

stays_same : (m : Machine) → StaysUnloaded m m
stays_same m = stays_written m None

other_stays : (m after : Machine) (e : Event) → is_turn e ≡ false → Happens m e after → StaysUnloaded m after
other_stays m after (Turn h) other it = absurd (cc other)
other_stays m after Beat other it =
    stays_with m (with_bytes_at m it.bytes) after (stays_written m it.bytes) (ap (λ (x : Machine). x.journal.printed) it.same)
    (ap (λ (x : Machine). x.journal.verdict) it.same) (ap (λ (x : Machine). x.loading) it.same)
other_stays m after (Key byte) other it =
    stays_with m m after (stays_same m) (ap (λ (x : Machine). x.journal.printed) it.same)
    (ap (λ (x : Machine). x.journal.verdict) it.same) (ap (λ (x : Machine). x.loading) it.same)
other_stays m after (Tick n) other it =
    stays_with m m after (stays_same m) (ap (λ (x : Machine). x.journal.printed) it.same)
    (ap (λ (x : Machine). x.journal.verdict) it.same) (ap (λ (x : Machine). x.loading) it.same)
other_stays m after (Poke gpa value) other it =
    stays_with m (with_bytes_at m it.bytes) after (stays_written m it.bytes) (ap (λ (x : Machine). x.journal.printed) it.same)
    (ap (λ (x : Machine). x.journal.verdict) it.same) (ap (λ (x : Machine). x.loading) it.same)

under_stays : (v : Verdict) (m after : Machine) (e : Event) → is_turn e ≡ false → HappensUnder v m e after → StaysUnloaded m after
under_stays Running m after e other it = other_stays m after e other it
under_stays Shutdown m after e other same = subst (λ (x : Machine). StaysUnloaded m x) (sym same) (stays_same m)
under_stays (Stopped rule hart at) m after e other same = subst (λ (x : Machine). StaysUnloaded m x) (sym same) (stays_same m)

event_stays : (m after : Machine) (e : Event) → is_turn e ≡ false → IsEvent m e after → StaysUnloaded m after
unfolding IsEvent
event_stays m after e other it = under_stays m.journal.verdict m after e other it

pub row_stays : (n : ℕ) (m next : Machine) (e : Event) → is_turn e ≡ false → Repeats n m e next → StaysUnloaded m next
row_stays zero m next e other same = subst (λ (x : Machine). StaysUnloaded m x) (sym same) (stays_same m)
row_stays (suc k) m next e other (before, (those, (on, makes))) =
    let first : StaysUnloaded m before = row_stays k m before e other those in
    let last : StaysUnloaded before next = event_stays before next e other makes.event in
    record {
      on = record { quiet = last.on.quiet ∙ first.on.quiet; running = λ running. last.on.running (first.on.running running) };
      loading = λ none. last.loading (first.loading none);
    }

-- ---- a row whose machine's notes were set apart

stands_noting : (notes : List Note) (m : Machine) (cleared : List ℕ) (r : State) → Stands m cleared r → Stands (hw_noting notes m) cleared (noting notes r)
stands_noting notes m cleared r s = record { stands = noted_stands notes m r s.stands; away = s.away }

full_state : (m : Machine) (r : State) → StandsFor m r → length m.journal.notes ≡ max_notes → length r.journal.notes ≡ max_notes
full_state m r s full = sym (ap (λ (notes : List Note). length notes) (notes_seen m r s)) ∙ full

stands_apart : (n : ℕ) (m next : Machine) (e : Event) (r : State) (cleared : List ℕ) → length m.journal.notes ≡ max_notes → Stands m cleared r →
    Repeats n (hw_noting [] m) e next → Stands (hw_noting m.journal.notes next) cleared (run r (replicate n e))
stands_apart n m next e r cleared full s chain =
    let apart : State = noting [] r in
    let row : List Event = replicate n e in
    let notes : List Note = r.journal.notes in
    let made : Stands next cleared (run apart row) = stands_row n (hw_noting [] m) next e apart cleared (stands_noting [] m cleared r s) chain in
    subst (λ (x : State). Stands (hw_noting m.journal.notes next) cleared x) (sym (run_full row apart notes (full_state m r s.stands full)))
    (subst (λ (ns : List Note). Stands (hw_noting m.journal.notes next) cleared (noting ns (run apart row))) (notes_seen m r s.stands)
    (stands_noting m.journal.notes next cleared (run apart row) made))

pub may_apart : (notes : List Note) (n : ℕ) (m : Machine) → MayMake m n → MayMake (hw_noting notes m) n
may_apart notes n m may = record { asked = may.asked; few = may.few; room = may.room; counts = may.counts }

pub row_apart : (n : ℕ) (m next : Machine) (e : Event) → length m.journal.notes ≡ max_notes → HasState m → m.journal.verdict ≡ Running → IsRepeated (hw_noting [] m) e n next →
    IsRowMade m e n (hw_noting m.journal.notes next)
row_apart n m next e full has running it =
    let apart : HasState (hw_noting [] m) = record { state = noting [] has.state; stands = noted_stands [] m has.state has.stands } in
    record {
      some = it.some;
      stands = λ r cleared s. stands_apart n m next e r cleared full s it.chain;
      row = λ r s.
          row_full r n e (full_state m r s full) (row_of n (hw_noting [] m) next e (noting [] r) (noted_stands [] m r s) running it.some it.chain);
      refuses = λ r s.
          refused_full (replicate n e) (noting [] r) r.journal.notes (full_state m r s full) ∙ it.refuses (noting [] r) (noted_stands [] m r s) ∙ refusals_same r e [];
      counts = it.counts;
      room = λ room. room_again n (hw_noting [] m) next e apart it.chain room;
      kept = λ few. few;
    }

-- the notes that it made
pub notes_apart : (n : ℕ) (m next : Machine) (e : Event) (r : State) → n ≤ max_notes → m.journal.verdict ≡ Running → IsRepeated (hw_noting [] m) e n next → StandsFor m r →
    next.journal.notes ≡ noted r (replicate n e)
notes_apart n m next e r few running it s =
    let apart : StandsFor (hw_noting [] m) (noting [] r) = noted_stands [] m r s in
    notes_seen next (run (noting [] r) (replicate n e)) (repeats_stand n (hw_noting [] m) next e it.chain (noting [] r) apart)
    ∙ apart_notes r n e few (row_of n (hw_noting [] m) next e (noting [] r) apart running it.some it.chain)

-- ---- what is told

more_demotions : (fs : List Finding) (xs ys : List Note) → demotions fs (xs ++ ys) ≡ demotions (demotions fs xs) ys
more_demotions fs [] ys = refl
more_demotions fs (x ∷ xs) ys = more_demotions (after_demotion fs x) xs ys

more_denied : (fs : List Finding) (xs ys : List Note) → denied_moves fs (xs ++ ys) ≡ denied_moves (denied_moves fs xs) ys
more_denied fs [] ys = refl
more_denied fs (x ∷ xs) ys = more_denied (after_denied fs x) xs ys

found_more : (all more : List Note) → with_notes (found_by all) more ≡ found_by (all ++ more)
found_more all more =
    ap (λ (fs : List Finding). let f : FoundByNotes = record { demotions = fs; denied = denied_moves (denied_moves [] all) more } in f) (sym (more_demotions [] all more))
    ∙ ap (λ (fs : List Finding). let f : FoundByNotes = record { demotions = demotions [] (all ++ more); denied = fs } in f) (sym (more_denied [] all more))

pub told_view : (found : Option FoundByNotes) (kept all : List Note) → Tells found kept all → notes_view found kept ≡ found_by all
told_view None kept all told = ap found_by told
told_view (Some found) kept all told = told.all_found

-- where there is room nothing else was kept
kept_by : (found : Option FoundByNotes) (kept all more : List Note) → length kept < max_notes → Tells found kept all → Tells found (kept ++ more) (all ++ more)
kept_by None kept all more room told = ap (λ (notes : List Note). notes ++ more) told
kept_by (Some found) kept all more room told = let full = told.full in absurd (omega (arith, room, full))

pub told_row : (n : ℕ) (m next : Machine) (e : Event) (found : Option FoundByNotes) → length m.journal.notes < max_notes → length m.journal.notes + n ≤ max_notes → IsRowMade m e n next →
    TellsOn m e n next found found
told_row n m next e found room fits made = λ r all s told.
    let row : List Event = replicate n e in
    let cleared : List ℕ = take m.cleared r.journal.printed in
    let there : Stands m cleared r = record { stands = s; away = refl } in
    let seen : m.journal.notes ≡ r.journal.notes = notes_seen m r s in
    let size : length m.journal.notes ≡ length r.journal.notes = ap (λ (notes : List Note). length notes) seen in
    let notes : next.journal.notes ≡ m.journal.notes ++ noted r row =
    notes_seen next (run r row) (made.stands r cleared there).stands ∙ row_notes r n e (omega (arith, size, fits)) (made.row r s)
    ∙ ap (λ (kept : List Note). kept ++ noted r row) (sym seen) in
    subst (λ (kept : List Note). Tells found kept (all ++ noted r row)) (sym notes) (kept_by found m.journal.notes all (noted r row) room told)

-- where there is none what is found by all is kept, and then by these
pub told_apart : (n : ℕ) (m next : Machine) (e : Event) (old new : Option FoundByNotes) (made : List Note) → length m.journal.notes ≡ max_notes → next.journal.notes ≡ m.journal.notes →
    new ≡ Some (with_notes (notes_view old m.journal.notes) made) → ((r : State) → StandsFor m r → made ≡ noted r (replicate n e)) → TellsOn m e n next old new
told_apart n m next e old new made full same is are = λ r all s told.
    let row : List Event = replicate n e in
    let before : notes_view old m.journal.notes ≡ found_by all = told_view old m.journal.notes all told in
    let found : with_notes (notes_view old m.journal.notes) made ≡ found_by (all ++ noted r row) =
    ap (λ (f : FoundByNotes). with_notes f made) before ∙ ap (with_notes (found_by all)) (are r s) ∙ found_more all (noted r row) in
    subst (λ (x : Option FoundByNotes). Tells x next.journal.notes (all ++ noted r row)) (sym is)
    (record { full = ap (λ (notes : List Note). length notes) same ∙ full; all_found = found })
