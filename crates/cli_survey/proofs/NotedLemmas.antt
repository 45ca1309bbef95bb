-- The notes of a survey's events: how they go on, and that they don't hang on the notes before them.
use Rattle.std.proofs.Common.{◌≡◌, ℕ, zero, suc, ◌+◌, ◌≤◌, List, [], ◌∷◌, ◌++◌, length, take, replicate, refl, sym, ◌∙◌, ap, arith}
use Rattle.std.proofs.Common.{append_assoc, append-nil, length-append}
use Rattle.std.specs.Prelude.{Option, Some, None, slice_get}
use Rattle.std.proofs.lemmas.List.{length-replicate}
use Rattle.sv_types.specs.Limits.{max_notes}
use Rattle.sv_types.specs.declared.event.Event.{Event}
use Rattle.sv_types.specs.declared.event.Event.TheVariants.{Turn, Beat, Key, Tick, Poke}
use Rattle.sv_types.specs.declared.event.Note.{Note}
use Rattle.sv_types.specs.declared.event.Rule.TheVariants.{Entry, Write}
use Rattle.sv_types.specs.declared.event.Verdict.{Verdict}
use Rattle.sv_types.specs.declared.event.Verdict.TheVariants.{Running, Shutdown, Stopped}
use Rattle.spec_reference.specs.Run.{HasEnded, run, step}
use Rattle.spec_reference.specs.States.{State, Hart, Loading}
use Rattle.spec_reference.proofs.Runs.{ended_stays}
use Rattle.laws_simulation.specs.Passing.{moved_on, passed_over, passed_under, survey, survey_step}
use Rattle.laws_simulation.specs.Passes.{Pass, pass_of, passes}
use Rattle.laws_simulation.specs.SurveyLaws.{IsNoWrite}
use Rattle.laws_simulation.proofs.SurveysHold.{unpassed}
use Rattle.machine.specs.Noting.{noting}
use Rattle.cli_survey.specs.Noted.{noted, notes_of}
use Rattle.report.specs.declared.findings.loads.RefusedLoad.{RefusedLoad}
use Rattle.cli_survey.specs.Refusals.{refusal, refusal_in, refusal_in_turn, refusal_of, refusals, refusals_under, refused}
use Rattle.cli_survey.specs.Rows.{GoesAsRow}
use Rattle.cli_survey.proofs.KeepsNotes.{Notes, kept}
use Rattle.cli_survey.proofs.StepsNote.{step_notes}

-- ---- the first of a list

take_few : (n : ℕ) (xs : List Note) → length (take n xs) ≤ n
take_few zero xs = omega arith
take_few (suc n) [] = omega arith
take_few (suc n) (x ∷ xs) = let few = take_few n xs in omega (arith, few)

take_room : (n : ℕ) (xs : List Note) → length xs ≤ n → take n xs ≡ xs
take_room zero [] few = refl
take_room (suc n) [] few = refl
take_room zero (x ∷ xs) few = absurd (omega arith)
take_room (suc n) (x ∷ xs) few = ap (◌∷◌ x) (take_room n xs (omega arith))

take_full : (n : ℕ) (xs ys : List Note) → length xs ≡ n → take n (xs ++ ys) ≡ xs
take_full zero [] ys full = refl
take_full (suc n) [] ys full = cc
take_full zero (x ∷ xs) ys full = cc
take_full (suc n) (x ∷ xs) ys full = ap (◌∷◌ x) (take_full n xs ys (cc))

take_twice : (n : ℕ) (xs ys : List Note) → take n (take n xs ++ ys) ≡ take n (xs ++ ys)
take_twice zero xs ys = refl
take_twice (suc n) [] ys = refl
take_twice (suc n) (x ∷ xs) ys = ap (◌∷◌ x) (take_twice n xs ys)

-- ---- an event

abbrev listed : Option Note → List Note
listed None = []
listed (Some note) = note ∷ []

kept_is : (new : Option Note) (notes : List Note) → length notes ≤ max_notes → kept new notes ≡ take max_notes (notes ++ listed new)
kept_is None notes few = sym (ap (take max_notes) (append-nil notes) ∙ take_room max_notes notes few)
kept_is (Some note) notes few = refl

first_kept : (new : Option Note) → kept new [] ≡ listed new
first_kept None = refl
first_kept (Some note) = refl

one_listed : (new : Option Note) → length (listed new) ≤ 1
one_listed None = omega arith
one_listed (Some note) = omega arith

notes_are : (r : State) (e : Event) → notes_of r e ≡ listed (step_notes r e).new
notes_are r e = ap (λ (x : State). x.journal.notes) ((step_notes r e).same []) ∙ first_kept (step_notes r e).new

step_noting : (r : State) (e : Event) (notes : List Note) → length notes ≤ max_notes →
    step (noting notes r) e ≡ noting (take max_notes (notes ++ notes_of r e)) (step r e)
step_noting r e notes few =
    let n : Notes (λ notes. step (noting notes r) e) (step r e) = step_notes r e in
    n.same notes
    ∙ ap (λ (all : List Note). noting all (step r e)) (kept_is n.new notes few ∙ ap (λ (new : List Note). take max_notes (notes ++ new)) (sym (notes_are r e)))

few_of : (r : State) (e : Event) → length (notes_of r e) ≤ 1
few_of r e = let same : length (notes_of r e) ≡ length (listed (step_notes r e).new) = ap length (notes_are r e) in let few = one_listed (step_notes r e).new in omega (arith, same, few)

-- ---- a pass

moved_noting : (r : State) (h : ℕ) (x : Option Hart) (notes : List Note) → moved_on (noting notes r) h x ≡ noting notes (moved_on r h x)
unfolding moved_on
moved_noting r h None notes = refl
moved_noting r h (Some hart) notes = refl

under_noting : (v : Verdict) (r : State) (notes : List Note) → passed_under v (noting notes r) ≡ noting notes (passed_under v r)
unfolding passed_under
under_noting Running r notes = refl
under_noting Shutdown r notes = refl
under_noting (Stopped (Entry target) h turn) r notes = refl
under_noting (Stopped (Write pc gpa) h turn) r notes = moved_noting r h (slice_get r.harts h) notes

pass_noting : (r : State) (notes : List Note) → passed_over (noting notes r) ≡ noting notes (passed_over r)
unfolding passed_over
pass_noting r notes = under_noting r.journal.verdict r notes

pass_notes : (r : State) → (passed_over r).journal.notes ≡ r.journal.notes
pass_notes r = ap (λ (x : State). x.journal.notes) (pass_noting r r.journal.notes)

-- ---- the events of a survey

survey_step_noting : (r : State) (e : Event) (notes : List Note) → length notes ≤ max_notes →
    survey_step (noting notes r) e ≡ noting (take max_notes (notes ++ notes_of r e)) (survey_step r e)
survey_step_noting r e notes few = ap passed_over (step_noting r e notes few) ∙ pass_noting (step r e) (take max_notes (notes ++ notes_of r e))

noted_same : (events : List Event) (r : State) (notes : List Note) → length notes ≤ max_notes → noted (noting notes r) events ≡ noted r events
noted_same [] r notes few = refl
noted_same (e ∷ events) r notes few =
    ap (λ (rest : List Note). notes_of r e ++ rest)
    (ap (λ (x : State). noted x events) (survey_step_noting r e notes few)
    ∙ noted_same events (survey_step r e) (take max_notes (notes ++ notes_of r e)) (take_few max_notes (notes ++ notes_of r e)))

few_noted : (events : List Event) (r : State) → length (noted r events) ≤ length events
few_noted [] r = omega arith
few_noted (e ∷ events) r =
    let sum : length (notes_of r e ++ noted (survey_step r e) events) ≡ length (notes_of r e) + length (noted (survey_step r e) events) =
    length-append (notes_of r e) (noted (survey_step r e) events) in
    let first = few_of r e in
    let rest = few_noted events (survey_step r e) in
    omega (arith, sum, first, rest)

pub noted_on : (r : State) (front back : List Event) → noted r (front ++ back) ≡ noted r front ++ noted (survey r front) back
noted_on r [] back = refl
noted_on r (e ∷ front) back =
    ap (λ (rest : List Note). notes_of r e ++ rest) (noted_on (survey_step r e) front back)
    ∙ sym (append_assoc (notes_of r e) (noted (survey_step r e) front) (noted (survey (survey_step r e) front) back))

-- the first of them are kept
notes_in : (events : List Event) (r : State) → length r.journal.notes ≤ max_notes →
    (survey r events).journal.notes ≡ take max_notes (r.journal.notes ++ noted r events)
notes_in [] r few = sym (ap (take max_notes) (append-nil r.journal.notes) ∙ take_room max_notes r.journal.notes few)
notes_in (e ∷ events) r few =
    let before : List Note = r.journal.notes in
    let after : List Note = take max_notes (before ++ notes_of r e) in
    let next : State = survey_step r e in
    let here : next.journal.notes ≡ after = ap (λ (x : State). x.journal.notes) (survey_step_noting r e before few) in
    let short : length after ≤ max_notes = take_few max_notes (before ++ notes_of r e) in
    let same : length next.journal.notes ≡ length after = ap length here in
    notes_in events next (omega (arith, short, same))
    ∙ ap (λ (xs : List Note). take max_notes (xs ++ noted next events)) here
    ∙ take_twice max_notes (before ++ notes_of r e) (noted next events)
    ∙ ap (take max_notes) (append_assoc before (notes_of r e) (noted next events))

-- a machine that has ended notes nothing
pub none_noted : (left : List Event) (r : State) → HasEnded r.journal.verdict → IsNoWrite r.journal.verdict → noted r left ≡ []
none_noted [] r ended none = refl
none_noted (e ∷ left) r ended none =
    ap (λ (x : State). x.journal.notes ++ noted (survey_step r e) left) (ended_stays (noting [] r) (e ∷ []) ended)
    ∙ ap (λ (x : State). noted x left) (ap passed_over (ended_stays r (e ∷ []) ended) ∙ unpassed r none)
    ∙ none_noted left r ended none

-- ---- where no room is left for a note

step_full : (r : State) (e : Event) (notes : List Note) → length notes ≡ max_notes → step (noting notes r) e ≡ noting notes (step r e)
step_full r e notes full =
    step_noting r e notes (omega (arith, full)) ∙ ap (λ (all : List Note). noting all (step r e)) (take_full max_notes notes (notes_of r e) full)

pub run_full : (events : List Event) (r : State) (notes : List Note) → length notes ≡ max_notes → run (noting notes r) events ≡ noting notes (run r events)
run_full [] r notes full = refl
run_full (e ∷ events) r notes full = ap (λ (x : State). run x events) (step_full r e notes full) ∙ run_full events (step r e) notes full

survey_full : (events : List Event) (r : State) (notes : List Note) → length notes ≡ max_notes → survey (noting notes r) events ≡ noting notes (survey r events)
survey_full [] r notes full = refl
survey_full (e ∷ events) r notes full =
    ap (λ (x : State). survey x events) (ap passed_over (step_full r e notes full) ∙ pass_noting (step r e) notes) ∙ survey_full events (survey_step r e) notes full

passes_full : (events : List Event) (r : State) (notes : List Note) → length notes ≡ max_notes → passes (noting notes r) events ≡ passes r events
passes_full [] r notes full = refl
passes_full (e ∷ events) r notes full =
    ap (λ (x : State). pass_of x.journal.verdict ++ passes (passed_over x) events) (step_full r e notes full)
    ∙ ap (λ (x : State). pass_of (step r e).journal.verdict ++ passes x events) (pass_noting (step r e) notes)
    ∙ ap (λ (rest : List Pass). pass_of (step r e).journal.verdict ++ rest) (passes_full events (survey_step r e) notes full)

pub row_full : (r : State) (n : ℕ) (e : Event) → length r.journal.notes ≡ max_notes → GoesAsRow (noting [] r) n e → GoesAsRow r n e
row_full r n e full row =
    let events : List Event = replicate n e in
    let notes : List Note = r.journal.notes in
    let apart : State = noting [] r in
    let same : run r events ≡ noting notes (run apart events) = run_full events apart notes full in
    record {
      state = survey_full events apart notes full ∙ ap (noting notes) row.state ∙ sym (pass_noting (run apart events) notes) ∙ ap passed_over (sym same);
      passed = passes_full events apart notes full ∙ row.passed ∙ ap (λ (x : State). pass_of x.journal.verdict) (sym same);
    }

-- ---- refused loads

refusal_same : (r : State) (h : ℕ) (hart : Hart) (x : Option Loading) (notes : List Note) → refusal_of (noting notes r) h hart x ≡ refusal_of r h hart x
unfolding refusal_of refusal
refusal_same r h hart None notes = refl
refusal_same r h hart (Some load) notes = refl

in_turn_same : (r : State) (h : ℕ) (x : Option Hart) (notes : List Note) → refusal_in_turn (noting notes r) h x ≡ refusal_in_turn r h x
unfolding refusal_in_turn
in_turn_same r h None notes = refl
in_turn_same r h (Some hart) notes = refusal_same r h hart r.loading notes

in_same : (r : State) (e : Event) (notes : List Note) → refusal_in (noting notes r) e ≡ refusal_in r e
unfolding refusal_in
in_same r (Turn h) notes = in_turn_same r h (slice_get r.harts h) notes
in_same r Beat notes = refl
in_same r (Key byte) notes = refl
in_same r (Tick by) notes = refl
in_same r (Poke gpa value) notes = refl

refusals_by : (v : Verdict) (r : State) (e : Event) (notes : List Note) → refusals_under v (noting notes r) e ≡ refusals_under v r e
unfolding refusals_under
refusals_by Running r e notes = in_same r e notes
refusals_by Shutdown r e notes = refl
refusals_by (Stopped rule h turn) r e notes = refl

pub refusals_same : (r : State) (e : Event) (notes : List Note) → refusals (noting notes r) e ≡ refusals r e
refusals_same r e notes = refusals_by r.journal.verdict r e notes

pub refused_full : (events : List Event) (r : State) (notes : List Note) → length notes ≡ max_notes → refused (noting notes r) events ≡ refused r events
refused_full [] r notes full = refl
refused_full (e ∷ events) r notes full =
    ap (λ (first : List RefusedLoad). first ++ refused (survey_step (noting notes r) e) events) (refusals_same r e notes)
    ∙ ap (λ (x : State). refusals r e ++ refused (passed_over x) events) (step_full r e notes full)
    ∙ ap (λ (x : State). refusals r e ++ refused x events) (pass_noting (step r e) notes)
    ∙ ap (λ (rest : List RefusedLoad). refusals r e ++ rest) (refused_full events (survey_step r e) notes full)

-- ---- the notes of a row

-- the first of all notes are kept
row_first : (r : State) (n : ℕ) (e : Event) → length r.journal.notes ≤ max_notes → GoesAsRow r n e →
    (run r (replicate n e)).journal.notes ≡ take max_notes (r.journal.notes ++ noted r (replicate n e))
row_first r n e few row =
    sym (pass_notes (run r (replicate n e))) ∙ ap (λ (x : State). x.journal.notes) (sym row.state) ∙ notes_in (replicate n e) r few

pub row_few : (r : State) (n : ℕ) (e : Event) → length r.journal.notes ≤ max_notes → GoesAsRow r n e → length (run r (replicate n e)).journal.notes ≤ max_notes
row_few r n e few row =
    let all : List Note = r.journal.notes ++ noted r (replicate n e) in
    let same : length (run r (replicate n e)).journal.notes ≡ length (take max_notes all) = ap length (row_first r n e few row) in
    let first : length (take max_notes all) ≤ max_notes = take_few max_notes all in
    omega (arith, same, first)

take_most : (n : ℕ) (xs : List Note) → length (take n xs) ≤ length xs
take_most zero xs = omega arith
take_most (suc n) [] = omega arith
take_most (suc n) (x ∷ xs) = let most = take_most n xs in omega (arith, most)

-- one of each event at most
pub row_more : (r : State) (n : ℕ) (e : Event) → length r.journal.notes ≤ max_notes → GoesAsRow r n e → length (run r (replicate n e)).journal.notes ≤ length r.journal.notes + n
row_more r n e few row =
    let events : List Event = replicate n e in
    let all : List Note = r.journal.notes ++ noted r events in
    let same : length (run r events).journal.notes ≡ length (take max_notes all) = ap length (row_first r n e few row) in
    let most : length (take max_notes all) ≤ length all = take_most max_notes all in
    let sum : length all ≡ length r.journal.notes + length (noted r events) = length-append r.journal.notes (noted r events) in
    let each = few_noted events r in
    let size : length events ≡ n = length-replicate n e in
    omega (arith, same, most, sum, each, size)

-- each of them where there is room for one of each event
pub row_notes : (r : State) (n : ℕ) (e : Event) → length r.journal.notes + n ≤ max_notes → GoesAsRow r n e →
    (run r (replicate n e)).journal.notes ≡ r.journal.notes ++ noted r (replicate n e)
row_notes r n e fits row =
    let events : List Event = replicate n e in
    let all : List Note = r.journal.notes ++ noted r events in
    let sum : length all ≡ length r.journal.notes + length (noted r events) = length-append r.journal.notes (noted r events) in
    let few = few_noted events r in
    let size : length events ≡ n = length-replicate n e in
    row_first r n e (omega (arith, fits)) row ∙ take_room max_notes all (omega (arith, sum, few, size, fits))

-- and where those before them were set apart
pub apart_notes : (r : State) (n : ℕ) (e : Event) → n ≤ max_notes → GoesAsRow (noting [] r) n e →
    (run (noting [] r) (replicate n e)).journal.notes ≡ noted r (replicate n e)
apart_notes r n e fits row = row_notes (noting [] r) n e (omega (arith, fits)) row ∙ noted_same (replicate n e) r [] (omega arith)
