-- The event that refuses a load notes it.
use Rattle.std.proofs.Common.{◌≡◌, ℕ, Bool, true, false, ◌&&◌, List, [], ◌∷◌, refl, ◌∙◌, ap}
use Rattle.std.specs.Prelude.{Option, Some, None, slice_get, ◌==◌, if◌then◌else◌}
use Rattle.std.proofs.lemmas.Bool.{eqb-true}
use Rattle.sv_types.proofs.TruthValues.{and_first, and_second}
use Rattle.sv_types.specs.declared.event.Event.{Event}
use Rattle.sv_types.specs.declared.event.Event.TheVariants.{Turn, Beat, Key, Tick, Poke}
use Rattle.sv_types.specs.declared.event.Note.TheVariants.{Load}
use Rattle.sv_types.specs.declared.event.Verdict.{Verdict}
use Rattle.sv_types.specs.declared.event.Verdict.TheVariants.{Running, Shutdown, Stopped}
use Rattle.sv_types.specs.declared.saved.ModulePlacement.{ModulePlacement}
use Rattle.sv_types.specs.declared.sbi.SbiCode.TheVariants.{RefusedByMeasure}
use Rattle.spec_reference.specs.Answers.{journal_side_effect, state_after_answer}
use Rattle.spec_reference.specs.Counting.{count, count_refused, count_turn, with_count, with_note}
use Rattle.spec_reference.specs.Loads.{decide, is_good_load, load_step, load_step_of}
use Rattle.spec_reference.specs.ModuleCalls.{load_decision}
use Rattle.spec_reference.specs.Run.{happen, happen_under, step}
use Rattle.spec_reference.specs.States.{State, Hart, Loading}
use Rattle.spec_reference.specs.Turn.{act, turn, turn_of, turn_of_started}
use Rattle.report.specs.declared.findings.loads.RefusedLoad.{RefusedLoad}
use Rattle.cli_survey.specs.NotedLoads.{RefusedNotedLaw, journal_after}
use Rattle.cli_survey.specs.Refusals.{is_due, refusal, refusal_in, refusal_in_turn, refusal_of, refusals_under, refused_load}

-- ---- the decision

-- what is refused isn't good
bad_is : (good : Bool) (m l : RefusedLoad) → (if good then [] else m ∷ []) ≡ l ∷ [] → (good ≡ false) × (m ≡ l)
bad_is true m l is = absurd (cc is)
bad_is false m l is = (refl, cc is)

-- what is said of a decision that isn't due is nothing
due_is : (due : Bool) (xs : List RefusedLoad) (l : RefusedLoad) → (if due then xs else []) ≡ l ∷ [] → (due ≡ true) × (xs ≡ l ∷ [])
due_is true xs l is = (refl, is)
due_is false xs l is = absurd (cc is)

decided : (r : State) (h : ℕ) (hart : Hart) (m : ModulePlacement) → is_good_load r.rules r.ram m (slice_get r.rules.modules m.id) ≡ false →
    (decide r h hart m).journal ≡ with_note (Load h r.journal.counts.turns m.id RefusedByMeasure) (with_count count_refused r.journal)
unfolding decide state_after_answer journal_side_effect
decided r h hart m bad = ap (λ (good : Bool). (state_after_answer r h hart (load_decision good m)).journal) bad

load_decided : (r : State) (h : ℕ) (hart : Hart) (load : Loading) (left : ℕ) → left ≡ 0 → load_step_of r h hart load left ≡ decide r h hart load.about
unfolding load_step_of
load_decided r h hart load left none = ap (load_step_of r h hart load) none

-- ---- the turn

turn_decided : (r : State) (h : ℕ) (hart : Hart) (load : Loading) → (load.hart == h) ≡ true → load.left ≡ 0 →
    turn_of_started r h hart (Some load) ≡ decide r h hart load.about
unfolding turn_of_started
turn_decided r h hart load its none =
    ap (λ (b : Bool). if b then load_step r h hart load else act r h hart) its ∙ load_decided r h hart load load.left none

noted_load : (r : State) (h : ℕ) (hart : Hart) (load : Loading) (l : RefusedLoad) → refusal_of r h hart (Some load) ≡ l ∷ [] →
    (if hart.started then turn_of_started (count r count_turn) h hart (Some load) else count r count_turn).journal ≡ journal_after r.journal l
unfolding refusal_of refusal
noted_load r h hart load l is =
    let due = due_is (is_due h hart load) _ l is in
    let both : (hart.started && load.hart == h) ≡ true = and_first (hart.started && load.hart == h) (load.left == 0) due.0 in
    let started : hart.started ≡ true = and_first hart.started (load.hart == h) both in
    let its : (load.hart == h) ≡ true = and_second hart.started (load.hart == h) both in
    let none : load.left ≡ 0 = eqb-true load.left 0 (and_second (hart.started && load.hart == h) (load.left == 0) due.0) in
    let bad = bad_is (is_good_load r.rules r.ram load.about (slice_get r.rules.modules load.about.id)) (refused_load r h load.about) l due.1 in
    ap (λ (b : Bool). (if b then turn_of_started (count r count_turn) h hart (Some load) else count r count_turn).journal) started
    ∙ ap (λ (x : State). x.journal) (turn_decided (count r count_turn) h hart load its none)
    ∙ decided (count r count_turn) h hart load.about bad.0
    ∙ ap (journal_after r.journal) bad.1

noted_loading : (r : State) (h : ℕ) (hart : Hart) (loading : Option Loading) (l : RefusedLoad) → refusal_of r h hart loading ≡ l ∷ [] →
    (if hart.started then turn_of_started (count r count_turn) h hart loading else count r count_turn).journal ≡ journal_after r.journal l
unfolding refusal_of
noted_loading r h hart None l is = absurd (cc is)
noted_loading r h hart (Some load) l is = noted_load r h hart load l is

noted_turn : (r : State) (h : ℕ) (hart : Option Hart) (l : RefusedLoad) → refusal_in_turn r h hart ≡ l ∷ [] →
    (turn_of (count r count_turn) h hart).journal ≡ journal_after r.journal l
unfolding refusal_in_turn turn_of
noted_turn r h None l is = absurd (cc is)
noted_turn r h (Some hart) l is = noted_loading r h hart r.loading l is

-- ---- the event

noted_in : (r : State) (e : Event) (l : RefusedLoad) → refusal_in r e ≡ l ∷ [] → (happen r e).journal ≡ journal_after r.journal l
unfolding refusal_in happen turn
noted_in r (Turn h) l is = noted_turn r h (slice_get r.harts h) l is
noted_in r Beat l is = absurd (cc is)
noted_in r (Key byte) l is = absurd (cc is)
noted_in r (Tick n) l is = absurd (cc is)
noted_in r (Poke gpa value) l is = absurd (cc is)

noted_under : (v : Verdict) (r : State) (e : Event) (l : RefusedLoad) → refusals_under v r e ≡ l ∷ [] → (happen_under v r e).journal ≡ journal_after r.journal l
unfolding refusals_under happen_under
noted_under Running r e l is = noted_in r e l is
noted_under Shutdown r e l is = absurd (cc is)
noted_under (Stopped rule h at) r e l is = absurd (cc is)

pub refused_noted_law : RefusedNotedLaw
unfolding step
refused_noted_law r e l is = noted_under r.journal.verdict r e l is
