-- The writes that a survey passes over.
use Rattle.std.proofs.Common.{◌≡◌, ℕ, zero, suc, List, [], ◌∷◌, ◌++◌, replicate, refl, sym, ◌∙◌, ap, append_assoc, append-nil}
use Rattle.sv_types.specs.declared.event.Event.{Event}
use Rattle.sv_types.specs.declared.event.Rule.TheVariants.{Entry, Write}
use Rattle.sv_types.specs.declared.event.Verdict.{Verdict}
use Rattle.sv_types.specs.declared.event.Verdict.TheVariants.{Running, Shutdown, Stopped}
use Rattle.spec_reference.specs.Run.{run, step}
use Rattle.spec_reference.specs.States.{State}
use Rattle.spec_reference.proofs.Runs.{run_on}
use Rattle.laws_simulation.specs.Passing.{passed_over, survey_step, survey}
use Rattle.laws_simulation.specs.Passes.{Pass, pass_of, passes, PassesOnLaw, RowLaw}
use Rattle.laws_simulation.specs.SurveyLaws.{IsNoWrite}
use Rattle.laws_simulation.proofs.SurveysHold.{chain_law, none_before, same_run_law, unpassed}

pub passes_on_law : PassesOnLaw
passes_on_law r [] back = refl
passes_on_law r (e ∷ front) back =
    ap (λ (more : List Pass). pass_of (step r e).journal.verdict ++ more) (passes_on_law (survey_step r e) front back)
    ∙ sym (append_assoc (pass_of (step r e).journal.verdict) (passes (survey_step r e) front) (passes (survey (survey_step r e) front) back))

none_of : (v : Verdict) → IsNoWrite v → pass_of v ≡ []
unfolding pass_of
none_of Running none = refl
none_of Shutdown none = refl
none_of (Stopped (Entry target) h turn) none = refl
none_of (Stopped (Write pc gpa) h turn) none = absurd none

-- where no write stops the run nothing is passed over
nothing_passed : (r : State) (events : List Event) → IsNoWrite (run r events).journal.verdict → passes r events ≡ []
nothing_passed r [] none = refl
nothing_passed r (e ∷ events) none =
    let now = none_before (step r e) events none in
    ap (λ (first : List Pass). first ++ passes (survey_step r e) events) (none_of (step r e).journal.verdict now)
    ∙ ap (λ (x : State). passes x events) (unpassed (step r e) now)
    ∙ nothing_passed (step r e) events none

one_more : (n : ℕ) (e : Event) → replicate (suc n) e ≡ replicate n e ++ e ∷ []
one_more zero e = refl
one_more (suc n) e = ap (λ (es : List Event). e ∷ es) (one_more n e)

last_state : (r : State) (front : List Event) (e : Event) → step (run r front) e ≡ run r (front ++ e ∷ [])
last_state r front e = sym (run_on r front (e ∷ []))

pub row_law : RowLaw
row_law r n e none =
    let front : List Event = replicate n e in
    let last : step (run r front) e ≡ run r (replicate (suc n) e) = last_state r front e ∙ ap (run r) (sym (one_more n e)) in
    record {
      state = ap (survey r) (one_more n e) ∙ chain_law r front [] e none ∙ ap passed_over last;
      passed = ap (passes r) (one_more n e) ∙ passes_on_law r front (e ∷ [])
          ∙ ap (λ (first : List Pass). first ++ passes (survey r front) (e ∷ [])) (nothing_passed r front none)
          ∙ append-nil (pass_of (step (survey r front) e).journal.verdict)
          ∙ ap (λ (x : State). pass_of (step x e).journal.verdict) (same_run_law r front none)
          ∙ ap (λ (x : State). pass_of x.journal.verdict) last;
    }
