-- The states of a survey.
use Rattle.std.proofs.Common.{◌≡◌, List, [], ◌∷◌, ◌++◌, refl, sym, ◌∙◌, ap, subst}
use Rattle.sv_types.specs.declared.event.Event.{Event}
use Rattle.sv_types.specs.declared.event.Rule.TheVariants.{Entry, Write}
use Rattle.sv_types.specs.declared.event.Verdict.{Verdict}
use Rattle.sv_types.specs.declared.event.Verdict.TheVariants.{Running, Shutdown, Stopped}
use Rattle.spec_reference.specs.Origins.{ownership}
use Rattle.spec_reference.specs.Run.{HasEnded, step, run}
use Rattle.spec_reference.specs.Soundness.{IsSound}
use Rattle.spec_reference.specs.States.{State}
use Rattle.spec_reference.proofs.Runs.{ended_stays}
use Rattle.laws_simulation.proofs.Sounds.{Goes, goes_on, text_stays}
use Rattle.laws_simulation.proofs.StateLawsHold.{reached_sound, has_origins}
use Rattle.laws_simulation.proofs.StepsSound.{step_goes}
use Rattle.laws_simulation.specs.Passing.{passed_under, passed_over, survey_step, survey}
use Rattle.laws_simulation.specs.SurveyLaws.{ChainLaw, IsNoWrite, SameRunLaw, SurveyedLaw}
use Rattle.laws_simulation.proofs.PassesHold.{pass_goes}

pub survey_step_goes : (r : State) (e : Event) → IsSound r → Goes r (survey_step r e)
survey_step_goes r e s =
    let first = step_goes r e s in goes_on r (step r e) (passed_over (step r e)) first (pass_goes (step r e) first.sound)

pub survey_goes : (r : State) (events : List Event) → IsSound r → Goes r (survey r events)
survey_goes r [] s = record { sound = s; text = text_stays (ownership r) }
survey_goes r (e ∷ events) s =
    let first = survey_step_goes r e s in goes_on r (survey_step r e) (survey (survey_step r e) events) first (survey_goes (survey_step r e) events first.sound)

pub surveyed_law : SurveyedLaw
surveyed_law s events is_start =
    let sound = reached_sound s [] is_start in
    let goes = survey_goes s events sound in
    record { sound = goes.sound; origins = has_origins s (survey s events) sound goes }

-- ---- a survey that passes over nothing

unpassed_under : (v : Verdict) (r : State) → IsNoWrite v → passed_under v r ≡ r
unfolding passed_under
unpassed_under Running r none = refl
unpassed_under Shutdown r none = refl
unpassed_under (Stopped (Entry target) h turn) r none = refl
unpassed_under (Stopped (Write pc gpa) h turn) r none = absurd none

pub unpassed : (r : State) → IsNoWrite r.journal.verdict → passed_over r ≡ r
unfolding passed_over
unpassed r none = unpassed_under r.journal.verdict r none

-- a stop by a write lasts
none_under : (v : Verdict) (r : State) (events : List Event) → r.journal.verdict ≡ v → IsNoWrite (run r events).journal.verdict → IsNoWrite v
none_under Running r events is none = tt
none_under Shutdown r events is none = tt
none_under (Stopped (Entry target) h turn) r events is none = tt
none_under (Stopped (Write pc gpa) h turn) r events is none =
    let same : run r events ≡ r = ended_stays r events (subst HasEnded (sym is) tt) in
    subst IsNoWrite (ap (λ (x : State). x.journal.verdict) same ∙ is) none

pub none_before : (r : State) (events : List Event) → IsNoWrite (run r events).journal.verdict → IsNoWrite r.journal.verdict
none_before r events none = none_under r.journal.verdict r events refl none

pub same_run_law : SameRunLaw
same_run_law r [] none = refl
same_run_law r (e ∷ events) none =
    ap (λ (x : State). survey x events) (unpassed (step r e) (none_before (step r e) events none)) ∙ same_run_law (step r e) events none

-- ---- a chain

survey_on : (r : State) (front back : List Event) → survey r (front ++ back) ≡ survey (survey r front) back
survey_on r [] back = refl
survey_on r (e ∷ front) back = survey_on (survey_step r e) front back

pub chain_law : ChainLaw
chain_law r front back e none =
    survey_on r front (e ∷ back) ∙ ap (λ (x : State). survey (survey_step x e) back) (same_run_law r front none)
