-- What each machine that runs keeps besides its soundness, over a pass and in a survey.
use Rattle.std.proofs.Common.{◌≡◌, ℕ, List, [], ◌∷◌, refl, sym, ◌∙◌, ap, subst, slice_get, slice_set, false, inl, inr}
use Rattle.std.specs.Prelude.{Option, Some, None, ◌==◌}
use Rattle.std.proofs.lemmas.Bool.{eqb-true, cases_Bool}
use Rattle.std.proofs.lemmas.Option.{same_Some}
use Rattle.sv_types.specs.declared.event.Event.{Event}
use Rattle.sv_types.specs.declared.event.Rule.TheVariants.{Entry, Write}
use Rattle.sv_types.specs.declared.event.Verdict.{Verdict}
use Rattle.sv_types.specs.declared.event.Verdict.TheVariants.{Running, Shutdown, Stopped}
use Rattle.sv_types.proofs.SetElements.{set_other}
use Rattle.spec_reference.specs.Requests.{at_next_instruction}
use Rattle.spec_reference.specs.Run.{step}
use Rattle.spec_reference.specs.Soundness.{IsSound}
use Rattle.spec_reference.specs.States.{State, Hart, Loading}
use Rattle.laws_resume.specs.Keepable.{IsKeepable, IsKeepableLoad, MayGoOn, ram_size}
use Rattle.laws_resume.proofs.KeepableParts.{are_set, keepable_at, journal_ended}
use Rattle.laws_resume.proofs.KeepableSteps.{step_keeps}
use Rattle.laws_simulation.specs.Passing.{moved_on, passed_under, passed_over, survey_step, survey}
use Rattle.laws_simulation.proofs.PassesHold.{set_there}
use Rattle.laws_simulation.proofs.SurveysHold.{survey_step_goes}
use Rattle.laws_simulation.proofs.Lookups.{both, same_number}

-- ---- a load under way

not_same : (m n : ℕ) → (m == n) ≡ false → m ≡ n → ⊥
not_same m n other same = absurd (both (n == n) (same_number n) (subst (λ (k : ℕ). (k == n) ≡ false) same other))

goes_on_beside : (harts : List Hart) (h : ℕ) (next : Hart) (load : Loading) → (load.hart == h) ≡ false → MayGoOn harts load → MayGoOn (slice_set harts h next) load
goes_on_beside harts h next load other k = record {
  hart = k.hart;
  found = set_other harts h load.hart next (not_same load.hart h other) ∙ k.found;
  started = k.started;
  mode = k.mode;
  aligned = k.aligned;
}

goes_on_there : (harts : List Hart) (h : ℕ) (hart : Hart) (load : Loading) → load.hart ≡ h → slice_get harts h ≡ Some hart → MayGoOn harts load
    → MayGoOn (slice_set harts h (at_next_instruction hart)) load
goes_on_there harts h hart load same there k =
    let one : k.hart ≡ hart = same_Some k.hart hart (sym k.found ∙ ap (slice_get harts) same ∙ there) in
    record {
      hart = at_next_instruction hart;
      found = ap (slice_get (slice_set harts h (at_next_instruction hart))) same ∙ set_there harts h hart (at_next_instruction hart) there;
      started = ap (λ (x : Hart). x.started) (sym one) ∙ k.started;
      mode = ap (λ (x : Hart). x.mode) (sym one) ∙ k.mode;
      aligned = k.aligned;
    }

load_kept : (harts : List Hart) (h : ℕ) (hart : Hart) (x : Option Loading) → slice_get harts h ≡ Some hart → IsKeepableLoad harts x
    → IsKeepableLoad (slice_set harts h (at_next_instruction hart)) x
load_kept harts h hart None there k = tt
load_kept harts h hart (Some load) there k = elim (cases_Bool (load.hart == h)) [
  | inl its ↦ goes_on_there harts h hart load (eqb-true load.hart h its) there k
  | inr other ↦ goes_on_beside harts h (at_next_instruction hart) load other k
]

-- ---- a pass

moved_keeps : (r : State) (h : ℕ) (x : Option Hart) → IsKeepable r → slice_get r.harts h ≡ x → IsKeepable (moved_on r h x)
unfolding moved_on
moved_keeps r h None k there = k
moved_keeps r h (Some hart) k there =
    let old = keepable_at (ram_size r.rules) r.harts h hart k.harts there in
    record {
      harts = are_set (ram_size r.rules) r.harts h (at_next_instruction hart) k.harts (record { zero = old.zero; reservation = old.reservation });
      journal = journal_ended r.rules.harts r.journal.notes r.journal.counts.notes r.journal.verdict Running k.journal tt;
      clock = k.clock;
      console = k.console;
      modules = k.modules;
      load = load_kept r.harts h hart r.loading there k.load;
      text = k.text;
    }

under_keeps : (v : Verdict) (r : State) → IsKeepable r → IsKeepable (passed_under v r)
unfolding passed_under
under_keeps Running r k = k
under_keeps Shutdown r k = k
under_keeps (Stopped (Entry target) h turn) r k = k
under_keeps (Stopped (Write pc gpa) h turn) r k = moved_keeps r h (slice_get r.harts h) k refl

pass_keeps : (r : State) → IsKeepable r → IsKeepable (passed_over r)
unfolding passed_over
pass_keeps r k = under_keeps r.journal.verdict r k

-- ---- a survey

pub survey_keeps : (r : State) (events : List Event) → IsKeepable r → IsSound r → IsKeepable (survey r events)
survey_keeps r [] k s = k
survey_keeps r (e ∷ events) k s =
    survey_keeps (survey_step r e) events (pass_keeps (step r e) (step_keeps r e k s)) (survey_step_goes r e s).sound
