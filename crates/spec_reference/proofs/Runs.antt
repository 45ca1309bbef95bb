-- Runs of the reference machine, and the protection of a page.
use Rattle.std.proofs.Common.{◌≡◌, ℕ, zero, suc, replicate, List, [], ◌∷◌, ◌++◌, refl, ◌∙◌, ap, Bool, true, false, not, ◌||◌}
use Rattle.sv_types.specs.declared.event.Event.{Event}
use Rattle.sv_types.specs.declared.event.Verdict.{Verdict}
use Rattle.sv_types.specs.declared.event.Verdict.TheVariants.{Running, Shutdown, Stopped}
use Rattle.sv_types.specs.declared.protection.Protection.TheVariants.{Free}
use Rattle.sv_types.specs.Protections.{is_free}
use Rattle.spec_reference.specs.Protections.{protection_at}
use Rattle.spec_reference.specs.Run.{HasEnded, happen_under, step, run}
use Rattle.spec_reference.specs.States.{State, is_protected, protection, protection_in, protection_by, is_approved_in, has_number}

protected_by : (a b : Bool) → (a || b) ≡ not (is_free (protection_by a b))
unfolding protection_by
protected_by true b = refl
protected_by false true = refl
protected_by false false = refl

pub protected : (r : State) (page : ℕ) → is_protected r page ≡ not (is_free (protection r page))
unfolding is_protected protection_in
protected r page = protected_by (is_approved_in r.approved page) (has_number r.held page)

-- pages that are all free
pub all_free_at : (n page : ℕ) → protection_at (replicate n Free) page ≡ Free
all_free_at zero page = refl
all_free_at (suc n) zero = refl
all_free_at (suc n) (suc page) = all_free_at n page

stays_under : (v : Verdict) (r : State) (e : Event) → HasEnded v → happen_under v r e ≡ r
unfolding happen_under
stays_under Running r e ended = absurd ended
stays_under Shutdown r e ended = refl
stays_under (Stopped rule hart at) r e ended = refl

pub steps_nowhere : (r : State) (e : Event) → HasEnded r.journal.verdict → step r e ≡ r
unfolding step
steps_nowhere r e ended = stays_under r.journal.verdict r e ended

pub ended_stays : (r : State) (events : List Event) → HasEnded r.journal.verdict → run r events ≡ r
ended_stays r [] ended = refl
ended_stays r (e ∷ events) ended = ap (λ (x : State). run x events) (steps_nowhere r e ended) ∙ ended_stays r events ended

pub run_on : (r : State) (first : List Event) (then : List Event) → run r (first ++ then) ≡ run (run r first) then
run_on r [] then = refl
run_on r (e ∷ first) then = run_on (step r e) first then
