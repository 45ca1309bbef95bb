-- The events that a script draws, one after another.
use Rattle.std.proofs.Common.{if◌then◌else◌, Bool, true, false, subst, ◌≡◌, ℕ, zero, suc, ◌+◌, [], ◌∷◌, refl, ap, ◌∙◌, sym, arith, Some, Option, unwrap_or}
use Rattle.sv_types.specs.declared.event.Event.{Event}
use Rattle.sv_types.specs.Schedule.{Schedule, Listed, Rounds, Weave, Auto, Bursts, random_at, next_random, after_event, next_event, auto_event}
use Rattle.sv_types.specs.declared.event.Event.TheVariants.{Turn, Beat, Tick}
use Rattle.cli_live.specs.Coming.{IsKey}
use Rattle.cli_live.specs.LiveRuns.{harts_of, HasDrawn}

random_next : (n : ℕ) → next_random (random_at 0 n) ≡ random_at 0 (n + 1)
unfolding random_at
random_next n = let one : suc n ≡ n + 1 = omega arith in ap (λ (i : ℕ). random_at 0 i) one

after_harts : (script : Schedule) → harts_of (after_event script) ≡ harts_of script
after_harts (Listed []) = refl
after_harts (Listed (event ∷ events)) = refl
after_harts (Rounds harts hart) = refl
after_harts (Weave place) = refl
after_harts (Auto harts number) = refl
after_harts (Bursts harts hart zero number) = refl
after_harts (Bursts harts hart (suc left) number) = refl

pub same_harts : (now new : Schedule) → new ≡ after_event now → harts_of new ≡ harts_of now
same_harts now new is = ap harts_of is ∙ after_harts now

-- one event more was drawn
pub drawn_more : (n m : ℕ) (now new : Schedule) → HasDrawn n now → new ≡ after_event now → m ≡ n + 1 → HasDrawn m new
drawn_more n m now new has is one =
    is ∙ ap after_event has
    ∙ ap (λ (x : ℕ). Auto (harts_of now) x) (random_next n)
    ∙ ap (λ (i : ℕ). Auto (harts_of now) (random_at 0 i)) (sym one)
    ∙ ap (λ (h : ℕ). Auto h (random_at 0 m)) (sym (same_harts now new is))

pub drawn_same : (n m : ℕ) (script : Schedule) → HasDrawn n script → m ≡ n → HasDrawn m script
drawn_same n m script has same = has ∙ ap (λ (i : ℕ). Auto (harts_of script) (random_at 0 i)) (sym same)

next_drawn : (n : ℕ) (script : Schedule) → HasDrawn n script → next_event script ≡ Some (auto_event (harts_of script) 0 n)
unfolding random_at
next_drawn n script has = ap next_event has

no_key : (turn beat : Bool) (hart : ℕ) → IsKey (if turn then Turn hart else if beat then Beat else Tick 16) → ⊥
no_key true beat hart is = is
no_key false true hart is = is
no_key false false hart is = is

-- it is no key
pub drawn_no_key : (harts n : ℕ) (event : Event) → event ≡ auto_event harts 0 n → IsKey event → ⊥
drawn_no_key harts n event drawn is = no_key _ _ _ (subst (λ (e : Event). IsKey e) drawn is)

-- the event that is drawn
pub drawn_is : (n : ℕ) (script : Schedule) (event : Event) → HasDrawn n script → Some event ≡ next_event script → event ≡ auto_event (harts_of script) 0 n
drawn_is n script event has is = ap (λ (o : Option Event). unwrap_or o event) (is ∙ next_drawn n script has)
