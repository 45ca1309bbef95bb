-- Words that are watched.
use Rattle.std.proofs.Common.{◌≡◌, ℕ, zero, suc, ◌+◌, ◌<◌, ◌≤◌, ◌==◌, if◌then◌else◌, List, [], ◌∷◌, length, drop, refl, sym, ◌∙◌, ap, ap₂, Some, None, arith, true, false, Bool}
use Rattle.std.proofs.lemmas.Bool.{eqb-true}
use Rattle.std.proofs.lemmas.List.{drop_all}
use Rattle.std.specs.Prelude.{get_or}
use Rattle.debug_session.specs.Watches.{first_changed, watched}
use Rattle.debug_session.specs.declared.watches.Watch.{Watch}

no_words : (watches : List Watch) (ram : List ℕ) → first_changed watches [] ram ≡ None
unfolding first_changed
no_words [] ram = refl
no_words (w ∷ watches) ram = refl

-- after the last watch
pub all_same : (watches : List Watch) (before ram : List ℕ) → watches ≡ [] → first_changed watches before ram ≡ None
unfolding first_changed
all_same watches before ram none = ap (λ ws. first_changed ws before ram) none

-- no word was before
pub none_before : (watches : List Watch) (before ram : List ℕ) (i : ℕ) → length before ≤ i → first_changed (drop i watches) (drop i before) ram ≡ None
none_before watches before ram i over = ap (λ bs. first_changed (drop i watches) bs ram) (drop_all i before over) ∙ no_words (drop i watches) ram

-- one watch further
pub one_further : (watches : List Watch) (before ram : List ℕ) (i : ℕ) (default : Watch) → i < length watches → i < length before →
    first_changed (drop i watches) (drop i before) ram
    ≡ (if watched ram (get_or watches i default) == get_or before i 0 then first_changed (drop (i + 1) watches) (drop (i + 1) before) ram
    else Some (get_or watches i default).address)
unfolding first_changed
one_further [] before ram i default some more = absurd (omega (arith, some))
one_further (w ∷ watches) [] ram i default some more = absurd (omega (arith, more))
one_further (w ∷ watches) (b ∷ before) ram zero default some more = refl
one_further (w ∷ watches) (b ∷ before) ram (suc i) default some more =
    let place : suc i + 1 ≡ suc (i + 1) = omega arith in
    one_further watches before ram i default (omega (arith, some)) (omega (arith, more))
    ∙ ap₂ (λ ws bs. if watched ram (get_or watches i default) == get_or before i 0 then first_changed ws bs ram else Some (get_or watches i default).address)
    (sym (ap (λ n. drop n (w ∷ watches)) place)) (sym (ap (λ n. drop n (b ∷ before)) place))

pub unlike : (a b : ℕ) → (a ≡ b → ⊥) → (a == b) ≡ false
unlike a b not = go (a == b) refl
  where
    go : (same : Bool) → (a == b) ≡ same → same ≡ false
    go true is = absurd (not (eqb-true a b is))
    go false is = refl
