-- Lists whose items are judged one after another.
use Rattle.std.proofs.Common.{◌≡◌, ℕ, suc, ◌+◌, ◌<◌, List, [], ◌∷◌, ◌++◌, length, drop, get_or, refl, sym, ◌∙◌, ap, Ok, Err}
use Rattle.toml.proofs.Views.{items_view-drop}
use Rattle.toml.specs.Data.{Data}
use Rattle.toml.specs.View.{view, items_view}
use Rattle.toml.specs.declared.value.Value.{Value}
use Rattle.policy_limits.specs.declared.policy_fault.PolicyFault.{PolicyFault}
use Rattle.sv_types.specs.Steps.{◌>>=◌}
use Rattle.policy.specs.Refusals.{Judged}
use Rattle.policy.specs.Values.{each_item, items_length}

pub items_length_view : (vs : List Value) → items_length (items_view vs) ≡ length vs
items_length_view [] = refl
items_length_view (v ∷ vs) = ap suc (items_length_view vs)

module _ {A : Type 0} (judged : List A → Data → Judged A) where
  -- the item at i is judged first
  pub each_item_at : (before : List A) (vs : List Value) (i : ℕ) (d : Value) → i < length vs →
      each_item judged before (items_view (drop i vs)) ≡ (judged before (view (get_or vs i d)) >>= λ a. each_item judged (before ++ a ∷ []) (items_view (drop (i + 1) vs)))
  each_item_at before vs i d within = ap (each_item judged before) (items_view-drop vs i d within)

  pub each_item_next : (before : List A) (vs : List Value) (i : ℕ) (v : Value) (a : A) → i < length vs → v ≡ get_or vs i v → judged before (view v) ≡ Ok a →
      each_item judged before (items_view (drop i vs)) ≡ each_item judged (before ++ a ∷ []) (items_view (drop (i + 1) vs))
  each_item_next before vs i v a within is good =
      each_item_at before vs i v within
      ∙ ap (λ (x : Value). judged before (view x) >>= λ a. each_item judged (before ++ a ∷ []) (items_view (drop (i + 1) vs))) (sym is)
      ∙ ap (λ (r : Judged A). r >>= λ a. each_item judged (before ++ a ∷ []) (items_view (drop (i + 1) vs))) good

  pub each_item_refused : (before : List A) (vs : List Value) (i : ℕ) (v : Value) (fault : PolicyFault) → i < length vs → v ≡ get_or vs i v → judged before (view v) ≡ Err fault →
      each_item judged before (items_view (drop i vs)) ≡ Err fault
  each_item_refused before vs i v fault within is bad =
      each_item_at before vs i v within ∙ rw (← is, bad) refl
