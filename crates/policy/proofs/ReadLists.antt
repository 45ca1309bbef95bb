-- What is read from a list is within the limits that its items were judged by.
use Rattle.std.proofs.Common.{◌≡◌, ℕ, suc, Bool, true, List, [], ◌∷◌, ◌++◌, length, Ok, refl, sym, ◌∙◌, ap}
use Rattle.std.proofs.lemmas.List.{append_assoc, append-nil}
use Rattle.std.specs.Cmp.Derive.{both_true}
use Rattle.toml.specs.Data.{Data, Items, no_items, item}
use Rattle.sv_types.specs.Policies.{each_within}
use Rattle.sv_types.specs.Steps.{◌>>=◌}
use Rattle.policy.specs.Refusals.{Judged}
use Rattle.policy.specs.Values.{if_within_limit, each_item, items_in, items_length}
use Rattle.policy.proofs.Judging.{bind_ok, ok_same, limited_ok}

module _ {A : Type 0} (judged : List A → Data → Judged A) (fits : List A → A → Bool)
    (one : (before : List A) (d : Data) (a : A) → judged before d ≡ Ok a → fits before a ≡ true) where
  each_within_after : (before : List A) (items : Items) (xs : List A) → each_item judged before items ≡ Ok xs →
      (ys : List A) × (before ++ ys ≡ xs) × (length ys ≡ items_length items) × (each_within fits before ys ≡ true)
  each_within_after before no_items xs read = ([], append-nil before ∙ ok_same before xs read, refl, refl)
  each_within_after before (item d items) xs read =
      let first = bind_ok (judged before d) (λ a. each_item judged (before ++ a ∷ []) items) xs read in
      let rest = each_within_after (before ++ first.0 ∷ []) items xs first.2 in (
        first.0 ∷ rest.0,
        sym (append_assoc before (first.0 ∷ []) rest.0) ∙ rest.1,
        ap suc rest.2,
        both_true (one before d first.0 first.1) rest.3,
      )

  pub each_within_read : (items : Items) (xs : List A) → each_item judged [] items ≡ Ok xs → (length xs ≡ items_length items) × (each_within fits [] xs ≡ true)
  each_within_read items xs read =
      let all = each_within_after [] items xs read in
      (sym (ap length all.1) ∙ all.2, sym (ap (each_within fits []) all.1) ∙ all.3)

  -- a list whose length is limited, and each of whose items is judged
  pub limited_read : (count : ℕ → Bool) (d : Data) (xs : List A) → (items_in d >>= λ items. if_within_limit (count (items_length items)) items >>= each_item judged []) ≡ Ok xs →
      (count (length xs) ≡ true) × (each_within fits [] xs ≡ true)
  limited_read count d xs read =
      let items = bind_ok (items_in d) _ xs read in
      let few = bind_ok (if_within_limit (count (items_length items.0)) items.0) (each_item judged []) xs items.2 in
      let fit = limited_ok (count (items_length items.0)) items.0 few.0 few.1 in
      let all = each_within_read few.0 xs few.2 in
      (ap count (all.0 ∙ ap items_length (sym fit.1)) ∙ fit.0, all.1)
