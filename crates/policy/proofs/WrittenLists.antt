-- Printed lists read back: each item is judged as it was when it was printed.
use Rattle.std.proofs.Common.{◌≡◌, suc, Bool, true, List, [], ◌∷◌, ◌++◌, length, map, Ok, refl, sym, ◌∙◌, ap}
use Rattle.std.proofs.lemmas.Bool.{and_parts}
use Rattle.std.proofs.lemmas.List.{append_assoc, append-nil}
use Rattle.std.proofs.lemmas.List.Elements.{All-head, All-tail}
use Rattle.std.specs.List.{All}
use Rattle.toml.specs.Data.{Data}
use Rattle.toml.specs.View.{items_of}
use Rattle.sv_types.specs.Policies.{each_within}
use Rattle.policy.specs.Refusals.{Judged}
use Rattle.policy.specs.Values.{each_item, items_length}
use Rattle.policy.proofs.Judging.{then_ok}

pub items_length-map : {A : Type 0} (print : A → Data) (xs : List A) → items_length (items_of (map print xs)) ≡ length xs
items_length-map print [] = refl
items_length-map print (x ∷ xs) = ap suc (items_length-map print xs)

module _ {A : Type 0} (judged : List A → Data → Judged A) (print : A → Data) (fits : List A → A → Bool) (Ranges : A → Type 0)
    (back : (before : List A) (x : A) → Ranges x → fits before x ≡ true → judged before (print x) ≡ Ok x) where
  pub each_item_back : (before xs : List A) → All Ranges xs → each_within fits before xs ≡ true →
      each_item judged before (items_of (map print xs)) ≡ Ok (before ++ xs)
  each_item_back before [] ranges within = ap Ok (sym (append-nil before))
  each_item_back before (x ∷ xs) ranges within =
      let parts = and_parts (fits before x) (each_within fits (before ++ x ∷ []) xs) within in
      let here : judged before (print x) ≡ Ok x = back before x (All-head Ranges x xs ranges) parts.0 in
      let rest : each_item judged (before ++ x ∷ []) (items_of (map print xs)) ≡ Ok ((before ++ x ∷ []) ++ xs) =
      each_item_back (before ++ x ∷ []) xs (All-tail Ranges x xs ranges) parts.1 in
      then_ok (judged before (print x)) (λ a. each_item judged (before ++ a ∷ []) (items_of (map print xs))) x _ here rest
      ∙ ap Ok (append_assoc before (x ∷ []) xs)
