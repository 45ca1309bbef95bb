-- Lists whose items are printed one after another.
use Rattle.std.proofs.Common.{◌≡◌, ℕ, ◌+◌, ◌<◌, ◌≤◌, List, [], ◌∷◌, ◌++◌, length, map, take, get_or, Vec, Global, sym, ◌∙◌, ap}
use Rattle.std.proofs.lemmas.List.{map-append, map_more, take_all}
use Rattle.toml.proofs.Views.{view-Array}
use Rattle.toml.specs.Data.{Data, array}
use Rattle.toml.specs.View.{view, items_of}
use Rattle.toml.specs.declared.value.Value.{Value, Array}

module _ {A : Type 0} (print : A → Data) where
  pub printed_more : (values : List Value) (v : Value) (xs : List A) (i : ℕ) (x : A) → i < length xs → x ≡ get_or xs i x → view v ≡ print x →
      map view values ≡ map print (take i xs) → map view (values ++ v ∷ []) ≡ map print (take (i + 1) xs)
  printed_more values v xs i x within is here before =
      map-append view values (v ∷ [])
      ∙ ap (λ (ds : List Data). ds ++ view v ∷ []) before
      ∙ ap (λ (d : Data). map print (take i xs) ++ d ∷ []) (here ∙ ap print is)
      ∙ sym (map_more print xs i x within)

  pub printed_all : (values : Vec Value Global) (xs : List A) (i : ℕ) → length xs ≤ i → map view values.items ≡ map print (take i xs) → view (Array values) ≡ array (items_of (map print xs))
  printed_all values xs i all before = view-Array values ∙ ap (λ (ds : List Data). array (items_of ds)) (before ∙ ap (map print) (take_all i xs all))
