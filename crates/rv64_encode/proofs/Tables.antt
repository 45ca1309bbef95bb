-- Tables of names.
use Rattle.std.proofs.Common.{◌≡◌, ℕ, List, map, slice_get}
use Rattle.std.specs.Prelude.{option_map}
use Rattle.std.proofs.lemmas.Option.{slice_get-map}

pub slice_get_map : {A B : Type 0} (f : A → B) (xs : List A) (k : ℕ) → slice_get (map f xs) k ≡ option_map f (slice_get xs k)
slice_get_map f xs k = slice_get-map f xs k
