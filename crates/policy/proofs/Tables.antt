-- The keys of a table.
use Rattle.std.proofs.Common.{◌≡◌, ℕ, List, [], ◌∷◌, Bool, not, ◌||◌, String, Global, string_bytes, refl, ap}
use Rattle.std.specs.List.{list_any}
use Rattle.std.specs.Str.{bytes_eq}
use Rattle.std.specs.Map.{keys_of}
use Rattle.toml.proofs.Views.{Entry}
use Rattle.toml.specs.View.{members_view}
use Rattle.policy.specs.Values.{has_unknown}

pub has_unknown_of_keys : (keys : List (List ℕ)) (es : List Entry) → has_unknown keys (members_view es) ≡ list_any (λ (k : String Global). not (list_any (bytes_eq (string_bytes k)) keys)) (keys_of es)
has_unknown_of_keys keys [] = refl
has_unknown_of_keys keys (e ∷ es) = ap (λ (b : Bool). not (list_any (bytes_eq (string_bytes e.0)) keys) || b) (has_unknown_of_keys keys es)
