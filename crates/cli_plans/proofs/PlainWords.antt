-- Words without a dash go to the positionals, whatever they are.
use Rattle.std.proofs.Common.{◌≡◌, ◌∙◌, ◌⊎◌, inl, inr, ◌&&◌, Bool, true, false, cond, List, [], ◌∷◌, Option, Some, None, refl, ap, ap₂, ◌==◌}
use Rattle.std.specs.List.{list_any, fold, find}
use Rattle.std.specs.Option.{option_map_or}
use Rattle.std.specs.Str.{bytes_eq}
use Rattle.std.proofs.lemmas.Bool.{or_parts}
use Rattle.clap.specs.Words.{Rule, Shape, Text}
use Rattle.clap.specs.Lexer.{long_of, short_of}
use Rattle.clap.specs.Takes.{step_passes, turn_passes, walk_passes}
use Rattle.clap.specs.Walk.{Walk, idle, positional, value, walked, to_positional, arg_by_index, is_multiple}
use Rattle.cli_plans.specs.Commands.{hyphen, has_dash}

abbrev pub NoDash : Text → Type 0
NoDash word = has_dash word ≡ false

no_hyphens : (word : Text) → NoDash word → bytes_eq word (hyphen ∷ hyphen ∷ []) ≡ false
no_hyphens [] plain = refl
no_hyphens (c ∷ rest) plain = rw plain refl

no_long : (word : Text) → NoDash word → long_of word ≡ None
no_long [] plain = refl
no_long (c ∷ rest) plain = rw plain refl

no_short : (word : Text) → NoDash word → short_of word ≡ None
no_short [] plain = refl
no_short (c ∷ rest) plain = rw plain refl

-- the next word may go to a positional
pub record IsOn (w : Walk) : Type 0 where
  pub waiting : (w.waiting ≡ idle) ⊎ (w.waiting ≡ positional)
  pub is_trailing : w.is_trailing ≡ false
  pub stopped : w.stopped ≡ None

-- the walk after a word that goes to the positional whose turn it is
abbrev pub walk_after : List Rule → Walk → Text → Walk
walk_after c w word = to_positional c (arg_by_index c w.position) word w w.held

placed_is : (c : List Rule) (w : Walk) (word : Text) → IsOn w → NoDash word → walked c [] w word ≡ walk_after c w word
unfolding walked
placed_is c w word on plain = elim on.waiting as (λ _. walked c [] w word ≡ walk_after c w word) [
  | inl e ↦ rw (on.stopped, on.is_trailing, e, no_hyphens word plain, no_long word plain, no_short word plain) refl
  | inr e ↦ rw (on.stopped, on.is_trailing, e, no_hyphens word plain, no_long word plain, no_short word plain) refl
]

turn_is : (s : Shape) (w : Walk) (word : Text) → IsOn w → NoDash word → turn_passes s [] w word ≡ step_passes s w.position w.held value
turn_is s w word on plain = elim on.waiting as (λ _. turn_passes s [] w word ≡ step_passes s w.position w.held value) [
  | inl e ↦ rw (on.stopped, on.is_trailing, e, no_hyphens word plain, no_long word plain, no_short word plain) refl
  | inr e ↦ rw (on.stopped, on.is_trailing, e, no_hyphens word plain, no_long word plain, no_short word plain) refl
]

-- no positional makes the words after it values
abbrev is_trailing_rule : Rule → Bool
is_trailing_rule a = a.trailing_var_arg

abbrev trails : Option Rule → Bool
trails found = option_map_or is_trailing_rule found false

abbrev pub NoneTrails : List Rule → Type 0
NoneTrails c = list_any is_trailing_rule c ≡ false

trails_at : (b : Bool) (a : Rule) (found : Option Rule) → a.trailing_var_arg ≡ false → trails found ≡ false → trails (cond b (Some a) found) ≡ false
trails_at true a found here later = here
trails_at false a found here later = later

find_trails : (p : Rule → Bool) (c : List Rule) → NoneTrails c → trails (find p c) ≡ false
find_trails p [] none = refl
find_trails p (a ∷ rest) none =
    let parts = or_parts a.trailing_var_arg (list_any is_trailing_rule rest) none in
    trails_at (p a) a (find p rest) parts.0 (find_trails p rest parts.1)

to_positional_on : (c : List Rule) (found : Option Rule) (w : Walk) (word : Text) → IsOn w → trails found ≡ false → IsOn (to_positional c found word w w.held)
to_positional_on c None w word on plain = record { waiting = on.waiting; is_trailing = on.is_trailing; stopped = on.stopped }
to_positional_on c (Some a) w word on plain = record {
  waiting = go (is_multiple a);
  is_trailing = rw (on.is_trailing, plain) refl;
  stopped = refl;
}
  where
    go : (b : Bool) → (cond b positional idle ≡ idle) ⊎ (cond b positional idle ≡ positional)
    go true = inr refl
    go false = inl refl

placed_on : (c : List Rule) (w : Walk) (word : Text) → NoneTrails c → IsOn w → IsOn (walk_after c w word)
placed_on c w word none on = to_positional_on c (arg_by_index c w.position) w word on (find_trails (λ a. option_map_or (λ k. k == w.position) a.index false) c none)

-- the walk over plain words
pub walk_is : (c : List Rule) (w : Walk) (words : List Text) → NoneTrails c → IsOn w → list_any has_dash words ≡ false → fold (walked c []) w words ≡ fold (walk_after c) w words
walk_is c w [] none on plain = refl
walk_is c w (word ∷ rest) none on plain =
    let parts = or_parts (has_dash word) (list_any has_dash rest) plain in
    ap (λ v. fold (walked c []) v rest) (placed_is c w word on parts.0) ∙ walk_is c (walk_after c w word) rest none (placed_on c w word none on) parts.1

-- the words find their positionals
abbrev pub placed_pass : Shape → Walk → List Text → Bool
placed_pass s w [] = true
placed_pass s w (word ∷ rest) = step_passes s w.position w.held value && placed_pass s (walk_after s.rules w word) rest

pub pass_is : (s : Shape) (w : Walk) (words : List Text) → NoneTrails s.rules → IsOn w → list_any has_dash words ≡ false → walk_passes s [] w words ≡ placed_pass s w words
unfolding walk_passes
pass_is s w [] none on plain = refl
pass_is s w (word ∷ rest) none on plain =
    let parts = or_parts (has_dash word) (list_any has_dash rest) plain in
    let later : walk_passes s [] (walked s.rules [] w word) rest ≡ placed_pass s (walk_after s.rules w word) rest =
    ap (λ v. walk_passes s [] v rest) (placed_is s.rules w word on parts.0) ∙ pass_is s (walk_after s.rules w word) rest none (placed_on s.rules w word none on) parts.1 in
    ap₂ (λ a b. a && b) (turn_is s w word on parts.0) later
