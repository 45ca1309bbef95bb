-- The first word names the command, and the words after it have no dash.
use Rattle.std.proofs.Common.{◌≡◌, ◌∙◌, ◌≤◌, ◌-◌, Bool, false, ◌||◌, List, [], ◌∷◌, length, slice_index_or, take}
use Rattle.std.proofs.Common.{drop, map, cond, None, refl, ap, sym, arith, String, Global, string_bytes}
use Rattle.std.specs.List.{list_any}
use Rattle.std.proofs.lemmas.Bool.{or_parts}
use Rattle.std.proofs.lemmas.List.{take_all}
use Rattle.clap.specs.Words.{Text}
use Rattle.cli_plans.specs.Commands.{has_dash, name_of, named_by, named_shape, named_words}

pub list_any_map : {A B : Type 0} (p : B → Bool) (f : A → B) (xs : List A) → list_any p (map f xs) ≡ list_any (λ x. p (f x)) xs
list_any_map p f [] = refl
list_any_map p f (x ∷ xs) = ap (λ b. p (f x) || b) (list_any_map p f xs)

pub at_first : (words : List (String Global)) (first : String Global) (name : Text) → 1 ≤ length words → first ≡ slice_index_or words 0 first
    → name ≡ string_bytes first
    → map string_bytes words ≡ name ∷ map string_bytes (take (length words - 1) (drop 1 words))
at_first [] first name below is named = absurd (omega arith)
at_first (word ∷ rest) first name below is named =
    let all : take (length (word ∷ rest) - 1) rest ≡ rest = take_all (length (word ∷ rest) - 1) rest (omega arith) in
    ap (λ (t : Text). t ∷ map string_bytes rest) (sym (named ∙ ap string_bytes is)) ∙ ap (λ (ws : List (String Global)). name ∷ map string_bytes ws) (sym all)

-- no word after the first one has a dash
pub plain_rest : (words : List (String Global)) (name : Text) (rest : List Text) → map string_bytes words ≡ name ∷ rest
    → list_any (λ word. has_dash (string_bytes word)) words ≡ false → list_any has_dash rest ≡ false
plain_rest words name rest is plain =
    let all : list_any has_dash (name ∷ rest) ≡ false = ap (list_any has_dash) (sym is) ∙ list_any_map has_dash string_bytes words ∙ plain in
    (or_parts (has_dash name) (list_any has_dash rest) all).1

pub named_plain : (words : List (String Global)) (name : Text) (rest : List Text) → map string_bytes words ≡ name ∷ rest
    → list_any (λ word. has_dash (string_bytes word)) words ≡ false → named_words (map string_bytes words) ≡ named_by (name_of name) rest
unfolding named_words
named_plain words name rest is plain =
    let all : list_any has_dash (map string_bytes words) ≡ false = list_any_map has_dash string_bytes words ∙ plain in
    ap (λ b. cond b None (named_shape (map string_bytes words))) all ∙ ap named_shape is
