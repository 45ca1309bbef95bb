-- The fields of a text in two parts, and then in pieces.
use Rattle.std.proofs.Common.{◌≡◌, ℕ, ◌+◌, ◌-◌, ◌%◌, ◌<◌, ◌≤◌, Bool, true, false, not, ◌&&◌, List, [], ◌∷◌, ◌++◌, length, refl, sym, ◌∙◌, ap, subst, arith, All, length-append}
use Rattle.sv_types.proofs.InPages.{IsWhole}
use Rattle.std.specs.Prelude.{nat_le, nat_lt, if◌then◌else◌}
use Rattle.std.specs.List.{concat}
use Rattle.std.proofs.Math.Bool.{and_assoc}
use Rattle.std.proofs.lemmas.Bool.Decides.{nat_tests}
use Rattle.std.proofs.lemmas.List.Elements.{All-head, All-tail}
use Rattle.spec_processor.specs.Bits.{without}
use Rattle.spec_processor.specs.Bytes.{low_bytes, write_word, page_size}
use Rattle.sv_types.specs.declared.module.Bases.{Bases}
use Rattle.sv_types.specs.declared.module.Site.{Site}
use Rattle.sv_types.specs.declared.policy.Export.{Export}
use Rattle.laws_processor.proofs.ByteLemmas.{length_low_bytes, length_write_word, word_in_front, word_after, overwrite_in_front, overwrite_after}
use Rattle.spec_reference.specs.Relocations.{field_of, field_bits, clear_field, masked_text, field_right, fields_right, site_value, cleared_value, width_of}
use Rattle.sv_types.specs.Policies.{field_end}
use Rattle.page_measure.specs.Pieces.{site_from, piece_sites, IsAligned}
use Rattle.page_measure.proofs.Sites.{ends_inside}
use Rattle.page_measure.specs.Laws.{MaskLaw, RightLaw, cleared_from, right_from}
use Rattle.sv_types.proofs.TruthValues.{and_swap}

-- the sites from a byte on, their offsets counted from there
unfoldable behind : ℕ → List Site → List Site
behind first [] = []
behind first (site ∷ sites) = if nat_le first site.offset then site_from first site ∷ behind first sites else behind first sites

-- what lies after a part lies after its start, and not in it
past : (first size offset : ℕ) (p q : Bool) → nat_le first offset ≡ p → nat_lt (offset - first) size ≡ q → nat_le (first + size) offset ≡ (p && not q)
past first size offset true true e f = grind (arith, nat_tests)
past first size offset true false e f = grind (arith, nat_tests)
past first size offset false q e f = grind (arith, nat_tests)

-- ---- one field, in a text of two parts

clear_front : (piece rest : List ℕ) (site : Site) → field_end site ≤ length piece → clear_field (piece ++ rest) site ≡ clear_field piece site ++ rest
unfolding clear_field
clear_front piece rest site fits =
    let bytes : List ℕ = low_bytes (width_of site) (cleared_value piece site) in
    let size : length bytes ≡ width_of site = length_low_bytes (width_of site) (cleared_value piece site) in
    ap (λ (w : ℕ). write_word (piece ++ rest) site.offset (width_of site) (without w (field_bits (field_of site.kind)))) (word_in_front piece rest site.offset (width_of site) fits)
    ∙ overwrite_in_front piece rest bytes site.offset (rw size fits)

length_cleared : (piece : List ℕ) (site : Site) → field_end site ≤ length piece → length (clear_field piece site) ≡ length piece
unfolding clear_field
length_cleared piece site fits = length_write_word piece site.offset (width_of site) (cleared_value piece site) fits

clear_after : (first size : ℕ) (piece rest : List ℕ) (site : Site) → length piece ≡ size → first + size ≤ site.offset
    → clear_field (piece ++ rest) (site_from first site) ≡ piece ++ clear_field rest (site_from (first + size) site)
unfolding clear_field
clear_after first size piece rest site len low =
    let at : ℕ = site.offset - (first + size) in
    let place : site.offset - first ≡ length piece + at = omega arith in
    let bytes : List ℕ = low_bytes (width_of site) (cleared_value rest (site_from (first + size) site)) in
    ap (λ (n : ℕ). clear_field (piece ++ rest) (record site { offset = n })) place
    ∙ ap (λ (w : ℕ). write_word (piece ++ rest) (length piece + at) (width_of site) (without w (field_bits (field_of site.kind)))) (word_after piece rest at (width_of site))
    ∙ overwrite_after piece rest bytes at

right_front : (exports : List Export) (bases : Bases) (piece rest : List ℕ) (site : Site) → field_end site ≤ length piece
    → field_right exports bases (piece ++ rest) site ≡ field_right exports bases piece site
unfolding field_right
right_front exports bases piece rest site fits = rw (word_in_front piece rest site.offset (width_of site) fits) refl

right_after : (exports : List Export) (bases : Bases) (first size : ℕ) (piece rest : List ℕ) (site : Site) → length piece ≡ size → first + size ≤ site.offset
    → field_right exports bases (piece ++ rest) (site_from first site) ≡ field_right exports bases rest (site_from (first + size) site)
unfolding field_right site_value
right_after exports bases first size piece rest site len low =
    let at : ℕ = site.offset - (first + size) in
    let place : site.offset - first ≡ length piece + at = omega arith in
    rw (place, word_after piece rest at (width_of site)) refl

-- ---- all fields, in a text of two parts

-- a part of whole pages
record IsPart (first size : ℕ) (sites : List Site) : Type 0 where
  start : first % page_size ≡ 0
  whole : size % page_size ≡ 0
  aligned : All IsAligned sites

one_masked : (first size : ℕ) (piece rest : List ℕ) (site : Site) (sites : List Site) (p q : Bool) → nat_le first site.offset ≡ p → nat_lt (site.offset - first) size ≡ q
    → IsPart first size (site ∷ sites) → length piece ≡ size
    → ((front : List ℕ) (back : List ℕ) → length front ≡ size → masked_text (front ++ back) (behind first sites) ≡
    masked_text front (piece_sites first size sites) ++ masked_text back (behind (first + size) sites))
    → masked_text (piece ++ rest) (behind first (site ∷ sites)) ≡ masked_text piece (piece_sites first size (site ∷ sites)) ++ masked_text rest (behind (first + size) (site ∷ sites))
unfolding masked_text behind piece_sites
one_masked first size piece rest site sites false q e f part len again = rw (e, past first size site.offset false q e f) (again piece rest len)
one_masked first size piece rest site sites true true e f part len again =
    let ends : field_end (site_from first site) ≤ size = ends_inside first size site (rw (e, f) refl) part.start part.whole (All-head IsAligned site sites part.aligned) in
    let fits : field_end (site_from first site) ≤ length piece = rw len ends in
    rw (e, f, past first size site.offset true true e f)
    (ap (λ (text : List ℕ). masked_text text (behind first sites)) (clear_front piece rest (site_from first site) fits)
    ∙ again (clear_field piece (site_from first site)) rest (length_cleared piece (site_from first site) fits ∙ len))
one_masked first size piece rest site sites true false e f part len again =
    rw (e, f, past first size site.offset true false e f)
    (ap (λ (text : List ℕ). masked_text text (behind first sites)) (clear_after first size piece rest site len (grind (arith, nat_tests)))
    ∙ again piece (clear_field rest (site_from (first + size) site)) len)

masked_parts : (first size : ℕ) (piece rest : List ℕ) (sites : List Site) → IsPart first size sites → length piece ≡ size
    → masked_text (piece ++ rest) (behind first sites) ≡ masked_text piece (piece_sites first size sites) ++ masked_text rest (behind (first + size) sites)
unfolding masked_text behind piece_sites
masked_parts first size piece rest [] part len = refl
masked_parts first size piece rest (site ∷ sites) part len =
    let left : IsPart first size sites = record { start = part.start; whole = part.whole; aligned = All-tail IsAligned site sites part.aligned } in
    one_masked first size piece rest site sites (nat_le first site.offset) (nat_lt (site.offset - first) size) refl refl part len
    (λ front back same. masked_parts first size front back sites left same)

one_right : (exports : List Export) (bases : Bases) (first size : ℕ) (piece rest : List ℕ) (site : Site) (sites : List Site) (p q : Bool) → nat_le first site.offset ≡ p →
    nat_lt (site.offset - first) size ≡ q
    → IsPart first size (site ∷ sites) → length piece ≡ size
    → fields_right exports bases (behind first sites) (piece ++ rest) ≡
    (fields_right exports bases (piece_sites first size sites) piece && fields_right exports bases (behind (first + size) sites) rest)
    → fields_right exports bases (behind first (site ∷ sites)) (piece ++ rest) ≡
    (fields_right exports bases (piece_sites first size (site ∷ sites)) piece && fields_right exports bases (behind (first + size) (site ∷ sites)) rest)
unfolding fields_right behind piece_sites
one_right exports bases first size piece rest site sites false q e f part len again = rw (e, past first size site.offset false q e f) again
one_right exports bases first size piece rest site sites true true e f part len again =
    let ends : field_end (site_from first site) ≤ size = ends_inside first size site (rw (e, f) refl) part.start part.whole (All-head IsAligned site sites part.aligned) in
    rw (e, f, past first size site.offset true true e f, right_front exports bases piece rest (site_from first site) (rw len ends), again)
    (sym (and_assoc (field_right exports bases piece (site_from first site)) _ _))
one_right exports bases first size piece rest site sites true false e f part len again =
    rw (e, f, past first size site.offset true false e f, right_after exports bases first size piece rest site len (grind (arith, nat_tests)), again)
    (and_swap (field_right exports bases rest (site_from (first + size) site)) _ _)

right_parts : (exports : List Export) (bases : Bases) (first size : ℕ) (piece rest : List ℕ) (sites : List Site) → IsPart first size sites → length piece ≡ size
    → fields_right exports bases (behind first sites) (piece ++ rest) ≡
    (fields_right exports bases (piece_sites first size sites) piece && fields_right exports bases (behind (first + size) sites) rest)
unfolding fields_right behind piece_sites
right_parts exports bases first size piece rest [] part len = refl
right_parts exports bases first size piece rest (site ∷ sites) part len =
    let left : IsPart first size sites = record { start = part.start; whole = part.whole; aligned = All-tail IsAligned site sites part.aligned } in
    one_right exports bases first size piece rest site sites (nat_le first site.offset) (nat_lt (site.offset - first) size) refl refl part len
    (right_parts exports bases first size piece rest sites left len)

-- ---- pieces

none_behind : (end : ℕ) (sites : List Site) → All (λ site. site.offset < end) sites → behind end sites ≡ []
unfolding behind
none_behind end [] all = refl
none_behind end (site ∷ sites) all =
    let lower : site.offset < end = All-head (λ (s : Site). s.offset < end) site sites all in
    let before : nat_le end site.offset ≡ false = grind (arith, nat_tests) in
    rw before (none_behind end sites (All-tail (λ (s : Site). s.offset < end) site sites all))

all_after : (sites : List Site) → behind 0 sites ≡ sites
unfolding behind
all_after [] = refl
all_after (site ∷ sites) =
    let there : nat_le 0 site.offset ≡ true = grind (arith, nat_tests) in
    let place : site.offset - 0 ≡ site.offset = omega arith in
    rw (there, place) (ap (◌∷◌ site) (all_after sites))

abbrev EndsAt : ℕ → List Site → Type 0
EndsAt end sites = All (λ site. site.offset < end) sites

next : (first : ℕ) (piece : List ℕ) (pieces : List (List ℕ)) → first + length (concat (piece ∷ pieces)) ≡ first + length piece + length (concat pieces)
next first piece pieces = rw length-append (omega arith)

masked_from : (first : ℕ) (pieces : List (List ℕ)) (sites : List Site) → first % page_size ≡ 0 → All IsWhole pieces → All IsAligned sites → EndsAt (first + length (concat pieces)) sites
    → concat (cleared_from first pieces sites) ≡ masked_text (concat pieces) (behind first sites)
unfolding cleared_from masked_text
masked_from first [] sites start whole aligned ends = rw (none_behind first sites (subst (λ (n : ℕ). EndsAt n sites) (omega arith) ends)) refl
masked_from first (piece ∷ pieces) sites start whole aligned ends =
    let size : length piece % page_size ≡ 0 = All-head IsWhole piece pieces whole in
    let rest = masked_from (first + length piece) pieces sites (omega arith) (All-tail IsWhole piece pieces whole) aligned (subst (λ (n : ℕ). EndsAt n sites) (next first piece pieces) ends) in
    ap (◌++◌ (masked_text piece (piece_sites first (length piece) sites))) rest
    ∙ sym (masked_parts first (length piece) piece (concat pieces) sites (record { start = start; whole = size; aligned = aligned }) refl)

pub mask_law : MaskLaw
mask_law pieces sites cut =
    masked_from 0 pieces sites refl cut.pages cut.aligned (subst (λ (n : ℕ). EndsAt n sites) (omega arith) cut.inside) ∙ ap (masked_text (concat pieces)) (all_after sites)

rights_from : (exports : List Export) (bases : Bases) (first : ℕ) (pieces : List (List ℕ)) (sites : List Site) → first % page_size ≡ 0 → All IsWhole pieces → All IsAligned sites →
    EndsAt (first + length (concat pieces)) sites
    → right_from exports bases first pieces sites ≡ fields_right exports bases (behind first sites) (concat pieces)
unfolding right_from fields_right
rights_from exports bases first [] sites start whole aligned ends = rw (none_behind first sites (subst (λ (n : ℕ). EndsAt n sites) (omega arith) ends)) refl
rights_from exports bases first (piece ∷ pieces) sites start whole aligned ends =
    let size : length piece % page_size ≡ 0 = All-head IsWhole piece pieces whole in
    let rest = rights_from exports bases (first + length piece) pieces sites (omega arith) (All-tail IsWhole piece pieces whole) aligned
    (subst (λ (n : ℕ). EndsAt n sites) (next first piece pieces) ends) in
    ap (λ (b : Bool). fields_right exports bases (piece_sites first (length piece) sites) piece && b) rest
    ∙ sym (right_parts exports bases first (length piece) piece (concat pieces) sites (record { start = start; whole = size; aligned = aligned }) refl)

pub right_law : RightLaw
right_law pieces sites exports bases cut =
    rights_from exports bases 0 pieces sites refl cut.pages cut.aligned (subst (λ (n : ℕ). EndsAt n sites) (omega arith) cut.inside) ∙
    ap (λ (l : List Site). fields_right exports bases l (concat pieces)) (all_after sites)
