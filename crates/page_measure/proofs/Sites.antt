-- Sites, one after another.
use Rattle.std.proofs.Common.{◌≡◌, ℕ, ◌+◌, ◌-◌, ◌%◌, ◌<◌, ◌≤◌, Bool, true, false, List, ◌∷◌, length, drop, get_or, inl, inr, ◌⊎◌, refl, ap, sym, ◌∙◌, arith}
use Rattle.spec_processor.specs.Bytes.{page_size}
use Rattle.std.specs.Prelude.{◌&&◌, nat_le, nat_lt, if◌then◌else◌}
use Rattle.std.proofs.lemmas.Bool.{and_parts}
use Rattle.std.proofs.lemmas.Bool.Decides.{nat_tests}
use Rattle.std.proofs.lemmas.List.{drop_more}
use Rattle.std.proofs.Math.ListN.{drop_of_length-le}
use Rattle.sv_types.specs.declared.module.Bases.{Bases}
use Rattle.sv_types.specs.declared.module.Site.{Site}
use Rattle.sv_types.specs.declared.policy.Export.{Export}
use Rattle.spec_reference.specs.Relocations.{width_of, clear_field, field_right, masked_text, fields_right}
use Rattle.spec_reference.proofs.FieldWidths.{sizes}
use Rattle.sv_types.specs.Policies.{field_end}
use Rattle.page_measure.specs.Pieces.{lies_in, site_from, piece_sites, IsAligned}
use Rattle.page_measure.specs.Steps.{cleared_in_piece, right_in_piece}

-- a field that begins in whole pages ends there
ends_by : (first size offset width : ℕ) → (width ≡ 4) ⊎ (width ≡ 8) → nat_le first offset && nat_lt (offset - first) size ≡ true → first % page_size ≡ 0 → size % page_size ≡ 0
    → offset % width ≡ 0 → offset - first + width ≤ size
ends_by first size offset width (inl four) inside start whole aligned =
    let parts = and_parts (nat_le first offset) (nat_lt (offset - first) size) inside in
    let place : offset % 4 ≡ 0 = rw four at aligned in
    rw four (grind (arith, nat_tests))
ends_by first size offset width (inr eight) inside start whole aligned =
    let parts = and_parts (nat_le first offset) (nat_lt (offset - first) size) inside in
    let place : offset % 8 ≡ 0 = rw eight at aligned in
    rw eight (grind (arith, nat_tests))

pub ends_inside : (first size : ℕ) (site : Site) → lies_in first size site ≡ true → first % page_size ≡ 0 → size % page_size ≡ 0 → IsAligned site
    → field_end (site_from first site) ≤ size
ends_inside first size site inside start whole aligned =
    ends_by first size site.offset (width_of site) (sizes site.kind) inside start whole aligned

cleared_by : (first size : ℕ) (text : List ℕ) (site : Site) (rest : List Site) (b : Bool) → lies_in first size site ≡ b
    → masked_text (if b then clear_field text (site_from first site) else text) (piece_sites first size rest) ≡ masked_text text (piece_sites first size (site ∷ rest))
unfolding masked_text piece_sites
cleared_by first size text site rest true e = rw e refl
cleared_by first size text site rest false e = rw e refl

judged_by : (exports : List Export) (bases : Bases) (first size : ℕ) (text : List ℕ) (site : Site) (rest : List Site) (b : Bool) → lies_in first size site ≡ b
    → fields_right exports bases (piece_sites first size (site ∷ rest)) text
    ≡ ((if b then field_right exports bases text (site_from first site) else true) && fields_right exports bases (piece_sites first size rest) text)
unfolding fields_right piece_sites
judged_by exports bases first size text site rest true e = rw e refl
judged_by exports bases first size text site rest false e = rw e refl

pub front : (sites : List Site) (i : ℕ) (d : Site) → i < length sites → drop i sites ≡ get_or sites i d ∷ drop (i + 1) sites
front sites i d within = drop_more sites i d within

-- the first of the sites that are left is cleared or judged, and then the rest
pub one_cleared : (first : ℕ) (text : List ℕ) (sites : List Site) (i : ℕ) (d : Site) → i < length sites
    → masked_text (cleared_in_piece first text (get_or sites i d)) (piece_sites first (length text) (drop (i + 1) sites)) ≡ masked_text text (piece_sites first (length text) (drop i sites))
one_cleared first text sites i d within =
    cleared_by first (length text) text (get_or sites i d) (drop (i + 1) sites) (lies_in first (length text) (get_or sites i d)) refl
    ∙ ap (λ (l : List Site). masked_text text (piece_sites first (length text) l)) (sym (front sites i d within))

pub one_judged : (exports : List Export) (bases : Bases) (first : ℕ) (text : List ℕ) (sites : List Site) (i : ℕ) (d : Site) → i < length sites
    → fields_right exports bases (piece_sites first (length text) (drop i sites)) text
    ≡ (right_in_piece exports bases first text (get_or sites i d) && fields_right exports bases (piece_sites first (length text) (drop (i + 1) sites)) text)
one_judged exports bases first text sites i d within =
    ap (λ (l : List Site). fields_right exports bases (piece_sites first (length text) l) text) (front sites i d within)
    ∙ judged_by exports bases first (length text) text (get_or sites i d) (drop (i + 1) sites) (lies_in first (length text) (get_or sites i d)) refl

pub none_cleared : (first size : ℕ) (text : List ℕ) (sites : List Site) (n : ℕ) → length sites ≤ n → masked_text text (piece_sites first size (drop n sites)) ≡ text
unfolding masked_text piece_sites
none_cleared first size text sites n past = rw (drop_of_length-le sites past) refl

pub none_judged : (exports : List Export) (bases : Bases) (first size : ℕ) (text : List ℕ) (sites : List Site) (n : ℕ) → length sites ≤ n
    → fields_right exports bases (piece_sites first size (drop n sites)) text ≡ true
unfolding fields_right piece_sites
none_judged exports bases first size text sites n past = rw (drop_of_length-le sites past) refl
