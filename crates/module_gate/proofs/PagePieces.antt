-- The sites of a page are those of the piece at its place.
use Rattle.std.proofs.Common.{◌≡◌, ℕ, ◌-◌, ◌*◌, ◌/◌, ◌<◌, ◌≤◌, List, [], ◌∷◌, refl, sym, ◌∙◌, ap, Bool, true, false, ◌&&◌, arith}
use Rattle.spec_processor.specs.Bytes.{page_size}
use Rattle.std.specs.Prelude.{nat_le, nat_lt, ◌==◌, if◌then◌else◌}
use Rattle.std.proofs.lemmas.Bool.{eqb-true, eq-eqb}
use Rattle.std.proofs.lemmas.Bool.Decides.{nat_tests}
use Rattle.sv_types.specs.declared.module.Site.{Site}
use Rattle.spec_hardware.specs.HwExits.{page_sites, moved_site, is_site_in}
use Rattle.page_measure.specs.Pieces.{piece_sites, lies_in}

same_place : (n k : ℕ) (low high here : Bool) → nat_le (page_size * n) k ≡ low → nat_lt (k - page_size * n) page_size ≡ high → (k / page_size == n) ≡ here → (low && high) ≡ here
same_place n k true true true a b c = refl
same_place n k true true false a b c =
    let below : k - page_size * n < page_size = grind (arith, nat_tests) in
    let from : page_size * n ≤ k = grind (arith, nat_tests) in
    let same : k / page_size ≡ n = omega (arith, below, from) in sym (eq-eqb (k / page_size) n same) ∙ c
same_place n k true false true a b c =
    let above : page_size ≤ k - page_size * n = grind (arith, nat_tests) in
    let same : k / page_size ≡ n = eqb-true (k / page_size) n c in absurd (omega (arith, above, same))
same_place n k true false false a b c = refl
same_place n k false high true a b c =
    let below : k < page_size * n = grind (arith, nat_tests) in
    let same : k / page_size ≡ n = eqb-true (k / page_size) n c in absurd (omega (arith, below, same))
same_place n k false high false a b c = refl

pub piece_is_page : (n : ℕ) (sites : List Site) → piece_sites (page_size * n) page_size sites ≡ page_sites n sites
unfolding piece_sites page_sites
piece_is_page n [] = refl
piece_is_page n (site ∷ sites) =
    let same : lies_in (page_size * n) page_size site ≡
    is_site_in n site = same_place n site.offset (nat_le (page_size * n) site.offset) (nat_lt (site.offset - page_size * n) page_size) (is_site_in n site) refl refl refl in
    ap (λ (b : Bool). if b then moved_site n site ∷ piece_sites (page_size * n) page_size sites else piece_sites (page_size * n) page_size sites) same
    ∙ ap (λ (rest : List Site). if is_site_in n site then moved_site n site ∷ rest else rest) (piece_is_page n sites)
