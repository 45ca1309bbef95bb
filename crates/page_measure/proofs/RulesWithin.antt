-- What the limits of a policy say of its sites.
use Rattle.std.proofs.Common.{◌≡◌, ℕ, ◌%◌, List, [], ◌∷◌, ◌++◌, true, ◌&&◌}
use Rattle.std.specs.Prelude.{All}
use Rattle.std.proofs.lemmas.Bool.{and_parts, eqb-true}
use Rattle.std.proofs.lemmas.List.Elements.{All-nil, All-cons}
use Rattle.sv_types.specs.Policies.{each_within, next_site_within, site_within, is_after, place_within, is_aligned, base_within, anchor_within, site_size}
use Rattle.sv_types.specs.declared.module.Site.{Site}
use Rattle.page_measure.specs.Pieces.{IsAligned}

-- it begins in the text, at a multiple of its field's bytes
pub site_parts : (pages exports : ℕ) (site : Site) → site_within pages exports site ≡ true → (place_within pages site.offset ≡ true) × (is_aligned site.kind site.offset ≡ true)
site_parts pages exports site within =
    let a = and_parts (place_within pages site.offset && is_aligned site.kind site.offset && base_within exports site.base) (anchor_within pages site.kind site.offset site.anchor) within in
    let b = and_parts (place_within pages site.offset && is_aligned site.kind site.offset) (base_within exports site.base) a.0 in
    and_parts (place_within pages site.offset) (is_aligned site.kind site.offset) b.0

site_aligned : (pages exports : ℕ) (site : Site) → site_within pages exports site ≡ true → IsAligned site
site_aligned pages exports site within = eqb-true (site.offset % site_size site.kind) 0 (site_parts pages exports site within).1

pub sites_aligned : (pages exports : ℕ) (before sites : List Site) → each_within (next_site_within pages exports) before sites ≡ true → All IsAligned sites
sites_aligned pages exports before [] within = All-nil IsAligned
sites_aligned pages exports before (site ∷ sites) within =
    let parts = and_parts (next_site_within pages exports before site) (each_within (next_site_within pages exports) (before ++ site ∷ []) sites) within in
    All-cons IsAligned site sites
    (site_aligned pages exports site (and_parts (site_within pages exports site) (is_after before site) parts.0).0)
    (sites_aligned pages exports (before ++ site ∷ []) sites parts.1)
