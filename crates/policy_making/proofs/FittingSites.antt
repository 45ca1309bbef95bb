-- The fields of a module that is within its limits are aligned, and lie in its text.
use Rattle.std.proofs.Common.{◌≡◌, ℕ, ◌-◌, ◌*◌, ◌%◌, ◌<◌, Bool, true, ◌&&◌, List, [], ◌∷◌, ◌++◌, length, refl, ap, ◌∙◌, arith, All}
use Rattle.spec_processor.specs.Bytes.{page_size}
use Rattle.std.specs.Prelude.{nat_lt, ◌==◌, if◌then◌else◌}
use Rattle.std.proofs.lemmas.Bool.{and_parts}
use Rattle.std.proofs.lemmas.Bool.Decides.{nat_tests}
use Rattle.sv_types.specs.Policies.{module_pages_within, sites_count_within, sites_within, each_within, next_site_within, site_within, is_after, place_within}
use Rattle.sv_types.specs.declared.module.Site.{Site}
use Rattle.page_measure.specs.Pieces.{piece_sites, lies_in, site_from, IsAligned}
use Rattle.elf64_reloc.specs.Modules.{Module, module_fits, pages_of}
use Rattle.page_measure.proofs.RulesWithin.{sites_aligned, site_parts}

-- ---- one field

inside : (pages exports : ℕ) (before : List Site) (site : Site) → next_site_within pages exports before site ≡ true → place_within pages site.offset ≡ true
inside pages exports before site within =
    (site_parts pages exports site (and_parts (site_within pages exports site) (is_after before site) within).0).0

lies : (text : List ℕ) (site : Site) → place_within (pages_of text) site.offset ≡ true → lies_in 0 (length text) site ≡ true
lies text site at =
    let below = (and_parts (site.offset % 4 == 0) (nat_lt site.offset (page_size * pages_of text)) at).1 in
    let before : site.offset < length text = grind (arith, nat_tests) in
    grind (arith, nat_tests)

moved_by_none : (site : Site) → site_from 0 site ≡ site
moved_by_none site =
    let same : site.offset - 0 ≡ site.offset = omega arith in
    ap (λ (n : ℕ). let one : Site = record site { offset = n } in one) same

-- ---- all of them

all_lie_in : (text : List ℕ) (exports : ℕ) (before sites : List Site) → each_within (next_site_within (pages_of text) exports) before sites ≡ true → piece_sites 0 (length text) sites ≡ sites
unfolding piece_sites
all_lie_in text exports before [] within = refl
all_lie_in text exports before (site ∷ sites) within =
    let parts = and_parts (next_site_within (pages_of text) exports before site) (each_within (next_site_within (pages_of text) exports) (before ++ site ∷ []) sites) within in
    ap (λ (b : Bool). if b then site_from 0 site ∷ piece_sites 0 (length text) sites else piece_sites 0 (length text) sites) (lies text site (inside (pages_of text) exports before site parts.0))
    ∙ ap (λ (one : Site). one ∷ piece_sites 0 (length text) sites) (moved_by_none site)
    ∙ ap (λ (rest : List Site). site ∷ rest) (all_lie_in text exports (before ++ site ∷ []) sites parts.1)

-- ---- of a module

front_fits : (exports : ℕ) (m : Module) → module_fits exports m ≡ true → (module_pages_within (pages_of m.text) && sites_count_within 0 (length m.sites)) ≡ true
front_fits exports m fits = (and_parts (module_pages_within (pages_of m.text) && sites_count_within 0 (length m.sites)) (sites_within (pages_of m.text) exports m.sites) fits).0

fields_fit : (exports : ℕ) (m : Module) → module_fits exports m ≡ true → sites_within (pages_of m.text) exports m.sites ≡ true
fields_fit exports m fits = (and_parts (module_pages_within (pages_of m.text) && sites_count_within 0 (length m.sites)) (sites_within (pages_of m.text) exports m.sites) fits).1

pub fitting_pages : (exports : ℕ) (m : Module) → module_fits exports m ≡ true → module_pages_within (pages_of m.text) ≡ true
fitting_pages exports m fits = (and_parts (module_pages_within (pages_of m.text)) (sites_count_within 0 (length m.sites)) (front_fits exports m fits)).0

pub fitting_inside : (exports : ℕ) (m : Module) → module_fits exports m ≡ true → piece_sites 0 (length m.text) m.sites ≡ m.sites
fitting_inside exports m fits = all_lie_in m.text exports [] m.sites (fields_fit exports m fits)

pub fitting_aligned : (exports : ℕ) (m : Module) → module_fits exports m ≡ true → All IsAligned m.sites
fitting_aligned exports m fits = sites_aligned (pages_of m.text) exports [] m.sites (fields_fit exports m fits)
