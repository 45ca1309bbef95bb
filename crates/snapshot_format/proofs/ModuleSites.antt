-- The fields of a policy's module lie in its text.
use Rattle.std.proofs.Common.{◌≡◌, ℕ, ◌-◌, ◌*◌, ◌%◌, ◌<◌, ◌≤◌, List, [], ◌∷◌, ◌++◌, length, refl, ◌∙◌, ap, Bool, true, ◌&&◌, slice_get, arith}
use Rattle.std.specs.Prelude.{All, Some, IsTrue, nat_le, nat_lt, ◌==◌, if◌then◌else◌}
use Rattle.std.specs.List.{list_all}
use Rattle.std.proofs.lemmas.Bool.{and_parts, eqb-true}
use Rattle.std.proofs.lemmas.Bool.Decides.{nat_tests}
use Rattle.std.proofs.lemmas.List.Elements.{All-nil, All-cons, All-head, All-tail}
use Rattle.spec_processor.specs.Bytes.{page_size}
use Rattle.sv_types.specs.Limits.{max_module_pages}
use Rattle.sv_types.specs.Policies.{Rules, ModuleRule, rules_within, each_within, next_site_within, site_within, is_after}
use Rattle.sv_types.specs.declared.module.Site.{Site}
use Rattle.page_measure.specs.Pieces.{piece_sites, lies_in, site_from}
use Rattle.spec_reference.specs.declared.saved_machine.harts.SavedHart.{SavedHart}
use Rattle.snapshot_format.specs.Snapshots.{Contents}
use Rattle.snapshot_format.specs.Judgements.{fits, is_bound, is_of_policy, load_fits}
use Rattle.snapshot_format.specs.ModuleSites.{LieIn}
use Rattle.page_measure.proofs.RulesWithin.{sites_aligned, site_parts}
use Rattle.snapshot_format.proofs.FormLaws.{first_true, second_true}
use Rattle.sv_types.proofs.PolicyLimits.{rule_within}

abbrev IsInside : ℕ → Site → Type 0
IsInside bytes site = site.offset < bytes

-- ---- one site, and all of a module

site_inside : (pages exports : ℕ) (site : Site) → site_within pages exports site ≡ true → IsInside (page_size * pages) site
site_inside pages exports site within =
    let below = (and_parts (site.offset % 4 == 0) (nat_lt site.offset (page_size * pages)) (site_parts pages exports site within).0).1 in
    grind (arith, nat_tests)

sites_inside : (pages exports : ℕ) (before sites : List Site) → each_within (next_site_within pages exports) before sites ≡ true → All (IsInside (page_size * pages)) sites
sites_inside pages exports before [] within = All-nil (IsInside (page_size * pages))
sites_inside pages exports before (site ∷ sites) within =
    let parts = and_parts (next_site_within pages exports before site) (each_within (next_site_within pages exports) (before ++ site ∷ []) sites) within in
    All-cons (IsInside (page_size * pages)) site sites
    (site_inside pages exports site (and_parts (site_within pages exports site) (is_after before site) parts.0).0)
    (sites_inside pages exports (before ++ site ∷ []) sites parts.1)

-- ---- a module of a policy

pub policy_sites : (rules : Rules) (id : ℕ) (rule : ModuleRule) → IsTrue (rules_within rules) → slice_get rules.modules id ≡ Some rule → LieIn (page_size * rule.pages) rule.sites
policy_sites rules id rule within found =
    let sites = (rule_within rules id rule within found).1 in
    record { aligned = sites_aligned rule.pages (length rules.exports) [] rule.sites sites; inside = sites_inside rule.pages (length rules.exports) [] rule.sites sites }

-- it has a page, and no more than a module may have
pub some_pages : (rules : Rules) (id : ℕ) (rule : ModuleRule) → IsTrue (rules_within rules) → slice_get rules.modules id ≡ Some rule → (1 ≤ rule.pages) × (rule.pages ≤ max_module_pages)
some_pages rules id rule within found =
    let ends = and_parts (nat_le 1 rule.pages) (nat_le rule.pages max_module_pages) (rule_within rules id rule within found).0 in
    let least = ends.0 in
    let most = ends.1 in (grind (arith, nat_tests, least), grind (arith, nat_tests, most))

-- ---- the whole text as one piece

pub whole_piece : (size : ℕ) (sites : List Site) → All (IsInside size) sites → piece_sites 0 size sites ≡ sites
unfolding piece_sites
whole_piece size [] all = refl
whole_piece size (site ∷ sites) all =
    let below : site.offset < size = All-head (IsInside size) site sites all in
    let here : lies_in 0 size site ≡ true = grind (arith, nat_tests, below) in
    let start : site.offset - 0 ≡ site.offset = omega arith in
    ap (λ (b : Bool). if b then site_from 0 site ∷ piece_sites 0 size sites else piece_sites 0 size sites) here
    ∙ ap (λ (n : ℕ). record site { offset = n } ∷ piece_sites 0 size sites) start
    ∙ ap (λ (rest : List Site). site ∷ rest) (whole_piece size sites (All-tail (IsInside size) site sites all))

-- ---- what the first judgement says

-- the snapshot is of the policy's machine
pub record OfPolicy (rules : Rules) (s : Contents) : Type 0 where
  pub harts : length s.harts ≡ rules.harts
  pub pages : length s.protection ≡ rules.ram_pages
  pub bound : list_all (λ (h : SavedHart). is_bound rules h.entry) s.harts ≡ true
  pub modules : list_all (fits rules) s.modules ≡ true
  pub load : load_fits rules s.modules s.loading ≡ true

pub of_policy : (rules : Rules) (s : Contents) → is_of_policy rules s ≡ true → OfPolicy rules s
unfolding is_of_policy
of_policy rules s e =
    let a : Bool = length s.harts == rules.harts in
    let b : Bool = length s.protection == rules.ram_pages in
    let c : Bool = list_all (λ (h : SavedHart). is_bound rules h.entry) s.harts in
    let d : Bool = list_all (fits rules) s.modules in
    let four = first_true (a && b && c && d) _ e in
    let three = first_true (a && b && c) d four in
    let two = first_true (a && b) c three in
    record {
      harts = eqb-true (length s.harts) rules.harts (first_true a b two);
      pages = eqb-true (length s.protection) rules.ram_pages (second_true a b two);
      bound = second_true (a && b) c three;
      modules = second_true (a && b && c) d four;
      load = second_true (a && b && c && d) _ e;
    }
