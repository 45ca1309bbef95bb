-- The fields of a module's text, page by page: a policy within its limits has each field in one page, so that clearing them and
-- judging them goes page by page.
use Rattle.std.proofs.Common.{◌≡◌, ℕ, zero, suc, ◌+◌, ◌-◌, ◌*◌, ◌/◌, ◌%◌, ◌<◌, ◌≤◌, ◌⊎◌, inl, inr, List, [], ◌∷◌, ◌++◌, length, take, drop}
use Rattle.std.proofs.Common.{filter, refl, sym, ◌∙◌, ap, subst, Bool, true, false, ◌&&◌, ◌||◌, arith, slice_get, length-drop, drop-drop}
use Rattle.std.proofs.Common.{take-append-drop}
use Rattle.std.specs.Prelude.{Some, if◌then◌else◌, ◌==◌, nat_lt, IsTrue}
use Rattle.std.proofs.lemmas.Bool.{eqb-true, cases_Bool}
use Rattle.std.proofs.lemmas.Bool.Decides.{nat_tests}
use Rattle.std.proofs.lemmas.List.{take_at, drop_at}
use Rattle.spec_processor.specs.Bits.{without}
use Rattle.spec_processor.specs.Bytes.{page_size, page_bytes, word, overwrite, write_word, low_bytes}
use Rattle.sv_types.specs.Measure.{page_digest, page_digests}
use Rattle.sv_types.specs.Policies.{Rules, ModuleRule, rules_within, each_within, next_site_within, site_within, place_within, base_within, anchor_within, is_after, is_aligned, site_size}
use Rattle.sv_types.specs.declared.module.Bases.{Bases}
use Rattle.sv_types.specs.declared.module.Site.{Site}
use Rattle.sv_types.specs.declared.policy.Export.{Export}
use Rattle.laws_processor.proofs.ByteLemmas.{length_low_bytes, length_overwrite, length_write_word, length_before, part_before, part_after, overwrite_after, overwrite_in_front, word_in_page_bytes}
use Rattle.spec_hardware.specs.HwExits.{moved_site, is_site_in, page_sites}
use Rattle.spec_reference.specs.Relocations.{field_of, field_bits, width_of, field_word, clear_field, masked_text, field_right, fields_right, site_value, cleared_value}
use Rattle.spec_reference.proofs.FieldWidths.{sizes}
use Rattle.sv_types.proofs.TruthValues.{and_first, and_second, and_swap}
use Rattle.sv_types.proofs.PolicyLimits.{rule_within}

-- ---- where fields lie

pub record LiesIn (bytes : ℕ) (site : Site) : Type 0 where
  pub below : site.offset < bytes
  pub inside : site.offset + width_of site ≤ bytes
  pub whole : site.offset % page_size + width_of site ≤ page_size

abbrev pub AllLieIn : ℕ → List Site → Type 0
AllLieIn bytes [] = Unit {0}
AllLieIn bytes (site ∷ sites) = LiesIn bytes site × AllLieIn bytes sites

lies_four : (pages : ℕ) (site : Site) → width_of site ≡ 4 → site.offset % 4 ≡ 0 → site.offset < page_size * pages → LiesIn (page_size * pages) site
lies_four pages site w aligned below = record { below = below; inside = rw w (omega arith); whole = rw w (grind arith) }

lies_eight : (pages : ℕ) (site : Site) → width_of site ≡ 8 → site.offset % 8 ≡ 0 → site.offset < page_size * pages → LiesIn (page_size * pages) site
lies_eight pages site w aligned below = record { below = below; inside = rw w (omega arith); whole = rw w (grind arith) }

lies_by : (pages : ℕ) (site : Site) (size : ℕ) → (size ≡ 4) ⊎ (size ≡ 8) → width_of site ≡ size → site.offset % size ≡ 0 → site.offset < page_size * pages → LiesIn (page_size * pages) site
lies_by pages site size (inl four) w aligned below = lies_four pages site (w ∙ four) (subst (λ (n : ℕ). site.offset % n ≡ 0) four aligned) below
lies_by pages site size (inr eight) w aligned below = lies_eight pages site (w ∙ eight) (subst (λ (n : ℕ). site.offset % n ≡ 0) eight aligned) below

lies : (pages exports : ℕ) (site : Site) → site_within pages exports site ≡ true → LiesIn (page_size * pages) site
lies pages exports site e =
    let a = and_first (place_within pages site.offset && is_aligned site.kind site.offset && base_within exports site.base) (anchor_within pages site.kind site.offset site.anchor) e in
    let b = and_first (place_within pages site.offset && is_aligned site.kind site.offset) (base_within exports site.base) a in
    let d = and_first (place_within pages site.offset) (is_aligned site.kind site.offset) b in
    let aligned = and_second (place_within pages site.offset) (is_aligned site.kind site.offset) b in
    let lower = and_second (site.offset % 4 == 0) (nat_lt site.offset (page_size * pages)) d in
    lies_by pages site (site_size site.kind) (sizes site.kind) refl (eqb-true (site.offset % site_size site.kind) 0 aligned) (grind (arith, nat_tests))

all_lie : (pages exports : ℕ) (before sites : List Site) → each_within (next_site_within pages exports) before sites ≡ true → AllLieIn (page_size * pages) sites
all_lie pages exports before [] e = tt
all_lie pages exports before (site ∷ sites) e =
    let first = and_first (next_site_within pages exports before site) (each_within (next_site_within pages exports) (before ++ site ∷ []) sites) e in (
      lies pages exports site (and_first (site_within pages exports site) (is_after before site) first),
      all_lie pages exports (before ++ site ∷ []) sites (and_second (next_site_within pages exports before site) (each_within (next_site_within pages exports) (before ++ site ∷ []) sites) e),
    )

-- each field of a module of the policy lies in one page
pub rule_lies : (rules : Rules) (i : ℕ) (rule : ModuleRule) → IsTrue (rules_within rules) → slice_get rules.modules i ≡ Some rule → AllLieIn (page_size * rule.pages) rule.sites
rule_lies rules i rule within found = all_lie rule.pages (length rules.exports) [] rule.sites (rule_within rules i rule within found).1

-- ---- digests

pub digest_more : (n : ℕ) (bytes : List ℕ) → page_digests (suc n) bytes ≡ page_digests n bytes ++ page_digest (page_bytes bytes n) ∷ []
digest_more zero bytes = refl
digest_more (suc n) bytes =
    let place : drop (page_size * n) (drop page_size bytes) ≡ drop (page_size * suc n) bytes =
    drop-drop (page_size * n) page_size bytes ∙ ap (λ (k : ℕ). drop k bytes) (omega arith) in
    ap (λ (ds : List (List ℕ)). page_digest (take page_size bytes) ∷ ds)
    (digest_more n (drop page_size bytes)
    ∙ ap (λ (rest : List ℕ). page_digests n (drop page_size bytes) ++ page_digest (take page_size rest) ∷ []) place)

-- ---- clearing, page by page

-- what is written inside a page
inside_page : (text bytes : List ℕ) (n k : ℕ) → page_size * n + page_size ≤ length text → k + length bytes ≤ page_size
    → page_bytes (overwrite text (page_size * n + k) bytes) n ≡ overwrite (page_bytes text n) k bytes
inside_page text bytes n k room fits =
    let front : List ℕ = take (page_size * n) text in
    let rest : List ℕ = drop (page_size * n) text in
    let size : length front ≡ page_size * n = length_before text (page_size * n) (omega arith) in
    let left = length-drop (page_size * n) text in
    let page : List ℕ = take page_size rest in
    let full : length page ≡ page_size = length_before rest page_size (omega arith) in
    let whole : overwrite text (page_size * n + k) bytes ≡ front ++ overwrite rest k bytes =
    subst (λ (l : List ℕ). overwrite l (page_size * n + k) bytes ≡ front ++ overwrite rest k bytes) (take-append-drop (page_size * n) text)
    (subst (λ (m : ℕ). overwrite (front ++ rest) (m + k) bytes ≡ front ++ overwrite rest k bytes) size (overwrite_after front rest bytes k)) in
    let split : overwrite rest k bytes ≡ overwrite page k bytes ++ drop page_size rest =
    subst (λ (l : List ℕ). overwrite l k bytes ≡ overwrite page k bytes ++ drop page_size rest) (take-append-drop page_size rest)
    (overwrite_in_front page (drop page_size rest) bytes k (rw full fits)) in
    ap (λ (l : List ℕ). page_bytes l n) whole
    ∙ ap (take page_size) (drop_at front (overwrite rest k bytes) (page_size * n) size ∙ split)
    ∙ take_at (overwrite page k bytes) (drop page_size rest) page_size (length_overwrite page bytes k (rw full fits) ∙ full)

-- the field of a page's word is that of the text's
same_word : (text : List ℕ) (n : ℕ) (site : Site) → (page_size * n) + (site.offset - page_size * n) ≡ site.offset → site.offset - page_size * n + width_of site ≤ page_size
    → field_word (page_bytes text n) (moved_site n site) ≡ field_word text site
same_word text n site back fits =
    word_in_page_bytes text n (site.offset - page_size * n) (width_of site) fits ∙ ap (λ (at : ℕ). word text at (width_of site)) back

clear_here : (text : List ℕ) (n : ℕ) (site : Site) → page_size * n + page_size ≤ length text → page_size * n + (site.offset - page_size * n) ≡ site.offset →
    site.offset - page_size * n + width_of site ≤ page_size
    → page_bytes (clear_field text site) n ≡ clear_field (page_bytes text n) (moved_site n site)
unfolding clear_field
clear_here text n site room back fits =
    let size : length (low_bytes (width_of site) (cleared_value text site)) ≡ width_of site = length_low_bytes (width_of site) (cleared_value text site) in
    ap (λ (at : ℕ). page_bytes (overwrite text at (low_bytes (width_of site) (cleared_value text site))) n) (sym back)
    ∙ inside_page text (low_bytes (width_of site) (cleared_value text site)) n (site.offset - page_size * n) room (rw size fits)
    ∙ ap (λ (w : ℕ). write_word (page_bytes text n) (site.offset - page_size * n) (width_of site) (without w (field_bits (field_of site.kind)))) (sym (same_word text n site back fits))

clear_there : (text : List ℕ) (n : ℕ) (site : Site) → LiesIn (length text) site → (site.offset / page_size == n) ≡ false → page_bytes (clear_field text site) n ≡ page_bytes text n
unfolding clear_field
clear_there text n site k other =
    let size : length (low_bytes (width_of site) (cleared_value text site)) ≡ width_of site = length_low_bytes (width_of site) (cleared_value text site) in
    let inside = k.inside in
    let whole = k.whole in
    let apart : (site.offset / page_size < n) ⊎ (n < site.offset / page_size) = grind (arith, nat_tests) in
    elim apart [
      | inl before ↦ part_after text (low_bytes (width_of site) (cleared_value text site)) site.offset (page_size * n) page_size (rw size inside) (rw size (omega arith))
      | inr behind ↦ part_before text (low_bytes (width_of site) (cleared_value text site)) site.offset (page_size * n) page_size (rw size inside) (omega arith)
    ]

length_cleared : (text : List ℕ) (site : Site) → LiesIn (length text) site → length (clear_field text site) ≡ length text
unfolding clear_field
length_cleared text site k = length_write_word text site.offset (width_of site) (cleared_value text site) k.inside

pub length_masked : (text : List ℕ) (sites : List Site) → AllLieIn (length text) sites → length (masked_text text sites) ≡ length text
unfolding masked_text
length_masked text [] all = refl
length_masked text (site ∷ sites) all =
    let same = length_cleared text site all.0 in
    length_masked (clear_field text site) sites (subst (λ (n : ℕ). AllLieIn n sites) (sym same) all.1) ∙ same

in_page : (n : ℕ) (site : Site) (bytes : ℕ) → LiesIn bytes site → (site.offset / page_size == n) ≡ true → (page_size * n + (site.offset - page_size * n) ≡ site.offset) ×
    (site.offset - page_size * n + width_of site ≤ page_size)
in_page n site bytes k here =
    let same : site.offset / page_size ≡ n = eqb-true (site.offset / page_size) n here in
    let whole = k.whole in
    (omega arith, omega arith)

-- a page of the cleared text is the page cleared
pub page_masked : (text : List ℕ) (n : ℕ) (sites : List Site) → page_size * n + page_size ≤ length text → AllLieIn (length text) sites
    → page_bytes (masked_text text sites) n ≡ masked_text (page_bytes text n) (page_sites n sites)
unfolding masked_text page_sites
page_masked text n [] room all = refl
page_masked text n (site ∷ sites) room all =
    let same = length_cleared text site all.0 in
    let rest = page_masked (clear_field text site) n sites (rw same room) (subst (λ (m : ℕ). AllLieIn m sites) (sym same) all.1) in
    rest ∙ elim (cases_Bool (site.offset / page_size == n)) [
      | inl here ↦ let k = in_page n site (length text) all.0 here in
          ap (λ (page : List ℕ). masked_text page (page_sites n sites)) (clear_here text n site room k.0 k.1)
          ∙ ap (λ (b : Bool). masked_text (page_bytes text n) (if b then moved_site n site ∷ page_sites n sites else page_sites n sites)) (sym here)
      | inr other ↦
          ap (λ (page : List ℕ). masked_text page (page_sites n sites)) (clear_there text n site all.0 other)
          ∙ ap (λ (b : Bool). masked_text (page_bytes text n) (if b then moved_site n site ∷ page_sites n sites else page_sites n sites)) (sym other)
    ]

-- ---- judging, page by page

same_right : (exports : List Export) (bases : Bases) (text : List ℕ) (n : ℕ) (site : Site) → LiesIn (length text) site → (site.offset / page_size == n) ≡ true
    → field_right exports bases (page_bytes text n) (moved_site n site) ≡ field_right exports bases text site
unfolding field_right site_value
same_right exports bases text n site k here =
    let p = in_page n site (length text) k here in
    rw (same_word text n site p.0 p.1) refl

abbrev pub below : ℕ → Site → Bool
below n site = nat_lt site.offset (page_size * n)

three : (p q x y z b c : Bool) → (c ≡ true → q ≡ p) → (b ≡ true → c ≡ false) → x ≡ (y && z)
    → (if b || c then p && x else x) ≡ ((if b then p && y else y) && (if c then q && z else z))
three p q x y z true true same apart e = let no_such : true ≡ false = apart refl in cc
three true q x y z true false same apart e = e
three false q x y z true false same apart e = refl
three p q x y z false true same apart e = rw (e, same refl) (and_swap p y z)
three p q x y z false false same apart e = e

bounds : (off n : ℕ) → nat_lt off (page_size * suc n) ≡ (nat_lt off (page_size * n) || off / page_size == n)
bounds off n = elim (cases_Bool (nat_lt off (page_size * n))) [
  | inl lower ↦ let more : nat_lt off (page_size * suc n) ≡ true = grind (arith, nat_tests) in more ∙ ap (λ (b : Bool). b || off / page_size == n) (sym lower)
  | inr higher ↦ elim (cases_Bool (off / page_size == n)) [
    | inl here ↦ let more : nat_lt off (page_size * suc n) ≡ true = grind (arith, nat_tests) in
        more ∙ sym here ∙ ap (λ (b : Bool). b || off / page_size == n) (sym higher)
    | inr other ↦ let less : nat_lt off (page_size * suc n) ≡ false = grind (arith, nat_tests) in
        less ∙ sym other ∙ ap (λ (b : Bool). b || off / page_size == n) (sym higher)
  ]
]

not_both : (off n : ℕ) → nat_lt off (page_size * n) ≡ true → (off / page_size == n) ≡ false
not_both off n lower = grind (arith, nat_tests)

lifted : (exports : List Export) (bases : Bases) (text : List ℕ) (b : Bool) (site : Site) (sites : List Site)
    → fields_right exports bases (if b then site ∷ sites else sites) text ≡
    (if b then field_right exports bases text site && fields_right exports bases sites text else fields_right exports bases sites text)
unfolding fields_right
lifted exports bases text true site sites = refl
lifted exports bases text false site sites = refl

no_sites : (exports : List Export) (bases : Bases) (text page : List ℕ) → fields_right exports bases [] text ≡ (fields_right exports bases [] text && fields_right exports bases [] page)
unfolding fields_right
no_sites exports bases text page = refl

-- the sites of the pages up to one are those of the pages before it, and its own
pub right_more : (exports : List Export) (bases : Bases) (text : List ℕ) (n : ℕ) (sites : List Site) → AllLieIn (length text) sites
    → fields_right exports bases (filter (below (suc n)) sites) text ≡ (fields_right exports bases (filter (below n) sites) text && fields_right exports bases (page_sites n sites) (page_bytes text n))
unfolding page_sites
right_more exports bases text n [] all = no_sites exports bases text (page_bytes text n)
right_more exports bases text n (site ∷ sites) all =
    let rest = right_more exports bases text n sites all.1 in
    let x : Bool = fields_right exports bases (filter (below (suc n)) sites) text in
    let p : Bool = field_right exports bases text site in
    lifted exports bases text (below (suc n) site) site (filter (below (suc n)) sites)
    ∙ ap (λ (b : Bool). if b then p && x else x) (bounds site.offset n)
    ∙ three p (field_right exports bases (page_bytes text n) (moved_site n site)) x (fields_right exports bases (filter (below n) sites) text)
    (fields_right exports bases (page_sites n sites) (page_bytes text n))
    (below n site) (is_site_in n site) (λ here. same_right exports bases text n site all.0 here) (λ lower. not_both site.offset n lower) rest
    ∙ rw (lifted exports bases text (below n site) site (filter (below n) sites), lifted exports bases (page_bytes text n) (is_site_in n site) (moved_site n site) (page_sites n sites)) refl

-- of a text all sites lie before its end
pub all_below : (pages : ℕ) (sites : List Site) → AllLieIn (page_size * pages) sites → filter (below pages) sites ≡ sites
all_below pages [] all = refl
all_below pages (site ∷ sites) all =
    let lower = all.0.below in
    let there : below pages site ≡ true = grind (arith, nat_tests) in
    ap (λ (b : Bool). if b then site ∷ filter (below pages) sites else filter (below pages) sites) there ∙ ap (◌∷◌ site) (all_below pages sites all.1)
