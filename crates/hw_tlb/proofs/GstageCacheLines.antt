-- Lines of a cache: what they answer, and how they are filled.
use Rattle.std.proofs.Common.{◌≡◌, ℕ, ◌+◌, ◌-◌, ◌*◌, ◌/◌, ◌%◌, ◌^◌, ◌<◌, ◌⊎◌, inl, inr, List, length, get_or, set, refl, sym, ◌∙◌, ap, subst, arith, Bool, true, false, ◌&&◌}
use Rattle.spec_processor.specs.Bytes.{page_size}
use Rattle.std.specs.Prelude.{Option, Some, None, IfSome, if◌then◌else◌, ◌==◌}
use Rattle.std.proofs.lemmas.Bool.Decides.{nat_tests, eqb_tells}
use Rattle.std.proofs.lemmas.List.{get_or-set_same, get_or-set_other}
use Rattle.spec_processor.specs.Regions.{Region}
use Rattle.spec_processor.specs.Translation.{Destination, At, PageFault, Unreadable}
use Rattle.spec_processor.specs.GStage.{walk_guest, address_at, entry_in_region, entry_in_tables, guest_destination, permits_guest, WalksApart, guest_address_bits}
use Rattle.spec_processor.specs.CachedWalks.{line_permits, line_leads, line_at, LineAgrees, CacheAgrees, FilledUnder, no_lines}
use Rattle.spec_processor.specs.declared.cached.CacheLine.{CacheLine}
use Rattle.spec_processor.specs.declared.access.Access.{Access}
use Rattle.spec_processor.specs.declared.access.Access.TheVariants.{Fetch, Load, Store}
use Rattle.laws_processor.proofs.Walks.{walk_guest_fits, address_chosen}
use Rattle.sv39_walk.specs.Mappings.{mapping_answer}
use Rattle.sv39_walk.specs.declared.g_stage.Mapping.{Mapping}
use Rattle.hw_tlb.specs.Lookup.{line_with_tag, line_for, is_held, IsPlaced, line_of_mapping, IsKept}
use Rattle.hw_tlb.proofs.Walks.{IsReadable, destination_at, leads_in_region, region_readable, page_moves, answer_near, answer_is}
use Rattle.laws_processor.proofs.EmptyLines.{none_at}

-- ---- what a line answers

line_readable : (b : Bool) (x : ℕ) → IsReadable (if b then At x else PageFault)
line_readable true x = tt
line_readable false x = tt

-- as the walk of the tables, for each address of its page
pub line_answers : (r : Region) (line : CacheLine) (gpa : ℕ) (access : Access) → LineAgrees r.tables line → line.page ≡ gpa / page_size
    → walk_guest r line.hgatp gpa access ≡ (if line_permits line access then Some (line.host + gpa % page_size) else None)
line_answers r line gpa access agrees same =
    let place : page_size * line.page + gpa % page_size ≡ gpa = omega arith in
    let near : gpa < 2 ^ guest_address_bits = let reach = agrees.reach in omega arith in
    let small : gpa % page_size < page_size = omega arith in
    let leads : guest_destination (entry_in_tables r.tables) line.hgatp gpa access ≡ line_leads line access (gpa % page_size) =
    ap (λ (a : ℕ). guest_destination (entry_in_tables r.tables) line.hgatp a access) (sym place) ∙ agrees.leads (gpa % page_size) access small in
    let readable : IsReadable (guest_destination (entry_in_tables r.tables) line.hgatp gpa access) =
    subst (λ (d : Destination). IsReadable d) (sym leads) (line_readable (line_permits line access) (line.host + gpa % page_size)) in
    answer_is r line.hgatp gpa access near
    ∙ ap address_at (leads_in_region r line.hgatp gpa access readable ∙ leads)
    ∙ address_chosen (line_permits line access) (line.host + gpa % page_size)

pub line_fits : (r : Region) (line : CacheLine) (gpa : ℕ) (access : Access) → LineAgrees r.tables line → line.page ≡ gpa / page_size
    → line_permits line access ≡ true → line.host + gpa % page_size < 2 ^ 64
line_fits r line gpa access agrees same permitted =
    let answer : walk_guest r line.hgatp gpa access ≡ Some (line.host + gpa % page_size) =
    line_answers r line gpa access agrees same ∙ ap (λ (b : Bool). if b then Some (line.host + gpa % page_size) else None) permitted in
    (walk_guest_fits r line.hgatp gpa (line.host + gpa % page_size) access answer).1

-- ---- how a line is filled

lead_of : (d : Destination) (permits : Bool) (hpa place : ℕ) → IsReadable d → address_at d ≡ (if permits then Some hpa else None)
    → destination_at place d ≡ (if permits then At (hpa - hpa % page_size + place) else PageFault)
lead_of (At x) true hpa place readable e = let same : x ≡ hpa = cc in rw same refl
lead_of (At x) false hpa place readable e = absurd (cc)
lead_of PageFault true hpa place readable e = absurd (cc)
lead_of PageFault false hpa place readable e = refl
lead_of (Unreadable entry) permits hpa place readable e = absurd readable

permits_as : (hgatp gpa : ℕ) (mapping : Mapping) (access : Access) → permits_guest access mapping.leaf.0 ≡ line_permits (line_of_mapping hgatp gpa mapping) access
permits_as hgatp gpa mapping Fetch = refl
permits_as hgatp gpa mapping Load = refl
permits_as hgatp gpa mapping Store = refl

pub fill_agrees : (r : Region) (hgatp gpa : ℕ) (access : Access) (mapping : Mapping) → WalksApart r hgatp
    → ((other : Access) → walk_guest r hgatp gpa other ≡ mapping_answer (Some mapping) other) → permits_guest access mapping.leaf.0 ≡ true
    → LineAgrees r.tables (line_of_mapping hgatp gpa mapping)
fill_agrees r hgatp gpa access mapping apart answers permitted =
    let found : walk_guest r hgatp gpa access ≡ Some mapping.hpa = answers access ∙ ap (λ (b : Bool). if b then Some mapping.hpa else None) permitted in
    let near : gpa < 2 ^ guest_address_bits = answer_near r hgatp gpa mapping.hpa access found in
    record {
      reach = omega arith;
      leads = λ place other below.
          let at : ℕ = page_size * (gpa / page_size) + place in
          let same : gpa / page_size ≡ at / page_size = omega arith in
          let inside : at % page_size ≡ place = omega arith in
          let answer : address_at (guest_destination (entry_in_region r) hgatp gpa other) ≡ (if permits_guest other mapping.leaf.0 then Some mapping.hpa else None) =
          sym (answer_is r hgatp gpa other near) ∙ answers other in
          apart.reads at other (omega arith)
          ∙ page_moves (entry_in_region r) hgatp gpa at other same
          ∙ ap (λ (p : ℕ). destination_at p (guest_destination (entry_in_region r) hgatp gpa other)) inside
          ∙ lead_of (guest_destination (entry_in_region r) hgatp gpa other) (permits_guest other mapping.leaf.0) mapping.hpa place (region_readable r hgatp gpa other) answer
          ∙ ap (λ (b : Bool). if b then At (mapping.hpa - mapping.hpa % page_size + place) else PageFault) (permits_as hgatp gpa mapping other);
    }

-- line j after a change of line i
pub set_at : {A : Type 0} (lines : List (Option A)) (i j : ℕ) (o : Option A) → i < length lines
    → ((j ≡ i) × (get_or (set lines i o) j None ≡ o)) ⊎ ((j ≡ i → ⊥) × (get_or (set lines i o) j None ≡ get_or lines j None))
set_at lines i j o fits = elim (eqb_tells j i) [
  | inl same ↦ inl (same.1, ap (λ (k : ℕ). get_or (set lines i o) k None) same.1 ∙ get_or-set_same lines i o None fits)
  | inr other ↦ inr (other.1, get_or-set_other lines i j o None other.1)
]

kept_fits : (before : List (Option CacheLine)) (page : ℕ) → length before ≡ 256 → page % 256 < length before
kept_fits before page size = omega arith

pub kept_agrees : (tables : List ℕ) (before after : List (Option CacheLine)) (line : CacheLine) → IsKept before after line → LineAgrees tables line
    → CacheAgrees tables before → CacheAgrees tables after
kept_agrees tables before after line kept agrees all = record {
  held = λ j found e.
      let at : get_or (set before (line.page % 256) (Some line)) j None ≡ Some found = ap (λ (lines : List (Option CacheLine)). get_or lines j None) (sym kept.is) ∙ e in
      elim (set_at before (line.page % 256) j (Some line) (kept_fits before line.page kept.size)) [
        | inl same ↦ let is : line ≡ found = let both = sym same.1 ∙ at in cc in subst (λ (l : CacheLine). LineAgrees tables l) is agrees
        | inr other ↦ all.held j found (sym other.1 ∙ at)
      ];
}

pub kept_filled : (tables : List ℕ) (hgatp : ℕ) (before after : List (Option CacheLine)) (line : CacheLine) → IsKept before after line → LineAgrees tables line
    → line.hgatp ≡ hgatp → FilledUnder tables hgatp before after
kept_filled tables hgatp before after line kept agrees tag = record {
  lines = λ j.
      let at : get_or after j None ≡ get_or (set before (line.page % 256) (Some line)) j None = ap (λ (lines : List (Option CacheLine)). get_or lines j None) kept.is in
      elim (set_at before (line.page % 256) j (Some line) (kept_fits before line.page kept.size)) [
        | inl same ↦ inr (line, (at ∙ same.1, (tag, agrees)))
        | inr other ↦ inl (at ∙ other.1)
      ];
}

test_same : (hgatp page : ℕ) → (hgatp == hgatp && page == page) ≡ true
test_same hgatp page = grind (arith, nat_tests)

pub kept_held : (before after : List (Option CacheLine)) (line : CacheLine) (hgatp page : ℕ) → IsKept before after line → line.hgatp ≡ hgatp → line.page ≡ page
    → is_held (line_for after hgatp page) ≡ true
unfolding line_for
kept_held before after line hgatp page kept tag same =
    let at : get_or after (page % 256) None ≡ Some line =
    ap (λ (lines : List (Option CacheLine)). get_or lines (page % 256) None) kept.is
    ∙ ap (λ (p : ℕ). get_or (set before (line.page % 256) (Some line)) (p % 256) None) (sym same)
    ∙ get_or-set_same before (line.page % 256) (Some line) None (kept_fits before line.page kept.size) in
    let test : (line.hgatp == hgatp && line.page == page) ≡ true = rw (tag, same) (test_same hgatp page) in
    ap (λ (o : Option CacheLine). is_held (line_with_tag hgatp page o)) at
    ∙ ap (λ (b : Bool). is_held (if b then Some line else None)) test

-- ---- how a line is looked up

tags_test : (hgatp page : ℕ) (found line : CacheLine) (b : Bool) → (found.hgatp == hgatp && found.page == page) ≡ b → (if b then Some found else None) ≡ Some line
    → (line.hgatp ≡ hgatp) × ((line.page ≡ page) × (Some found ≡ Some line))
tags_test hgatp page found line true test e =
    let same : found ≡ line = cc in
    let tags : (found.hgatp ≡ hgatp) × (found.page ≡ page) = (grind (arith, nat_tests), grind (arith, nat_tests)) in
    (ap (λ (l : CacheLine). l.hgatp) (sym same) ∙ tags.0, (ap (λ (l : CacheLine). l.page) (sym same) ∙ tags.1, e))
tags_test hgatp page found line false test e = absurd (cc)

tagged_is : (hgatp page : ℕ) (o : Option CacheLine) (line : CacheLine) → line_with_tag hgatp page o ≡ Some line
    → (line.hgatp ≡ hgatp) × ((line.page ≡ page) × (o ≡ Some line))
tagged_is hgatp page None line e = absurd (cc)
tagged_is hgatp page (Some found) line e = tags_test hgatp page found line (found.hgatp == hgatp && found.page == page) refl e

pub found_is : (lines : List (Option CacheLine)) (hgatp page : ℕ) (line : CacheLine) → line_for lines hgatp page ≡ Some line
    → (line.hgatp ≡ hgatp) × ((line.page ≡ page) × (line_at lines (page % 256) ≡ Some line))
unfolding line_for
found_is lines hgatp page line e = tagged_is hgatp page (line_at lines (page % 256)) line e

-- what a walk leads to is found
pub leads_there : (o : Option ℕ) → IfSome o (λ place. o ≡ Some place)
leads_there None = tt
leads_there (Some place) = refl

-- ---- empty lines

-- so a cache without lines agrees with every table, and its lines are of the views
pub none_agrees : (tables : List ℕ) → CacheAgrees tables no_lines
none_agrees tables = record { held = λ i line e. let none = none_at 256 i in absurd (cc) }

pub none_placed : IsPlaced no_lines
none_placed = record { size = refl; place = λ i line e. let none = none_at 256 i in absurd (cc) }
