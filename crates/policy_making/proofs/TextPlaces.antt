-- The place of an entry lies in the kernel's text.
use Rattle.std.proofs.Common.{◌≡◌, ◌∙◌, ℕ, zero, suc, ◌+◌, ◌*◌, ◌%◌, ◌<◌, ◌≤◌, ◌^◌, ◌&&◌, Bool, true, false, List, [], ◌∷◌, length, map}
use Rattle.std.proofs.Common.{flat_map, Option, Some, None, Ok, Err, All, refl, sym, subst, arith, cond}
use Rattle.std.specs.Prelude.{nat_le, nat_lt, ◌==◌}
use Rattle.std.specs.List.{find, list_any}
use Rattle.std.proofs.lemmas.Bool.{and_parts, eqb-true}
use Rattle.std.proofs.lemmas.Bool.Decides.{nat_tests}
use Rattle.std.proofs.lemmas.List.Elements.{All-nil, All-cons, All-head, All-tail}
use Rattle.std.proofs.lemmas.Map.Views.{any-filter_same}
use Rattle.spec_processor.specs.Bytes.{page_of, page_size, ram_base, ram_offset}
use Rattle.spec_processor.specs.Regions.{max_ram_pages}
use Rattle.sv_types.specs.ApprovedPages.{numbers_from}
use Rattle.sv_types.specs.Kernel.{LoadedSegment, first_refusal, is_text_of, kernel_refusal, kernel_segments, loaded_headers, loaded_segment, segment_checks, text_pages}
use Rattle.sv_types.specs.Policies.{bound_fits}
use Rattle.sv_types.specs.declared.kernel.ProgramHeader.{ProgramHeader}
use Rattle.policy_making.specs.Binding.{at_place, bound_place, holds, holds_from, maps, place_by, place_in, place_of}
use Rattle.policy_making.specs.Faults.{Judged}
use Rattle.policy_making.specs.InText.{AreOfKernel, EndInWords, is_in_text}
use Rattle.policy_making.specs.declared.bind_fault.BindFault.TheVariants.{Convert}
use Rattle.policy_making.specs.declared.bind_fault.ConvertFault.TheVariants.{OtherByte}
use Rattle.policy_making.proofs.Searches.{IsMet, any_met, found_met}
use Rattle.sv_types.proofs.FileChecks.{first_passed, rest_passed, accepted_headers, Passed, segment_passed}

-- ---- segments in RAM

pub record IsInRam (ram_pages : ℕ) (s : LoadedSegment) : Type 0 where
  pub above : ram_base ≤ s.gpa
  pub inside : ram_offset s.gpa + s.memory ≤ page_size * ram_pages

in_ram : (file : List ℕ) (ram_pages : ℕ) (h : ProgramHeader) → Passed (length file) ram_pages h → IsInRam ram_pages (loaded_segment file h)
in_ram file ram_pages h passed =
    let tests : (nat_le ram_base h.gpa && nat_le (ram_offset h.gpa + h.memory_size) (page_size * ram_pages)) ≡ true = passed.in_ram in
    record { above = grind (arith, nat_tests); inside = grind (arith, nat_tests) }

all_in_ram : (file : List ℕ) (ram_pages : ℕ) (hs : List ProgramHeader) → first_refusal (flat_map (segment_checks (length file) ram_pages) hs) ≡ None
    → All (IsInRam ram_pages) (map (loaded_segment file) hs)
all_in_ram file ram_pages [] none = All-nil (IsInRam ram_pages)
all_in_ram file ram_pages (h ∷ hs) none =
    let checks = segment_checks (length file) ram_pages in
    let here = segment_passed (length file) ram_pages h (first_passed (checks h) (flat_map checks hs) none) in
    let rest = all_in_ram file ram_pages hs (rest_passed (checks h) (flat_map checks hs) none) in
    All-cons (IsInRam ram_pages) (loaded_segment file h) (map (loaded_segment file) hs) (in_ram file ram_pages h here) rest

pub accepted_in_ram : (file : List ℕ) (ram_pages : ℕ) → kernel_refusal file ram_pages ≡ None → All (IsInRam ram_pages) (kernel_segments file)
unfolding kernel_segments
accepted_in_ram file ram_pages none = all_in_ram file ram_pages (loaded_headers file) (accepted_headers file ram_pages none)

pub kernel_in_ram : (ram_pages : ℕ) (ss : List LoadedSegment) → AreOfKernel ram_pages ss → All (IsInRam ram_pages) ss
kernel_in_ram ram_pages ss kernel = subst (All (IsInRam ram_pages)) (sym kernel.segments) (accepted_in_ram kernel.file ram_pages kernel.accepted)

-- ---- places

-- an address in the memory of an executable segment of the list
pub record IsTextPlace (ram_pages : ℕ) (ss : List LoadedSegment) (gpa : ℕ) : Type 0 where
  pub segment : LoadedSegment
  pub in_ram : IsInRam ram_pages segment
  pub executable : segment.executable ≡ true
  pub from : segment.gpa ≤ gpa
  pub before : gpa < segment.gpa + segment.memory
  pub among : (q : LoadedSegment → Bool) → q segment ≡ true → list_any q ss ≡ true

-- the parts of the test
pub held_parts : (start entry : ℕ) (s : LoadedSegment) → holds_from start entry s ≡ true → (s.executable ≡ true) × (start ≤ entry) × (entry < start + s.memory)
held_parts start entry s e =
    let one = and_parts s.executable (nat_le start entry && nat_lt entry (start + s.memory)) e in
    let two = and_parts (nat_le start entry) (nat_lt entry (start + s.memory)) one.1 in
    (one.0, grind (arith, nat_tests), grind (arith, nat_tests))

module _ (ram_pages : ℕ) (ss : List LoadedSegment) (all : All (IsInRam ram_pages) ss) (entry gpa : ℕ) where
  mapped : (s : LoadedSegment) → IsMet (IsInRam ram_pages) (maps entry) ss s → place_in entry s ≡ gpa → IsTextPlace ram_pages ss gpa
  mapped s met is =
      let parts = held_parts s.va entry s met.passes in
      let low = parts.1 in
      let high = parts.2 in
      record {
        segment = s;
        in_ram = met.holds;
        executable = parts.0;
        from = omega arith;
        before = omega arith;
        among = met.among;
      }

  own : (s : LoadedSegment) → IsMet (IsInRam ram_pages) (holds entry) ss s → entry ≡ gpa → IsTextPlace ram_pages ss gpa
  own s met is =
      let parts = held_parts s.gpa entry s met.passes in
      let low = parts.1 in
      let high = parts.2 in
      record {
        segment = s;
        in_ram = met.holds;
        executable = parts.0;
        from = omega arith;
        before = omega arith;
        among = met.among;
      }

  by_own : (b : Bool) → list_any (holds entry) ss ≡ b → cond b (Some entry) None ≡ Some gpa → IsTextPlace ram_pages ss gpa
  by_own true is e = let found = any_met (IsInRam ram_pages) (holds entry) ss all is in own found.0 found.1 (cc e)
  by_own false is e = absurd (cc e)

  by_found : (found : Option LoadedSegment) → find (maps entry) ss ≡ found → place_by ss entry found ≡ Some gpa → IsTextPlace ram_pages ss gpa
  by_found (Some s) is e = mapped s (found_met (IsInRam ram_pages) (maps entry) ss s all is) (cc e)
  by_found None is e = by_own (list_any (holds entry) ss) refl e

  pub text_place : place_of ss entry ≡ Some gpa → IsTextPlace ram_pages ss gpa
  unfolding place_of
  text_place e = by_found (find (maps entry) ss) refl e

-- ---- what is bound

pub record IsBoundWell (ram_pages : ℕ) (ss : List LoadedSegment) (entry gpa : ℕ) : Type 0 where
  pub place : IsTextPlace ram_pages ss gpa
  pub byte : (gpa % page_size == entry % page_size) ≡ true

ok_same : (a b : ℕ) → ◌≡◌ {A = Judged ℕ} (Ok a) (Ok b) → a ≡ b
ok_same a b e = cc e

module _ (ram_pages : ℕ) (ss : List LoadedSegment) (all : All (IsInRam ram_pages) ss) (entry gpa : ℕ) where
  by_byte : (place : ℕ) (b : Bool) → place_of ss entry ≡ Some place → (place % page_size == entry % page_size) ≡ b
      → ◌≡◌ {A = Judged ℕ} (cond b (Ok place) (Err (Convert OtherByte))) (Ok gpa) → IsBoundWell ram_pages ss entry gpa
  by_byte place true is byte e =
      subst (IsBoundWell ram_pages ss entry) (ok_same place gpa e) (record { place = text_place ram_pages ss all entry place is; byte = byte })
  by_byte place false is byte e = absurd (cc e)

  by_place : (place : Option ℕ) → place_of ss entry ≡ place → at_place entry place ≡ Ok gpa → IsBoundWell ram_pages ss entry gpa
  by_place (Some place) is e = by_byte place (place % page_size == entry % page_size) is refl e
  by_place None is e = absurd (cc e)

  pub bound_well : bound_place ss entry ≡ Ok gpa → IsBoundWell ram_pages ss entry gpa
  unfolding bound_place
  bound_well e = by_place (place_of ss entry) refl e

pub well_fits : (ram_pages : ℕ) (ss : List LoadedSegment) (entry gpa : ℕ) → IsBoundWell ram_pages ss entry gpa → bound_fits ram_pages entry gpa ≡ true
well_fits ram_pages ss entry gpa well =
    let s = well.place.segment in
    let above = well.place.in_ram.above in
    let inside = well.place.in_ram.inside in
    let low = well.place.from in
    let high = well.place.before in
    let first : nat_le ram_base gpa ≡ true = grind (arith, nat_tests) in
    let last : nat_lt gpa (ram_base + page_size * ram_pages) ≡ true = grind (arith, nat_tests) in
    rw (first, last, well.byte) refl

-- ---- pages of text

there_from : (first count page : ℕ) → first ≤ page → page < first + count → list_any (λ p. p == page) (numbers_from first count) ≡ true
there_from first zero page low high = absurd (omega arith)
there_from first (suc count) page low high = there_by (first == page) refl (λ later. there_from (first + 1) count page later (omega arith))
  where
    there_by : (b : Bool) → (first == page) ≡ b → (first + 1 ≤ page → list_any (λ p. p == page) (numbers_from (first + 1) count) ≡ true)
        → list_any (λ p. p == page) (first ∷ numbers_from (first + 1) count) ≡ true
    there_by true is rest = rw is refl
    there_by false is rest = rw (is, rest (grind (arith, nat_tests))) refl

pub is_text_page : (ss : List LoadedSegment) (page : ℕ) → page < max_ram_pages → list_any (is_text_of page) ss ≡ true → list_any (λ p. p == page) (text_pages ss) ≡ true
unfolding text_pages
is_text_page ss page few is =
    any-filter_same (λ p. p == page) (λ p. list_any (is_text_of p) ss) true
    (λ p same. subst (λ (q : ℕ). list_any (is_text_of q) ss ≡ true) (sym (eqb-true p page same)) is)
    (numbers_from 0 max_ram_pages)
    ∙ there_from 0 max_ram_pages page (omega arith) few

pub well_in_text : (ram_pages : ℕ) (ss : List LoadedSegment) (entry gpa : ℕ) → ram_pages ≤ max_ram_pages → IsBoundWell ram_pages ss entry gpa → is_in_text ss gpa ≡ true
well_in_text ram_pages ss entry gpa few well =
    let s = well.place.segment in
    let above = well.place.in_ram.above in
    let inside = well.place.in_ram.inside in
    let low = well.place.from in
    let high = well.place.before in
    let first : nat_le ram_base gpa ≡ true = grind (arith, nat_tests) in
    let begins : nat_le (page_of s.gpa) (page_of gpa) ≡ true = grind (arith, nat_tests) in
    let ends : nat_lt (page_size * page_of gpa) (ram_offset s.gpa + s.memory) ≡ true = grind (arith, nat_tests) in
    let text : is_text_of (page_of gpa) s ≡ true = rw (well.place.executable, begins, ends) refl in
    let page : page_of gpa < max_ram_pages = omega arith in
    rw (first, is_text_page ss (page_of gpa) page (well.place.among (is_text_of (page_of gpa)) text)) refl

-- ---- ends

ends_in_word : (ram_pages : ℕ) (s : LoadedSegment) → ram_pages < 2 ^ 32 → IsInRam ram_pages s → s.gpa + s.memory < 2 ^ 64
ends_in_word ram_pages s few in_ram =
    let above = in_ram.above in
    let inside = in_ram.inside in
    omega arith

all_end : (ram_pages : ℕ) (ss : List LoadedSegment) → ram_pages < 2 ^ 32 → All (IsInRam ram_pages) ss → EndInWords ss
all_end ram_pages [] few all = All-nil (λ s. s.gpa + s.memory < 2 ^ 64)
all_end ram_pages (s ∷ ss) few all =
    All-cons (λ s. s.gpa + s.memory < 2 ^ 64) s ss (ends_in_word ram_pages s few (All-head (IsInRam ram_pages) s ss all))
    (all_end ram_pages ss few (All-tail (IsInRam ram_pages) s ss all))

pub kernel_ends : (ram_pages : ℕ) (ss : List LoadedSegment) → ram_pages < 2 ^ 32 → AreOfKernel ram_pages ss → EndInWords ss
kernel_ends ram_pages ss few kernel = all_end ram_pages ss few (kernel_in_ram ram_pages ss kernel)
