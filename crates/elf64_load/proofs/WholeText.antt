-- Text of one segment of whole pages, of which the file has all bytes, is these bytes.
use Rattle.std.proofs.Common.{◌≡◌, ℕ, zero, suc, ◌+◌, ◌-◌, ◌*◌, ◌/◌, ◌<◌, ◌≤◌, ◌⊎◌, inl, inr, Bool, true, false, List, [], ◌∷◌, ◌++◌}
use Rattle.std.proofs.Common.{length, take, drop, filter, flat_map, replicate, refl, ap, sym, ◌∙◌, arith}
use Rattle.std.specs.Prelude.{Option, Some, None, find, nat_lt, if◌then◌else◌}
use Rattle.std.proofs.lemmas.Bool.Decides.{nat_tests}
use Rattle.std.proofs.lemmas.Bool.{cases_Bool}
use Rattle.std.proofs.lemmas.List.{take-append-drop, append-nil, drop-drop, length-drop, length-take-le}
use Rattle.std.proofs.Math.ListN.{drop_of_length-le}
use Rattle.spec_processor.specs.Bytes.{with_padding, page_of, ram_offset, page_size}
use Rattle.spec_processor.specs.Regions.{max_ram_pages}
use Rattle.sv_types.specs.ApprovedPages.{numbers_from}
use Rattle.sv_types.specs.Kernel.{LoadedSegment, is_text_of, text_of, text_page, text_page_in}
use Rattle.elf64_load.specs.Images.{IsWhole, is_text}

-- ---- the segment of a page

-- what a test leaves of a list with one more in front
none_kept : (b : Bool) (x : LoadedSegment) (ys : List LoadedSegment) → (if b then x ∷ ys else ys) ≡ [] → (b ≡ false) × (ys ≡ [])
none_kept true x ys e = absurd (cc e)
none_kept false x ys e = (refl, e)

one_kept : (b : Bool) (x s : LoadedSegment) (ys : List LoadedSegment) → (if b then x ∷ ys else ys) ≡ s ∷ []
    → ((b ≡ true) × (x ≡ s) × (ys ≡ [])) ⊎ ((b ≡ false) × (ys ≡ s ∷ []))
one_kept true x s ys e = inl (refl, cc e, cc e)
one_kept false x s ys e = inr (refl, e)

no_page : (page : ℕ) (x : LoadedSegment) → x.executable ≡ false → is_text_of page x ≡ false
no_page page x e = rw e refl

none_found : (page : ℕ) (ss : List LoadedSegment) → filter is_text ss ≡ [] → find (is_text_of page) ss ≡ None
none_found page [] none = refl
none_found page (x ∷ xs) none =
    let both = none_kept x.executable x (filter is_text xs) none in
    rw (no_page page x both.0) (none_found page xs both.1)

only_found : (page : ℕ) (ss : List LoadedSegment) (s : LoadedSegment) → filter is_text ss ≡ s ∷ []
    → find (is_text_of page) ss ≡ (if is_text_of page s then Some s else None)
only_found page [] s only = absurd (cc only)
only_found page (x ∷ xs) s only = elim (one_kept x.executable x s (filter is_text xs) only) [
  | inl here ↦ rw (none_found page xs here.2) (ap (λ (x : LoadedSegment). if is_text_of page x then Some x else None) here.1)
  | inr behind ↦ rw (no_page page x behind.0) (only_found page xs s behind.1)
]

-- ---- its pages

page_in : LoadedSegment → ℕ → List ℕ
page_in s page = text_page_in page (if is_text_of page s then Some s else None)

pages_are : (ss : List LoadedSegment) (s : LoadedSegment) → filter is_text ss ≡ s ∷ [] → (pages : List ℕ) → flat_map (text_page ss) pages ≡ flat_map (page_in s) pages
unfolding page_in
pages_are ss s only [] = refl
pages_are ss s only (page ∷ pages) =
    ap (λ (o : Option LoadedSegment). text_page_in page o ++ flat_map (text_page ss) pages) (only_found page ss s only)
    ∙ ap (λ (rest : List ℕ). page_in s page ++ rest) (pages_are ss s only pages)

-- ---- all pages

-- where the segment begins and how many pages it has
record Spans (s : LoadedSegment) (first count : ℕ) : Type 0 where
  text : s.executable ≡ true
  place : ram_offset s.gpa ≡ page_size * first
  size : s.memory ≡ page_size * count
  filled : length s.bytes ≡ page_size * count

outside : (s : LoadedSegment) (first count page : ℕ) → Spans s first count → (page < first) ⊎ (first + count ≤ page) → page_in s page ≡ []
unfolding page_in
outside s first count page spans out =
    let none : is_text_of page s ≡ false = let place = spans.place in let size = spans.size in grind (arith, nat_tests) in
    rw none refl

within : (s : LoadedSegment) (first count page : ℕ) → Spans s first count → first ≤ page → page < first + count
    → page_in s page ≡ take page_size (drop (page_size * (page - first)) s.bytes)
unfolding page_in
within s first count page spans from below =
    let place = spans.place in
    let size = spans.size in
    let filled = spans.filled in
    let there : is_text_of page s ≡ true = rw spans.text (grind (arith, nat_tests)) in
    let start : page_of s.gpa ≡ first = omega (arith, place) in
    let dropped = length-drop (page_size * (page - first)) s.bytes in
    let long : page_size ≤ length (drop (page_size * (page - first)) s.bytes) = omega (arith, dropped, filled, below, from) in
    let whole : length (take page_size (drop (page_size * (page - first)) s.bytes)) ≡ page_size = length-take-le page_size (drop (page_size * (page - first)) s.bytes) long in
    rw there
    (ap (λ (f : ℕ). with_padding (take page_size (drop (page_size * (page - f)) s.bytes)) page_size) start
    ∙ ap (λ (n : ℕ). take page_size (drop (page_size * (page - first)) s.bytes) ++ replicate (page_size - n) 0) whole
    ∙ append-nil (take page_size (drop (page_size * (page - first)) s.bytes)))

behind : (s : LoadedSegment) (first count : ℕ) → Spans s first count → (n i : ℕ) → first + count ≤ i → flat_map (page_in s) (numbers_from i n) ≡ []
behind s first count spans zero i past = refl
behind s first count spans (suc n) i past =
    ap (λ (bytes : List ℕ). bytes ++ flat_map (page_in s) (numbers_from (i + 1) n)) (outside s first count i spans (inr past))
    ∙ behind s first count spans n (i + 1) (omega (arith, past))

inside : (s : LoadedSegment) (first count : ℕ) → Spans s first count → (n i : ℕ) → first ≤ i → i ≤ first + count → first + count ≤ i + n
    → flat_map (page_in s) (numbers_from i n) ≡ drop (page_size * (i - first)) s.bytes
inside s first count spans zero i from to enough = let filled = spans.filled in sym (drop_of_length-le s.bytes {i = page_size * (i - first)} (omega (arith, filled, to, enough)))
inside s first count spans (suc n) i from to enough = elim (cases_Bool (nat_lt i (first + count))) [
  | inl below ↦
      let less : i < first + count = grind (arith, nat_tests) in
      let place : page_size * (i - first) + page_size ≡ page_size * (i + 1 - first) = omega (arith, from) in
      let bytes = drop (page_size * (i - first)) s.bytes in
      ap (λ (page : List ℕ). page ++ flat_map (page_in s) (numbers_from (i + 1) n)) (within s first count i spans from less)
      ∙ ap (λ (rest : List ℕ). take page_size bytes ++ rest) (inside s first count spans n (i + 1) (omega (arith, from)) (omega (arith, less)) (omega (arith, enough)))
      ∙ ap (λ (k : ℕ). take page_size bytes ++ drop k s.bytes) (sym place)
      ∙ ap (λ (rest : List ℕ). take page_size bytes ++ rest) (sym (drop-drop page_size (page_size * (i - first)) s.bytes))
      ∙ take-append-drop page_size bytes
  | inr past ↦
      let more : first + count ≤ i = grind (arith, nat_tests) in
      let filled = spans.filled in
      behind s first count spans (suc n) i more ∙ sym (drop_of_length-le s.bytes {i = page_size * (i - first)} (omega (arith, filled, to)))
]

from_below : (s : LoadedSegment) (first count : ℕ) → Spans s first count → (n i : ℕ) → i ≤ first → first + count ≤ i + n
    → flat_map (page_in s) (numbers_from i n) ≡ s.bytes
from_below s first count spans zero i before enough =
    let place : i ≡ first = omega (arith, before, enough) in
    let none : page_size * (i - first) ≡ 0 = omega (arith, place) in
    inside s first count spans zero i (omega (arith, place)) (omega (arith, place)) enough ∙ ap (λ (k : ℕ). drop k s.bytes) none
from_below s first count spans (suc n) i before enough = elim (cases_Bool (nat_lt i first)) [
  | inl below ↦
      let less : i < first = grind (arith, nat_tests) in
      ap (λ (bytes : List ℕ). bytes ++ flat_map (page_in s) (numbers_from (i + 1) n)) (outside s first count i spans (inl less))
      ∙ from_below s first count spans n (i + 1) (omega (arith, less)) (omega (arith, enough))
  | inr there ↦
      let place : i ≡ first = grind (arith, nat_tests) in
      let none : page_size * (i - first) ≡ 0 = omega (arith, place) in
      inside s first count spans (suc n) i (omega (arith, place)) (omega (arith, place)) enough ∙ ap (λ (k : ℕ). drop k s.bytes) none
]

text_kept : (ss : List LoadedSegment) (s : LoadedSegment) → filter is_text ss ≡ s ∷ [] → s.executable ≡ true
text_kept [] s only = absurd (cc only)
text_kept (x ∷ xs) s only = elim (one_kept x.executable x s (filter is_text xs) only) [
  | inl here ↦ ap (λ (x : LoadedSegment). x.executable) (sym here.1) ∙ here.0
  | inr behind ↦ text_kept xs s behind.1
]

pub whole_text : (ss : List LoadedSegment) (s : LoadedSegment) → filter is_text ss ≡ s ∷ [] → IsWhole s → s.bytes ≡ text_of ss
unfolding text_of
whole_text ss s only whole =
    let first = whole.first in
    let pages = whole.pages in
    let filled = whole.filled in
    let inside = whole.inside in
    let spans : Spans s (ram_offset s.gpa / page_size) (s.memory / page_size) = record {
      text = text_kept ss s only;
      place = omega (arith, first);
      size = omega (arith, pages);
      filled = filled ∙ omega (arith, pages);
    } in
    sym (pages_are ss s only (numbers_from 0 max_ram_pages)
    ∙ from_below s (ram_offset s.gpa / page_size) (s.memory / page_size) spans max_ram_pages 0 (omega arith) (omega (arith, inside)))
