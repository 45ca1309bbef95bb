-- Which pages are text.
use Rattle.std.proofs.Common.{◌≡◌, ℕ, zero, suc, ◌+◌, ◌-◌, ◌*◌, ◌<◌, ◌≤◌, Bool, true, false, List, [], ◌∷◌, filter, length, get_or, refl, sym, ◌∙◌, ap, arith, inl, inr}
use Rattle.std.specs.Prelude.{nat_lt, nat_le, not, ◌||◌, ◌&&◌, if◌then◌else◌}
use Rattle.std.specs.List.{list_any, All}
use Rattle.std.proofs.lemmas.Bool.Decides.{nat_tests}
use Rattle.std.proofs.lemmas.List.Elements.{All-head, All-tail}
use Rattle.sv_types.specs.ApprovedPages.{numbers_from}
use Rattle.spec_processor.specs.Bytes.{page_size, page_of, ram_offset}
use Rattle.sv_types.specs.Kernel.{LoadedSegment, text_pages, is_text_of}
use Rattle.spec_processor.specs.Regions.{max_ram_pages}
use Rattle.laws_processor.proofs.ByteLemmas.{lt_or_le}
use Rattle.elf64_load.specs.Images.{text_owner, IsPlaced}
use Rattle.secvisor_core.specs.Placed.{ArePlaced}

-- ---- an owner's number tells

below_suc : (a b : ℕ) → nat_lt (1 + a) (suc b) ≡ nat_lt a b
below_suc a b = elim (lt_or_le a b) [
  | inl below ↦
      let x : nat_lt (1 + a) (suc b) ≡ true = grind (arith, nat_tests) in
      let y : nat_lt a b ≡ true = grind (arith, nat_tests) in x ∙ sym y
  | inr past ↦
      let x : nat_lt (1 + a) (suc b) ≡ false = grind (arith, nat_tests) in
      let y : nat_lt a b ≡ false = grind (arith, nat_tests) in x ∙ sym y
]

pub owner_tells : (page : ℕ) (ss : List LoadedSegment) → nat_lt (text_owner page ss) (length ss) ≡ list_any (is_text_of page) ss
owner_tells page [] = refl
owner_tells page (s ∷ ss) = by page ss (is_text_of page s) (owner_tells page ss)
  where
    by : (page : ℕ) (ss : List LoadedSegment) (b : Bool) → nat_lt (text_owner page ss) (length ss) ≡ list_any (is_text_of page) ss
        → nat_lt (if not b then 1 + text_owner page ss else 0) (suc (length ss)) ≡ (b || list_any (is_text_of page) ss)
    by page ss true rest = let first : nat_lt 0 (suc (length ss)) ≡ true = grind (arith, nat_tests) in first
    by page ss false rest = below_suc (text_owner page ss) (length ss) ∙ rest

pub same_item : (xs : List ℕ) (i d e : ℕ) → i < length xs → get_or xs i d ≡ get_or xs i e
same_item [] i d e before = absurd (omega arith)
same_item (x ∷ xs) zero d e before = refl
same_item (x ∷ xs) (suc i) d e before = same_item xs i d e (omega arith)

-- ---- text lies in RAM

not_text : (size page : ℕ) (s : LoadedSegment) → IsPlaced size s → size ≤ page_size * page → is_text_of page s ≡ false
not_text size page s placed past =
    let inside = placed.inside in
    let none : nat_lt (page_size * page) (ram_offset s.gpa + s.memory) ≡ false = grind (arith, nat_tests) in
    by s.executable (nat_le (page_of s.gpa) page) (nat_lt (page_size * page) (ram_offset s.gpa + s.memory)) none
  where
    by : (a b c : Bool) → c ≡ false → (a && (b && c)) ≡ false
    by true true c none = none
    by true false c none = refl
    by false b c none = refl

no_text : (size page : ℕ) (ss : List LoadedSegment) → All (IsPlaced size) ss → size ≤ page_size * page → list_any (is_text_of page) ss ≡ false
no_text size page [] placed past = refl
no_text size page (s ∷ ss) placed past =
    rw (not_text size page s (All-head (IsPlaced size) s ss placed) past) (no_text size page ss (All-tail (IsPlaced size) s ss placed) past)

none_picked : (picks : ℕ → Bool) (first n : ℕ) → ((page : ℕ) → first ≤ page → picks page ≡ false) → filter picks (numbers_from first n) ≡ []
none_picked picks first zero none = refl
none_picked picks first (suc n) none = rw (none first (omega arith), none_picked picks (first + 1) n (λ page low. none page (omega arith))) refl

first_picked : (picks : ℕ → Bool) (first n more : ℕ) → ((page : ℕ) → first + n ≤ page → picks page ≡ false)
    → filter picks (numbers_from first (n + more)) ≡ filter picks (numbers_from first n)
first_picked picks first zero more none =
    let e : 0 + more ≡ more = omega arith in rw e (none_picked picks first more (λ page low. none page (omega arith)))
first_picked picks first (suc n) more none =
    let e : suc n + more ≡ suc (n + more) = omega arith in rw (e, first_picked picks (first + 1) n more (λ page low. none page (omega arith))) refl

-- a test of the pages of RAM finds all of the text
pub text_in_ram : (ss : List LoadedSegment) (ram_pages : ℕ) → ram_pages ≤ max_ram_pages → ArePlaced ram_pages ss
    → text_pages ss ≡ filter (λ page. list_any (is_text_of page) ss) (numbers_from 0 ram_pages)
unfolding text_pages
text_in_ram ss ram_pages few placed =
    let picks = λ (page : ℕ). list_any (is_text_of page) ss in
    let e : ram_pages + (max_ram_pages - ram_pages) ≡ max_ram_pages = omega arith in
    sym (ap (λ n. filter picks (numbers_from 0 n)) e)
    ∙ first_picked picks 0 ram_pages (max_ram_pages - ram_pages) (λ page low. no_text (page_size * ram_pages) page ss placed (omega arith))
