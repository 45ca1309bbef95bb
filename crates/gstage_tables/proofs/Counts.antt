-- The taken pages of blocks, as a page's protection changes.
use Rattle.std.proofs.Common.{◌≡◌, ◌≢◌, ℕ, zero, suc, ◌+◌, ◌*◌, ◌/◌, ◌<◌, ◌≤◌, inl, inr, ◌⊎◌, true, false, List, [], ◌∷◌, length, refl, sym, ap, subst, ◌∙◌, arith}
use Rattle.std.specs.Prelude.{Bool, nat_le, ◌==◌, ◌&&◌, slice_set, slice_index_or, replicate}
use borrow.Author.Tests.{ne_eqb, eq-eqb}
use Rattle.std.proofs.lemmas.Bool.{leb-true}
use Rattle.sv_types.specs.Views.{OfKernel, protect, all_free}
use Rattle.sv_types.specs.declared.protection.Protection.{Protection}
use Rattle.sv_types.specs.declared.protection.Protection.TheVariants.{Free, Held, Approved}
use Rattle.laws_processor.proofs.ByteLemmas.{lt_or_le}
use Rattle.gstage_tables.specs.Layout.{leaf}
use Rattle.sv_types.specs.Protections.{is_free}
use Rattle.gstage_tables.specs.Blocks.{lies_in_ram, one_if_taken, taken_among, taken_pages, is_whole, is_whole_by, count_after, CountsTaken}

pub data Same (a b : ℕ) : Type 0 where
  equal : a ≡ b → Same a b
  unequal : a ≢ b → Same a b

pub same_or_not : (a b : ℕ) → Same a b
same_or_not a b = elim (lt_or_le a b) [ inl l ↦ unequal (omega arith) | inr le ↦ elim (lt_or_le b a) [ inl l ↦ unequal (omega arith) | inr ge ↦ equal (omega arith) ] ]

one_at_most : (p : Protection) → one_if_taken p ≤ 1
one_at_most Free = omega arith
one_at_most Held = omega arith
one_at_most Approved = omega arith

free_is : (p : Protection) → one_if_taken p ≡ 0 → p ≡ Free
free_is Free none = refl
free_is Held none = absurd (omega arith)
free_is Approved none = absurd (omega arith)

-- where none is taken, each is free
pub all_are_free : (ps : ℕ → Protection) (first count : ℕ) → taken_among ps first count ≡ 0 → (j : ℕ) → j < count → ps (first + j) ≡ Free
unfolding taken_among
all_are_free ps first zero none j l = absurd (omega arith)
all_are_free ps first (suc count) none j l = elim (lt_or_le j count) [
  | inl less ↦ all_are_free ps first count (omega arith) j less
  | inr most ↦ let same : j ≡ count = omega arith in
      ap (λ (i : ℕ). ps (first + i)) same ∙ free_is (ps (first + count)) (omega arith)
]

pub among_few : (ps : ℕ → Protection) (first count : ℕ) → taken_among ps first count ≤ count
unfolding taken_among
among_few ps first zero = omega arith
among_few ps first (suc count) =
    let before = among_few ps first count in
    let last = one_at_most (ps (first + count)) in omega arith

pub none_among : (first count : ℕ) → taken_among all_free first count ≡ 0
unfolding taken_among
none_among first zero = refl
none_among first (suc count) = let before = none_among first count in omega arith

module _ (ps : ℕ → Protection) (page : ℕ) (x : Protection) where
  abbrev now : ℕ → Protection
  now = protect ps page x

  at_page : now page ≡ x
  at_page = let e : (page == page) ≡ true = eq-eqb page page refl in rw e refl

  at_other : (p : ℕ) → p ≢ page → now p ≡ ps p
  at_other p ne = let e : (p == page) ≡ false = ne_eqb p page ne in rw e refl

  -- among other pages nothing changes
  pub among_kept : (first count : ℕ) → (page < first) ⊎ (first + count ≤ page) → taken_among now first count ≡ taken_among ps first count
  unfolding taken_among
  among_kept first zero apart = refl
  among_kept first (suc count) apart =
      let ne : first + count ≢ page = elim apart [ inl below ↦ omega arith | inr above ↦ omega arith ] in
      let before = among_kept first count (elim apart [ inl below ↦ inl below | inr above ↦ inr (omega arith) ]) in
      let last : one_if_taken (now (first + count)) ≡ one_if_taken (ps (first + count)) = ap one_if_taken (at_other (first + count) ne) in
      omega arith

  -- among pages with this one, its own count changes
  pub among_changed : (first count : ℕ) → first ≤ page → page < first + count → taken_among now first count + one_if_taken (ps page) ≡ taken_among ps first count + one_if_taken x
  unfolding taken_among
  among_changed first zero low high = absurd (omega arith)
  among_changed first (suc count) low high = elim (lt_or_le page (first + count)) [
    | inl below ↦
        let ne : first + count ≢ page = omega arith in
        let before = among_changed first count low below in
        let last : one_if_taken (now (first + count)) ≡ one_if_taken (ps (first + count)) = ap one_if_taken (at_other (first + count) ne) in
        omega arith
    | inr most ↦
        let same : first + count ≡ page = omega arith in
        let before = among_kept first count (inr (omega arith)) in
        let last : one_if_taken (now (first + count)) ≡ one_if_taken x = ap (λ (p : ℕ). one_if_taken (now p)) same ∙ ap one_if_taken at_page in
        let was : one_if_taken (ps (first + count)) ≡ one_if_taken (ps page) = ap (λ (p : ℕ). one_if_taken (ps p)) same in
        omega arith
  ]

  pub block_changed : (block : ℕ) → page / 512 ≡ block → taken_pages now block + one_if_taken (ps page) ≡ taken_pages ps block + one_if_taken x
  unfolding taken_pages
  block_changed block is = among_changed (512 * block) 512 (omega arith) (omega arith)

  pub block_kept : (block : ℕ) → page / 512 ≢ block → taken_pages now block ≡ taken_pages ps block
  unfolding taken_pages
  block_kept block ne = among_kept (512 * block) 512 (elim (lt_or_le page (512 * block)) [ inl below ↦ inl below | inr above ↦ inr (omega arith) ])

pub block_few : (ps : ℕ → Protection) (block : ℕ) → taken_pages ps block ≤ 512
unfolding taken_pages
block_few ps block = among_few ps (512 * block) 512

pub block_free : (ps : ℕ → Protection) (block : ℕ) → taken_pages ps block ≡ 0 → (j : ℕ) → j < 512 → ps (512 * block + j) ≡ Free
unfolding taken_pages
block_free ps block none = all_are_free ps (512 * block) 512 none

pub block_none : (block : ℕ) → taken_pages all_free block ≡ 0
unfolding taken_pages
block_none block = none_among (512 * block) 512

-- ---- counts by block

-- by a test
pub by_test : {A : Type 0} (b : Bool) {c : Bool} → c ≡ b → (c ≡ true → A) → (c ≡ false → A) → A
by_test true is yes_case no_case = yes_case is
by_test false is yes_case no_case = no_case is

pub whole_by_counts : (counts : List ℕ) (pages : ℕ) (ps : ℕ → Protection) (block : ℕ) → CountsTaken counts pages ps → is_whole_by counts pages block ≡ is_whole pages ps block
whole_by_counts counts pages ps block h = by_test (nat_le (512 * block + 512) pages) refl
    (λ lies. ap (λ (count : ℕ). nat_le (512 * block + 512) pages && count == 0) (h.each block (leb-true (512 * block + 512) pages lies)))
    (λ out. rw out refl)

index_same : (xs : List ℕ) (i v : ℕ) → i < length xs → slice_index_or (slice_set xs i v) i 0 ≡ v
index_same [] i v l = absurd (omega arith)
index_same (x ∷ xs) zero v l = refl
index_same (x ∷ xs) (suc i) v l = index_same xs i v (omega arith)

index_other : (xs : List ℕ) (i j v : ℕ) → i ≢ j → slice_index_or (slice_set xs i v) j 0 ≡ slice_index_or xs j 0
index_other [] i j v ne = refl
index_other (x ∷ xs) zero zero v ne = absurd (ne refl)
index_other (x ∷ xs) zero (suc j) v ne = refl
index_other (x ∷ xs) (suc i) zero v ne = refl
index_other (x ∷ xs) (suc i) (suc j) v ne = index_other xs i j v (λ e. ne (ap suc e))

recount_is : (count new : ℕ) (was x : Protection) → count ≤ 512 → new + one_if_taken was ≡ count + one_if_taken x → count_after count (is_free was) (is_free x) ≡ new
recount_is count new Free Free few e = omega arith
recount_is count new Free Held few e = omega arith
recount_is count new Free Approved few e = omega arith
recount_is count new Held Free few e = omega arith
recount_is count new Held Held few e = omega arith
recount_is count new Held Approved few e = omega arith
recount_is count new Approved Free few e = omega arith
recount_is count new Approved Held few e = omega arith
recount_is count new Approved Approved few e = omega arith

pub counts_set : (counts : List ℕ) (pages : ℕ) (ps : ℕ → Protection) (page : ℕ) (x : Protection) → CountsTaken counts pages ps → page / 512 < length counts
    → CountsTaken (slice_set counts (page / 512) (count_after (slice_index_or counts (page / 512) 0) (is_free (ps page)) (is_free x))) pages (protect ps page x)
counts_set counts pages ps page x h reach = record {
  each = λ block lies. elim (same_or_not (page / 512) block) [
    | equal same ↦ subst (λ (b : ℕ). slice_index_or (slice_set counts (page / 512) (count_after (slice_index_or counts (page / 512) 0) (is_free (ps page)) (is_free x))) b 0
        ≡ taken_pages (protect ps page x) b) same
        (index_same counts (page / 512) _ reach ∙ ap (λ (count : ℕ). count_after count (is_free (ps page)) (is_free x)) (h.each (page / 512) (subst (λ (b : ℕ). 512 * b + 512 ≤ pages) (sym same) lies))
        ∙ recount_is (taken_pages ps (page / 512)) (taken_pages (protect ps page x) (page / 512)) (ps page) x (block_few ps (page / 512)) (block_changed ps page x (page / 512) refl))
    | unequal ne ↦ index_other counts (page / 512) block _ ne ∙ h.each block lies ∙ sym (block_kept ps page x block ne)
  ];
}

pub counts_first : (pages n : ℕ) → CountsTaken (replicate n 0) pages all_free
counts_first pages n = record { each = λ block lies. zero_at n block ∙ sym (block_none block) }
  where
    zero_at : (n i : ℕ) → slice_index_or (replicate {A = ℕ} n 0) i 0 ≡ 0
    zero_at zero i = refl
    zero_at (suc n) zero = refl
    zero_at (suc n) (suc i) = zero_at n i

-- whether its block is whole once a page's protection is set
pub whole_after : (counts : List ℕ) (pages : ℕ) (ps : ℕ → Protection) (page : ℕ) (x : Protection) → CountsTaken counts pages ps → page / 512 < length counts
    → (lies_in_ram pages (page / 512) && count_after (slice_index_or counts (page / 512) 0) (is_free (ps page)) (is_free x) == 0) ≡ is_whole pages (protect ps page x) (page / 512)
whole_after counts pages ps page x h reach =
    ap (λ (count : ℕ). lies_in_ram pages (page / 512) && count == 0) (sym (index_same counts (page / 512) (count_after (slice_index_or counts (page / 512) 0) (is_free (ps page)) (is_free x)) reach))
    ∙ whole_by_counts (slice_set counts (page / 512) (count_after (slice_index_or counts (page / 512) 0) (is_free (ps page)) (is_free x))) pages (protect ps page x) (page / 512)
    (counts_set counts pages ps page x h reach)

-- a page's entry in kernel mode's tree tells whether it is free
pub free_told : (a b host page : ℕ) (x : Protection) → a ≡ leaf OfKernel page x host → b ≡ leaf OfKernel page Free host → (a == b) ≡ is_free x
free_told a b host page Free e f = eq-eqb a b (e ∙ sym f)
free_told a b host page Held e f = ne_eqb a b (λ same. absurd (omega (arith, e, f, same)))
free_told a b host page Approved e f = ne_eqb a b (λ same. absurd (omega (arith, e, f, same)))
