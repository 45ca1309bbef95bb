-- Pages that are freed one after another.
use Rattle.std.proofs.Common.{◌≡◌, ℕ, zero, suc, ◌+◌, ◌≤◌, List, [], ◌∷◌, ◌++◌, refl, sym, ◌∙◌, ap, Bool, true, false, filter, slice_get, slice_set, arith}
use Rattle.std.specs.Prelude.{Option, Some, None, if◌then◌else◌}
use Rattle.sv_types.specs.ApprovedPages.{numbers_from}
use Rattle.sv_types.specs.declared.protection.Protection.{Protection}
use Rattle.sv_types.specs.declared.protection.Protection.TheVariants.{Free, Held, Approved}
use Rattle.spec_reference.specs.Protections.{or_free, protection_at, freed_one, freed_by, with_each, with_pages}
use Rattle.sv_types.specs.declared.module.Span.{Span}
use Rattle.sv_types.specs.Protections.{is_approved}
use Rattle.page_guard.specs.Guarded.{AllAre, with_span}
use Rattle.sv_types.proofs.PageNumbers.{numbers_more}
use Rattle.sv_types.proofs.SetElements.{set_other}

-- a page that is after those that were freed is as it was
freed_kept : (picks : ℕ → Protection → Bool) (guard : List Protection) (first count k : ℕ) → count ≤ k → slice_get (freed_by picks guard first count) (first + k) ≡ slice_get guard (first + k)
unfolding freed_by
freed_kept picks guard first zero k behind = refl
freed_kept picks guard first (suc count) k behind =
    by (picks (first + count) (protection_at (freed_by picks guard first count) (first + count))) (freed_kept picks guard first count k (omega (arith, behind)))
  where
    by : (b : Bool) → slice_get (freed_by picks guard first count) (first + k) ≡ slice_get guard (first + k)
        → slice_get (if b then slice_set (freed_by picks guard first count) (first + count) Free else freed_by picks guard first count) (first + k) ≡ slice_get guard (first + k)
    by true before = set_other (freed_by picks guard first count) (first + count) (first + k) Free (λ same. absurd (omega (arith, behind, same))) ∙ before
    by false before = before

next_as_it_was : (picks : ℕ → Protection → Bool) (guard : List Protection) (first count : ℕ)
    → protection_at (freed_by picks guard first count) (first + count) ≡ protection_at guard (first + count)
next_as_it_was picks guard first count = ap or_free (freed_kept picks guard first count count (omega arith))

-- one page more
pub freed_more : (picks : ℕ → Protection → Bool) (guard : List Protection) (first count : ℕ)
    → freed_one picks (freed_by picks guard first count) (first + count) ≡ freed_by picks guard first (count + 1)
unfolding freed_by
freed_more picks guard first count = let one : count + 1 ≡ suc count = omega arith in rw one refl

-- ---- pages that are freed one after another, each judged when its turn comes, are those that were picked before

filter_more : (test : ℕ → Bool) (xs : List ℕ) (x : ℕ) → filter test (xs ++ x ∷ []) ≡ (if test x then filter test xs ++ x ∷ [] else filter test xs)
filter_more test [] x = refl
filter_more test (y ∷ xs) x = by (test y) (test x) (filter_more test xs x)
  where
    by : (a b : Bool) → filter test (xs ++ x ∷ []) ≡ (if b then filter test xs ++ x ∷ [] else filter test xs)
        → (if a then y ∷ filter test (xs ++ x ∷ []) else filter test (xs ++ x ∷ [])) ≡
        (if b then (if a then y ∷ filter test xs else filter test xs) ++ x ∷ [] else (if a then y ∷ filter test xs else filter test xs))
    by true true e = ap (◌∷◌ y) e
    by true false e = ap (◌∷◌ y) e
    by false true e = e
    by false false e = e

each_more : (guard : List Protection) (pages : List ℕ) (page : ℕ) (p : Protection) → with_each guard (pages ++ page ∷ []) p ≡ slice_set (with_each guard pages p) page p
unfolding with_each
each_more guard [] page p = refl
each_more guard (q ∷ pages) page p = each_more (slice_set guard q p) pages page p

last_page : (b : Bool) (guard : List Protection) (pages : List ℕ) (page : ℕ)
    → (if b then slice_set (with_each guard pages Free) page Free else with_each guard pages Free) ≡ with_each guard (if b then pages ++ page ∷ [] else pages) Free
last_page true guard pages page = sym (each_more guard pages page Free)
last_page false guard pages page = refl

abbrev pub picks_page : (ℕ → Protection → Bool) → List Protection → ℕ → Bool
picks_page picks guard page = picks page (protection_at guard page)

pub freed_each : (picks : ℕ → Protection → Bool) (guard : List Protection) (first count : ℕ)
    → freed_by picks guard first count ≡ with_each guard (filter (picks_page picks guard) (numbers_from first count)) Free
unfolding freed_by with_each
freed_each picks guard first zero = refl
freed_each picks guard first (suc count) =
    let page : ℕ = first + count in
    let before : List Protection = freed_by picks guard first count in
    let pages : List ℕ = filter (picks_page picks guard) (numbers_from first count) in
    ap (λ (x : Protection). if picks page x then slice_set before page Free else before) (next_as_it_was picks guard first count)
    ∙ ap (λ (g : List Protection). if picks_page picks guard page then slice_set g page Free else g) (freed_each picks guard first count)
    ∙ last_page (picks_page picks guard page) guard pages page
    ∙ ap (λ (list : List ℕ). with_each guard list Free) (sym (filter_more (picks_page picks guard) (numbers_from first count) page))
    ∙ ap (λ (list : List ℕ). with_each guard (filter (picks_page picks guard) list) Free) (sym (numbers_more first count))

-- ---- one page

abbrev pub one_page : ℕ → Span
one_page page = record { first = page; count = 1 }

approved_is : (o : Option Protection) → is_approved (or_free o) ≡ true → o ≡ Some Approved
approved_is None e = cc
approved_is (Some Free) e = cc
approved_is (Some Held) e = cc
approved_is (Some Approved) e = refl

pub one_approved : (guard : List Protection) (page : ℕ) → is_approved (protection_at guard page) ≡ true → AllAre guard (one_page page) Approved
one_approved guard page approved = record {
  each = λ i below. let here : page + i ≡ page = omega (arith, below) in ap (λ (k : ℕ). slice_get guard k) here ∙ approved_is (slice_get guard page) approved;
}

pub one_freed : (guard : List Protection) (page : ℕ) → with_span guard (one_page page) Free ≡ slice_set guard page Free
unfolding with_pages
one_freed guard page = let here : page + 0 ≡ page = omega arith in ap (λ (k : ℕ). slice_set guard k Free) here

-- as a test picks the page
pub freed_where : (picks : ℕ → Protection → Bool) (guard : List Protection) (page : ℕ) → picks page (protection_at guard page) ≡ true → slice_set guard page Free ≡ freed_one picks guard page
freed_where picks guard page picked = ap (λ (b : Bool). if b then slice_set guard page Free else guard) (sym picked)

pub kept_where : (picks : ℕ → Protection → Bool) (guard : List Protection) (page : ℕ) → picks page (protection_at guard page) ≡ false → guard ≡ freed_one picks guard page
kept_where picks guard page other = ap (λ (b : Bool). if b then slice_set guard page Free else guard) (sym other)
