-- Free pages that are held and then approved.
use Rattle.std.proofs.Common.{◌≡◌, ℕ, suc, ◌+◌, ◌-◌, ◌<◌, ◌≤◌, Bool, true, false, List, ◌∷◌, filter, refl, ◌∙◌, ap, arith, slice_set, slice_get, Some, None}
use Rattle.std.specs.Prelude.{if◌then◌else◌}
use Rattle.std.proofs.lemmas.List.{set-set}
use Rattle.sv_types.specs.ApprovedPages.{numbers_from}
use Rattle.sv_types.specs.declared.protection.Protection.{Protection}
use Rattle.sv_types.specs.declared.protection.Protection.TheVariants.{Free, Held, Approved}
use Rattle.spec_reference.specs.Protections.{with_pages, with_each}
use Rattle.page_guard.specs.Guarded.{first_taken}
use Rattle.sv_types.proofs.SetElements.{set_other}

-- ---- one page

pub one_set : (guard : List Protection) (page : ℕ) → with_pages (with_pages guard page 1 Held) page 1 Approved ≡ slice_set guard page Approved
unfolding with_pages
one_set guard page = let e : page + 0 ≡ page = omega arith in rw e (set-set guard page Held Approved)

pub none_taken : (guard : List Protection) (page : ℕ) → slice_get guard page ≡ Some Free → first_taken guard (record { first = page; count = 1 }) ≡ None
unfolding first_taken
none_taken guard page free = rw free refl

-- the list with a page approved, where a test says so
abbrev pub approved_where : Bool → List Protection → ℕ → List Protection
approved_where test guard page = if test then slice_set guard page Approved else guard

-- ---- all pages

-- the pages after it stay as they are
pub after_kept : (test : Bool) (guard : List Protection) (page q : ℕ) → page < q → slice_get (approved_where test guard page) q ≡ slice_get guard q
after_kept true guard page q before = set_other guard page q Approved (λ same. omega (arith, before, same))
after_kept false guard page q before = refl

next_tested : (test : Bool) (guard : List Protection) (page : ℕ) (pages : List ℕ)
    → with_each guard (if test then page ∷ pages else pages) Approved ≡ with_each (approved_where test guard page) pages Approved
unfolding with_each
next_tested true guard page pages = refl
next_tested false guard page pages = refl

-- the next of the pages that a test picks
pub next_page : (picks : ℕ → Bool) (guard : List Protection) (page n : ℕ) → page < n
    → with_each guard (filter picks (numbers_from page (n - page))) Approved
    ≡ with_each (approved_where (picks page) guard page) (filter picks (numbers_from (page + 1) (n - (page + 1)))) Approved
next_page picks guard page n before =
    let e : n - page ≡ suc (n - (page + 1)) = omega arith in
    ap (λ k. with_each guard (filter picks (numbers_from page k)) Approved) e
    ∙ next_tested (picks page) guard page (filter picks (numbers_from (page + 1) (n - (page + 1))))

-- none is left
pub last_page : (picks : ℕ → Bool) (guard : List Protection) (page n : ℕ) → n ≤ page
    → with_each guard (filter picks (numbers_from page (n - page))) Approved ≡ guard
unfolding with_each
last_page picks guard page n past =
    let e : n - page ≡ 0 = omega arith in ap (λ k. with_each guard (filter picks (numbers_from page k)) Approved) e
