-- Pages that are taken in order: a span of free ones, a page that isn't free, and some after others.
use Rattle.std.proofs.Common.{◌≡◌, ℕ, zero, suc, ◌+◌, ◌<◌, ◌≤◌, List, [], ◌∷◌, ◌++◌, length, refl, ◌∙◌, ap, subst, Bool, true, false, not, ◌||◌, arith, slice_set}
use Rattle.std.specs.Prelude.{Option, Some, None, find, if◌then◌else◌, ◌==◌}
use Rattle.std.proofs.lemmas.Bool.{eqb-true, eq-eqb, or_right}
use Rattle.std.proofs.lemmas.List.{set-set, set_comm}
use Rattle.sv_types.specs.ApprovedPages.{numbers_from}
use Rattle.sv_types.specs.declared.protection.Protection.{Protection}
use Rattle.sv_types.specs.Protections.{is_free}
use Rattle.spec_reference.specs.Protections.{protection_at, with_pages, is_taken}
use Rattle.spec_reference.specs.States.{has_number}
use Rattle.snapshot_format.specs.Judgements.{take_pages}
use Rattle.sv_types.proofs.PageNumbers.{numbers_more}

-- ---- one page set

pub set_beside : (guard : List Protection) (page q : ℕ) (p : Protection) → (page ≡ q → ⊥) → protection_at (slice_set guard page p) q ≡ protection_at guard q
set_beside [] page q p other = refl
set_beside (x ∷ guard) zero zero p other = absurd (other refl)
set_beside (x ∷ guard) zero (suc q) p other = refl
set_beside (x ∷ guard) (suc page) zero p other = refl
set_beside (x ∷ guard) (suc page) (suc q) p other = set_beside guard page q p (λ s. other (ap suc s))

pub set_past : (guard : List Protection) (page : ℕ) (p : Protection) → length guard ≤ page → guard ≡ slice_set guard page p
set_past [] page p past = refl
set_past (x ∷ guard) zero p past = absurd (omega (arith, past))
set_past (x ∷ guard) (suc page) p past = ap (◌∷◌ x) (set_past guard page p (omega (arith, past)))

-- ---- a span set

span_beside : (guard : List Protection) (first count q : ℕ) (p : Protection) → first + count ≤ q → protection_at (with_pages guard first count p) q ≡ protection_at guard q
unfolding with_pages
span_beside guard first zero q p past = refl
span_beside guard first (suc count) q p past =
    set_beside (with_pages guard first count p) (first + count) q p (λ s. omega (arith, past, s)) ∙ span_beside guard first count q p (omega (arith, past))

span_after : (guard : List Protection) (first count k : ℕ) (p q : Protection) → first + count ≤ k → with_pages (slice_set guard k p) first count q ≡ slice_set (with_pages guard first count q) k p
unfolding with_pages
span_after guard first zero k p q past = refl
span_after guard first (suc count) k p q past =
    ap (λ (g : List Protection). slice_set g (first + count) q) (span_after guard first count k p q (omega (arith, past)))
    ∙ set_comm (with_pages guard first count q) k (first + count) p q (λ s. omega (arith, past, s))

-- the later protection counts
pub span_twice : (guard : List Protection) (first count : ℕ) (p q : Protection) → with_pages (with_pages guard first count p) first count q ≡ with_pages guard first count q
unfolding with_pages
span_twice guard first zero p q = refl
span_twice guard first (suc count) p q =
    ap (λ (g : List Protection). slice_set g (first + count) q) (span_after (with_pages guard first count p) first count (first + count) p q (omega arith))
    ∙ set-set (with_pages (with_pages guard first count p) first count q) (first + count) p q
    ∙ ap (λ (g : List Protection). slice_set g (first + count) q) (span_twice guard first count p q)

-- ---- some, and others after them

abbrev pub then_taken : Protection → Option (List Protection) → List ℕ → Option (List Protection)
then_taken p None pages = None
then_taken p (Some guard) pages = take_pages p guard pages

pub taken_after : (p : Protection) (guard : List Protection) (some others : List ℕ) → take_pages p guard (some ++ others) ≡ then_taken p (take_pages p guard some) others
taken_after p guard [] others = refl
taken_after p guard (page ∷ pages) others = by (is_free (protection_at guard page)) (taken_after p (slice_set guard page p) pages others)
  where
    by : (b : Bool) → take_pages p (slice_set guard page p) (pages ++ others) ≡ then_taken p (take_pages p (slice_set guard page p) pages) others
        → (if b then take_pages p (slice_set guard page p) (pages ++ others) else None) ≡ then_taken p (if b then take_pages p (slice_set guard page p) pages else None) others
    by true rest = rest
    by false rest = refl

-- ---- a span taken

abbrev AllFree : List Protection → (first count : ℕ) → Type 0
AllFree guard first count = (i : ℕ) → i < count → is_free (protection_at guard (first + i)) ≡ true

taken_free : (p : Protection) (guard : List Protection) (first count : ℕ) → AllFree guard first count → take_pages p guard (numbers_from first count) ≡ Some (with_pages guard first count p)
unfolding with_pages
taken_free p guard first zero free = refl
taken_free p guard first (suc count) free =
    let last : is_free (protection_at (with_pages guard first count p) (first + count)) ≡ true =
    ap is_free (span_beside guard first count (first + count) p (omega arith)) ∙ free count (omega arith) in
    ap (take_pages p guard) (numbers_more first count)
    ∙ taken_after p guard (numbers_from first count) ((first + count) ∷ [])
    ∙ ap (λ (g : Option (List Protection)). then_taken p g ((first + count) ∷ [])) (taken_free p guard first count (λ i below. free i (omega (arith, below))))
    ∙ ap (λ (b : Bool). if b then Some (slice_set (with_pages guard first count p) (first + count) p) else None) last

free_by : (b : Bool) (rest : Option ℕ) (page : ℕ) → (if not b then Some page else rest) ≡ None → (b ≡ true) × (rest ≡ None)
free_by true rest page none = (refl, none)
free_by false rest page none = absurd cc

none_busy : (guard : List Protection) (first count : ℕ) → find (is_taken guard) (numbers_from first count) ≡ None → AllFree guard first count
none_busy guard first zero none i below = absurd (omega (arith, below))
none_busy guard first (suc count) none zero below =
    let same : first ≡ first + 0 = omega arith in
    subst (λ (k : ℕ). is_free (protection_at guard k) ≡ true) same (free_by (is_free (protection_at guard first)) (find (is_taken guard) (numbers_from (first + 1) count)) first none).0
none_busy guard first (suc count) none (suc i) below =
    let same : first + 1 + i ≡ first + suc i = omega arith in
    subst (λ (k : ℕ). is_free (protection_at guard k) ≡ true) same
    (none_busy guard (first + 1) count (free_by (is_free (protection_at guard first)) (find (is_taken guard) (numbers_from (first + 1) count)) first none).1 i (omega (arith, below)))

-- a span without a page that isn't free is taken whole
pub taken_span : (p : Protection) (guard : List Protection) (first count : ℕ) → find (is_taken guard) (numbers_from first count) ≡ None
    → take_pages p guard (numbers_from first count) ≡ Some (with_pages guard first count p)
taken_span p guard first count none = taken_free p guard first count (none_busy guard first count none)

-- ---- a page that isn't free

busy_by : (p : Protection) (guard : List Protection) (page : ℕ) (pages : List ℕ) (q : ℕ) (b same : Bool) → is_free (protection_at guard page) ≡ b → (page == q) ≡ same
    → (same || has_number pages q) ≡ true → is_free (protection_at guard q) ≡ false
    → (has_number pages q ≡ true → is_free (protection_at (slice_set guard page p) q) ≡ false → take_pages p (slice_set guard page p) pages ≡ None)
    → (if b then take_pages p (slice_set guard page p) pages else None) ≡ None
busy_by p guard page pages q false same at is there busy rest = refl
busy_by p guard page pages q true true at is there busy rest =
    let here : is_free (protection_at guard q) ≡ true = subst (λ (k : ℕ). is_free (protection_at guard k) ≡ true) (eqb-true page q is) at in absurd cc
busy_by p guard page pages q true false at is there busy rest =
    let apart : page ≡ q → ⊥ = λ s. let here : (page == q) ≡ true = eq-eqb page q s in cc in
    rest there (ap is_free (set_beside guard page q p apart) ∙ busy)

taken_busy : (p : Protection) (guard : List Protection) (pages : List ℕ) (q : ℕ) → has_number pages q ≡ true → is_free (protection_at guard q) ≡ false → take_pages p guard pages ≡ None
taken_busy p guard [] q there busy = absurd cc
taken_busy p guard (page ∷ pages) q there busy =
    busy_by p guard page pages q (is_free (protection_at guard page)) (page == q) refl refl there busy (λ later still. taken_busy p (slice_set guard page p) pages q later still)

found_by : (b : Bool) (rest : Option ℕ) (page q : ℕ) (is_there : Bool) (at : Bool) → (if not b then Some page else rest) ≡ Some q
    → (b ≡ false → page ≡ q → at ≡ false) → (page ≡ q → (page == q) ≡ true) → (rest ≡ Some q → (is_there ≡ true) × (at ≡ false))
    → (((page == q) || is_there) ≡ true) × (at ≡ false)
found_by false rest page q is_there at found here same later =
    let is : page ≡ q = cc in (ap (λ (b : Bool). b || is_there) (same is), here refl is)
found_by true rest page q is_there at found here same later =
    let it = later found in (or_right (page == q) is_there it.0, it.1)

found_busy : (guard : List Protection) (pages : List ℕ) (q : ℕ) → find (is_taken guard) pages ≡ Some q → (has_number pages q ≡ true) × (is_free (protection_at guard q) ≡ false)
found_busy guard [] q found = absurd cc
found_busy guard (page ∷ pages) q found =
    found_by (is_free (protection_at guard page)) (find (is_taken guard) pages) page q (has_number pages q) (is_free (protection_at guard q)) found
    (λ busy is. subst (λ (k : ℕ). is_free (protection_at guard k) ≡ false) is busy)
    (λ is. eq-eqb page q is)
    (λ later. found_busy guard pages q later)

-- pages of which one isn't free aren't taken
pub taken_none : (p : Protection) (guard : List Protection) (pages : List ℕ) (q : ℕ) → find (is_taken guard) pages ≡ Some q → take_pages p guard pages ≡ None
taken_none p guard pages q found = let it = found_busy guard pages q found in taken_busy p guard pages q it.0 it.1
