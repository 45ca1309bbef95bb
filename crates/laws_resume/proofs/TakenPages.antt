-- Pages that were taken one after the other: which protection they have, and that each was free.
use Rattle.std.proofs.Common.{◌≡◌, ℕ, zero, suc, ◌+◌, ◌<◌, List, [], ◌∷◌, ◌++◌, length, refl, sym, ◌∙◌, ap, subst, Bool, true, false, ◌||◌, arith, slice_set}
use Rattle.std.specs.Prelude.{Option, Some, None, if◌then◌else◌, ◌==◌}
use Rattle.std.proofs.lemmas.Bool.{eqb-true, eqb-false}
use Rattle.std.proofs.lemmas.List.{length-set}
use Rattle.sv_types.specs.declared.protection.Protection.{Protection}
use Rattle.sv_types.specs.Protections.{is_free}
use Rattle.spec_reference.specs.Protections.{protection_at}
use Rattle.spec_reference.specs.States.{has_number}
use Rattle.snapshot_format.specs.Judgements.{take_pages}
use Rattle.snapshot_format.proofs.TakenSpans.{set_beside}
use Rattle.laws_simulation.proofs.Lookups.{both, same_number}

-- ---- one page

set_here : (guard : List Protection) (page : ℕ) (p : Protection) → page < length guard → protection_at (slice_set guard page p) page ≡ p
set_here [] page p inside = absurd (omega (arith, inside))
set_here (x ∷ guard) zero p inside = refl
set_here (x ∷ guard) (suc page) p inside = set_here guard page p (omega (arith, inside))

-- ---- a step

abbrev pub Taking : Protection → List Protection → List ℕ → List Protection → Type 0
Taking p guard pages after = take_pages p guard pages ≡ Some after

free_first : (p : Protection) (guard after : List Protection) (page : ℕ) (pages : List ℕ) (b : Bool) → is_free (protection_at guard page) ≡ b
    → (if b then take_pages p (slice_set guard page p) pages else None) ≡ Some after
    → (is_free (protection_at guard page) ≡ true) × Taking p (slice_set guard page p) pages after
free_first p guard after page pages true at e = (at, e)
free_first p guard after page pages false at e = absurd cc

pub first_taken : (p : Protection) (guard after : List Protection) (page : ℕ) (pages : List ℕ) → Taking p guard (page ∷ pages) after
    → (is_free (protection_at guard page) ≡ true) × Taking p (slice_set guard page p) pages after
first_taken p guard after page pages e = free_first p guard after page pages (is_free (protection_at guard page)) refl e

-- ---- all of them

-- where the next number of an ascending list may stand
abbrev pub after_page : Option ℕ → ℕ
after_page None = 0
after_page (Some page) = page + 1

-- they lie in RAM
abbrev pub AllBelow : ℕ → List ℕ → Type 0
AllBelow n pages = (page : ℕ) → has_number pages page ≡ true → page < n

pub or_true : (b : Bool) → (b || true) ≡ true
or_true true = refl
or_true false = refl

pub head_below : (n page : ℕ) (pages : List ℕ) → AllBelow n (page ∷ pages) → page < n
head_below n page pages all = all page (ap (λ (b : Bool). b || has_number pages page) (same_number page))

pub tail_below : (n page : ℕ) (pages : List ℕ) → AllBelow n (page ∷ pages) → AllBelow n pages
tail_below n page pages all q there = all q (ap (λ (b : Bool). (page == q) || b) there ∙ or_true (page == q))

pub length_taken : (p : Protection) (guard after : List Protection) (pages : List ℕ) → Taking p guard pages after → length after ≡ length guard
length_taken p guard after [] e = let same : guard ≡ after = cc in ap length (sym same)
length_taken p guard after (page ∷ pages) e = length_taken p (slice_set guard page p) after pages (first_taken p guard after page pages e).1 ∙ length-set guard page p

abbrev pub either_one : Bool → Protection → Protection → Protection
either_one b p q = if b then p else q

at_by : (p : Protection) (guard : List Protection) (page q : ℕ) (first rest : Bool) → (page == q) ≡ first → page < length guard
    → either_one rest p (protection_at (slice_set guard page p) q) ≡ either_one (first || rest) p (protection_at guard q)
at_by p guard page q true true at inside = refl
at_by p guard page q true false at inside =
    subst (λ (k : ℕ). protection_at (slice_set guard page p) k ≡ p) (eqb-true page q at) (set_here guard page p inside)
at_by p guard page q false true at inside = refl
at_by p guard page q false false at inside = set_beside guard page q p (eqb-false page q at)

-- those that were taken have the protection, and all others theirs
pub taken_at : (p : Protection) (guard after : List Protection) (pages : List ℕ) (q : ℕ) → AllBelow (length guard) pages → Taking p guard pages after
    → protection_at after q ≡ either_one (has_number pages q) p (protection_at guard q)
taken_at p guard after [] q all e = let same : guard ≡ after = cc in ap (λ (g : List Protection). protection_at g q) (sym same)
taken_at p guard after (page ∷ pages) q all e =
    let inside = head_below (length guard) page pages all in
    let rest : AllBelow (length (slice_set guard page p)) pages = subst (λ (n : ℕ). AllBelow n pages) (sym (length-set guard page p)) (tail_below (length guard) page pages all) in
    taken_at p (slice_set guard page p) after pages q rest (first_taken p guard after page pages e).1
    ∙ at_by p guard page q (page == q) (has_number pages q) refl inside

pub taken_it : (p : Protection) (guard after : List Protection) (pages : List ℕ) (q : ℕ) → AllBelow (length guard) pages → Taking p guard pages after
    → has_number pages q ≡ true → protection_at after q ≡ p
taken_it p guard after pages q all e there = taken_at p guard after pages q all e ∙ ap (λ (b : Bool). either_one b p (protection_at guard q)) there

free_by : (p : Protection) (guard : List Protection) (page q : ℕ) (first : Bool) → (page == q) ≡ first → is_free (protection_at guard page) ≡ true
    → (first ≡ false → is_free (protection_at (slice_set guard page p) q) ≡ true) → is_free (protection_at guard q) ≡ true
free_by p guard page q true at free rest = subst (λ (k : ℕ). is_free (protection_at guard k) ≡ true) (eqb-true page q at) free
free_by p guard page q false at free rest = ap is_free (sym (set_beside guard page q p (eqb-false page q at))) ∙ rest refl

pub found_later : (first rest : Bool) → (first || rest) ≡ true → first ≡ false → rest ≡ true
found_later true rest e off = cc
found_later false rest e off = e

-- each was free
pub were_free : (p : Protection) (guard after : List Protection) (pages : List ℕ) (q : ℕ) → Taking p guard pages after → has_number pages q ≡ true
    → is_free (protection_at guard q) ≡ true
were_free p guard after [] q e there = cc
were_free p guard after (page ∷ pages) q e there =
    let step = first_taken p guard after page pages e in
    free_by p guard page q (page == q) refl step.0
    (λ off. were_free p (slice_set guard page p) after pages q step.1 (found_later (page == q) (has_number pages q) there off))

-- ---- some, and others after them

pub taken_in_two : (p : Protection) (guard after : List Protection) (some others : List ℕ) → Taking p guard (some ++ others) after
    → (mid : List Protection) × (Taking p guard some mid × Taking p mid others after)
taken_in_two p guard after [] others e = (guard, (refl, e))
taken_in_two p guard after (page ∷ pages) others e =
    let step = first_taken p guard after page (pages ++ others) e in
    let rest = taken_in_two p (slice_set guard page p) after pages others step.1 in
    (rest.0, (ap (λ (b : Bool). if b then take_pages p (slice_set guard page p) pages else None) step.0 ∙ rest.1.0, rest.1.1))

held_or_not : (p : Protection) (x : Protection) → is_free p ≡ false → x ≡ p → is_free x ≡ true → ⊥
held_or_not p x taken same free = both (is_free x) free (ap is_free same ∙ taken)

-- no page is among both
pub apart : (p : Protection) (guard mid after : List Protection) (next : Protection) (some others : List ℕ) (q : ℕ) → is_free p ≡ false → AllBelow (length guard) some
    → Taking p guard some mid → Taking next mid others after → has_number some q ≡ true → has_number others q ≡ true → ⊥
apart p guard mid after next some others q busy all first second here there =
    held_or_not p (protection_at mid q) busy (taken_it p guard mid some q all first here) (were_free next mid after others q second there)
