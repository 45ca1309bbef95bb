-- The pages of a text with their digests: one more page is asked for its protection.
use Rattle.std.proofs.Common.{◌≡◌, ℕ, zero, suc, ◌+◌, ◌-◌, ◌*◌, ◌<◌, ◌≤◌, List, [], ◌∷◌, ◌++◌, filter, get_or, length, map, append-nil, refl, sym, subst, ◌∙◌, ap, Bool, true, false, arith}
use Rattle.std.specs.Prelude.{if◌then◌else◌}
use Rattle.sv_types.specs.ApprovedPages.{numbers_from}
use Rattle.sv_types.specs.declared.protection.Protection.{Protection}
use Rattle.spec_reference.specs.Protections.{protection_at}
use Rattle.snapshot_format.specs.declared.whole.TextPage.{TextPage}
use Rattle.sv_types.specs.Protections.{is_approved}
use Rattle.laws_resume.specs.TextPages.{approved_among, digest_in, paired, paired_among, paired_text, text_digests, text_in}

-- the numbers that a test picks of one more
picked_more : (f : ℕ → Bool) (first n : ℕ) → filter f (numbers_from first (suc n)) ≡ filter f (numbers_from first n) ++ (if f (first + n) then (first + n) ∷ [] else [])
picked_more f first zero = let same : first + 0 ≡ first = omega arith in rw same (one (f first) first)
  where
    one : (b : Bool) (first : ℕ) → (if b then first ∷ [] else []) ≡ [] ++ (if b then first ∷ [] else [])
    one b first = refl
picked_more f first (suc n) =
    let same : first + suc n ≡ first + 1 + n = omega arith in
    rw same (by_first (f first) first (filter f (numbers_from (first + 1) (suc n))) (filter f (numbers_from (first + 1) n)) _ (picked_more f (first + 1) n))
  where
    by_first : (b : Bool) (first : ℕ) (all some last : List ℕ) → all ≡ some ++ last → (if b then first ∷ all else all) ≡ (if b then first ∷ some else some) ++ last
    by_first true first all some last e = ap (◌∷◌ first) e
    by_first false first all some last e = e

-- the protection that is read of a page in the list
pub read_at : (guard : List Protection) (n : ℕ) (past : Protection) → n < length guard → get_or guard n past ≡ protection_at guard n
read_at [] n past below = absurd (omega (arith, below))
read_at (p ∷ guard) zero past below = refl
read_at (p ∷ guard) (suc n) past below = read_at guard n past (omega (arith, below))

-- an approved page is one more
approved_more : (guard : List Protection) (n : ℕ) (b : Bool) → is_approved (protection_at guard n) ≡ b
    → approved_among guard (n + 1) ≡ approved_among guard n ++ (if b then n ∷ [] else [])
approved_more guard n b at =
    ap (approved_among guard) (one_more n)
    ∙ picked_more (λ page. is_approved (protection_at guard page)) 0 n
    ∙ last (0 + n) n b (nothing_plus n) at
  where
    one_more : (n : ℕ) → n + 1 ≡ suc n
    one_more n = omega arith

    nothing_plus : (n : ℕ) → 0 + n ≡ n
    nothing_plus n = omega arith

    last : (k n : ℕ) (b : Bool) → k ≡ n → is_approved (protection_at guard n) ≡ b
        → approved_among guard n ++ (if is_approved (protection_at guard k) then k ∷ [] else []) ≡ approved_among guard n ++ (if b then n ∷ [] else [])
    last k n b same at = rw (same, at) refl

-- ---- one page more with the next digest

pair_more : (pages : List ℕ) (digests : List (List ℕ)) (page : ℕ) (d : List ℕ) → length (paired pages digests) < length digests
    → paired (pages ++ page ∷ []) digests ≡ paired pages digests ++ record { page = page; digest = get_or digests (length (paired pages digests)) d } ∷ []
unfolding paired
pair_more [] [] page d below = absurd (omega (arith, below))
pair_more [] (digest ∷ digests) page d below = refl
pair_more (p ∷ pages) [] page d below = absurd (omega (arith, below))
pair_more (p ∷ pages) (digest ∷ digests) page d below =
    ap (◌∷◌ (record { page = p; digest = digest })) (pair_more pages digests page d (omega (arith, below)))

pair_none : (pages : List ℕ) (digests : List (List ℕ)) (page : ℕ) → length digests ≤ length (paired pages digests)
    → paired (pages ++ page ∷ []) digests ≡ paired pages digests
unfolding paired
pair_none [] [] page past = refl
pair_none [] (digest ∷ digests) page past = absurd (omega (arith, past))
pair_none (p ∷ pages) [] page past = refl
pair_none (p ∷ pages) (digest ∷ digests) page past = ap (◌∷◌ (record { page = p; digest = digest })) (pair_none pages digests page (omega (arith, past)))

-- an approved page is listed with the next digest, while there is one
pub page_paired : (guard : List Protection) (digests : List (List ℕ)) (n next : ℕ) (d : List ℕ) → is_approved (protection_at guard n) ≡ true
    → next ≡ length (paired_among guard digests n) → next < length digests
    → paired_among guard digests (n + 1) ≡ paired_among guard digests n ++ record { page = n; digest = get_or digests next d } ∷ []
page_paired guard digests n next d at is below =
    ap (λ (pages : List ℕ). paired pages digests) (approved_more guard n true at)
    ∙ pair_more (approved_among guard n) digests n d (subst (λ (k : ℕ). k < length digests) is below)
    ∙ ap (λ (k : ℕ). paired_among guard digests n ++ record { page = n; digest = get_or digests k d } ∷ []) (sym is)

pub page_unpaired : (guard : List Protection) (digests : List (List ℕ)) (n next : ℕ) → is_approved (protection_at guard n) ≡ true
    → next ≡ length (paired_among guard digests n) → length digests ≤ next → paired_among guard digests (n + 1) ≡ paired_among guard digests n
page_unpaired guard digests n next at is past =
    ap (λ (pages : List ℕ). paired pages digests) (approved_more guard n true at)
    ∙ pair_none (approved_among guard n) digests n (subst (λ (k : ℕ). length digests ≤ k) is past)

-- another isn't
pub page_passed : (guard : List Protection) (digests : List (List ℕ)) (n : ℕ) → is_approved (protection_at guard n) ≡ false
    → paired_among guard digests (n + 1) ≡ paired_among guard digests n
page_passed guard digests n at =
    ap (λ (pages : List ℕ). paired pages digests) (approved_more guard n false at ∙ append-nil (approved_among guard n))

-- ---- a text and its own digests

apart_again : (ram pages : List ℕ) → paired pages (map (λ (t : TextPage). t.digest) (map (digest_in ram) pages)) ≡ map (digest_in ram) pages
unfolding paired
apart_again ram [] = refl
apart_again ram (page ∷ pages) = ap (◌∷◌ (digest_in ram page)) (apart_again ram pages)

-- they are the text
pub text_again : (ram : List ℕ) (guard : List Protection) → paired_text guard (text_digests ram guard) ≡ text_in ram guard
unfolding text_in paired_text
text_again ram guard = apart_again ram (approved_among guard (length guard))
