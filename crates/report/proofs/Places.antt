-- The finding of a pc, by its place.
use Rattle.std.proofs.Common.{◌≡◌, ℕ, zero, suc, ◌+◌, ◌<◌, ◌≤◌, List, [], ◌∷◌, ◌++◌, length, refl, ap, sym, ◌∙◌, slice_set, arith, Bool, true, false, cond, ◌||◌}
use Rattle.std.specs.Prelude.{Some, None, ◌==◌, if◌then◌else◌, slice_index_or, nat_lt, not}
use Rattle.std.specs.List.{position_or_len}
use Rattle.std.proofs.lemmas.Bool.Decides.{nat_tests}
use Rattle.report.specs.declared.findings.findings.Occurrence.{Occurrence}
use Rattle.report.specs.declared.findings.findings.Finding.{Finding}
use Rattle.report.specs.Findings.{after_occurrence, with_occurrence, is_found, joined, joined_at, first_finding, place_of}

pub set_joined : (fs : List Finding) (place : ℕ) (p : Occurrence) (d : Finding) → place < length fs
    → slice_set fs place (joined (slice_index_or fs place d) p) ≡ joined_at fs place p
set_joined [] place p d below = absurd (omega arith)
set_joined (f ∷ fs) zero p d below = refl
set_joined (f ∷ fs) (suc place) p d below = ap (λ (rest : List Finding). f ∷ rest) (set_joined fs place p d (omega arith))

-- ---- by places

place : Occurrence → List Finding → ℕ
place p fs = position_or_len (λ (f : Finding). f.key == p.key) fs

joined_next : (f : Finding) (fs : List Finding) (n : ℕ) (p : Occurrence) → joined_at (f ∷ fs) (1 + n) p ≡ f ∷ joined_at fs n p
joined_next f fs n p = let next : 1 + n ≡ suc n = omega arith in ap (λ (k : ℕ). joined_at (f ∷ fs) k p) next

there_by : (f : Finding) (fs : List Finding) (p : Occurrence) (same : Bool) → (f.key == p.key) ≡ same → (place p fs < length fs → joined_at fs (place p fs) p ≡ with_occurrence fs p)
    → cond (not same) (1 + place p fs) 0 < suc (length fs) → joined_at (f ∷ fs) (cond (not same) (1 + place p fs) 0) p ≡ (if same then joined f p ∷ fs else f ∷ with_occurrence fs p)
unfolding place
there_by f fs p true at rest below = refl
there_by f fs p false at rest below = joined_next f fs (place p fs) p ∙ ap (λ (more : List Finding). f ∷ more) (rest (omega arith))

there : (fs : List Finding) (p : Occurrence) → place p fs < length fs → joined_at fs (place p fs) p ≡ with_occurrence fs p
unfolding place
there [] p below = absurd (omega arith)
there (f ∷ fs) p below = there_by f fs p (f.key == p.key) refl (there fs p) below

found_by : (f : Finding) (fs : List Finding) (p : Occurrence) (same : Bool) → (place p fs < length fs → is_found fs p.key ≡ true)
    → cond (not same) (1 + place p fs) 0 < suc (length fs) → (same || is_found fs p.key) ≡ true
unfolding place
found_by f fs p true rest below = refl
found_by f fs p false rest below = rest (omega arith)

found : (fs : List Finding) (p : Occurrence) → place p fs < length fs → is_found fs p.key ≡ true
unfolding place
found [] p below = absurd (omega arith)
found (f ∷ fs) p below = found_by f fs p (f.key == p.key) (found fs p) below

missing_by : (f : Finding) (fs : List Finding) (p : Occurrence) (same : Bool) → (length fs ≤ place p fs → (is_found fs p.key ≡ false) × (with_occurrence fs p ≡ fs ++ first_finding p ∷ []))
    → suc (length fs) ≤ cond (not same) (1 + place p fs) 0
    → ((same || is_found fs p.key) ≡ false) × ((if same then joined f p ∷ fs else f ∷ with_occurrence fs p) ≡ f ∷ (fs ++ first_finding p ∷ []))
unfolding place
missing_by f fs p true rest above = absurd (omega arith)
missing_by f fs p false rest above = let k = rest (omega arith) in (k.0, ap (λ (more : List Finding). f ∷ more) k.1)

missing : (fs : List Finding) (p : Occurrence) → length fs ≤ place p fs → (is_found fs p.key ≡ false) × (with_occurrence fs p ≡ fs ++ first_finding p ∷ [])
unfolding place
missing [] p above = (refl, refl)
missing (f ∷ fs) p above = missing_by f fs p (f.key == p.key) (missing fs p) above

-- ---- by what a search for the pc finds

some_by : (a b n : ℕ) → cond (nat_lt a b) (Some a) None ≡ Some n → (a ≡ n) × (a < b)
some_by a b n h = grind (arith, nat_tests)

none_by : (a b : ℕ) → cond (nat_lt a b) (Some a) None ≡ None → b ≤ a
none_by a b h = grind (arith, nat_tests)

pub joined_there : (fs : List Finding) (p : Occurrence) (i : ℕ) → place_of fs p ≡ Some i → joined_at fs i p ≡ after_occurrence fs p
unfolding after_occurrence place place_of
joined_there fs p i e =
    let at = some_by (place p fs) (length fs) i e in
    ap (λ (k : ℕ). joined_at fs k p) (sym at.0) ∙ there fs p at.1 ∙ sym (ap (λ (b : Bool). if b || nat_lt (length fs) 4096 then with_occurrence fs p else fs) (found fs p at.1))

pub place_below : (fs : List Finding) (p : Occurrence) (i : ℕ) → place_of fs p ≡ Some i → i < length fs
unfolding place place_of
place_below fs p i e = let at = some_by (place p fs) (length fs) i e in omega (arith, at.0, at.1)

by_room : (fs : List Finding) (p : Occurrence) → (is_found fs p.key ≡ false) → after_occurrence fs p ≡ (if nat_lt (length fs) 4096 then with_occurrence fs p else fs)
unfolding after_occurrence
by_room fs p none = ap (λ (b : Bool). if b || nat_lt (length fs) 4096 then with_occurrence fs p else fs) none

room_is : (fs : List Finding) → length fs < 4096 → nat_lt (length fs) 4096 ≡ true
room_is fs h = grind (arith, nat_tests)

no_room : (fs : List Finding) → 4096 ≤ length fs → nat_lt (length fs) 4096 ≡ false
no_room fs h = grind (arith, nat_tests)

pub begun : (fs : List Finding) (p : Occurrence) → place_of fs p ≡ None → length fs < 4096 → fs ++ first_finding p ∷ [] ≡ after_occurrence fs p
unfolding place place_of
begun fs p e room =
    let k = missing fs p (none_by (place p fs) (length fs) e) in
    sym (by_room fs p k.0 ∙ ap (λ (b : Bool). if b then with_occurrence fs p else fs) (room_is fs room) ∙ k.1)

pub full : (fs : List Finding) (p : Occurrence) → place_of fs p ≡ None → 4096 ≤ length fs → fs ≡ after_occurrence fs p
unfolding place place_of
full fs p e none =
    let k = missing fs p (none_by (place p fs) (length fs) e) in
    sym (by_room fs p k.0 ∙ ap (λ (b : Bool). if b then with_occurrence fs p else fs) (no_room fs none))
