-- The loop that empties caches.
use Rattle.std.proofs.Common.{◌≡◌, ℕ, zero, suc, ◌+◌, ◌<◌, ◌≤◌, List, [], ◌∷◌, length, refl, ap, slice_set, arith, add-one, subst, sym, ◌∙◌, Bool, true, false}
use Rattle.std.specs.Prelude.{Some, slice_get}
use Rattle.spec_processor.specs.Regions.{Region}
use Rattle.hw_tlb.proofs.GstageCacheLines.{none_agrees}
use Rattle.hw_tlb.proofs.Holding.{none_agrees as none_leads}
use Rattle.hw_tlb.specs.Usable.{first_emptied, nothing_kept, IsUsable, AreUsable}
use Rattle.hw_tlb.specs.declared.caches.HartCaches.{HartCaches}

-- nothing that is kept agrees with every table
pub nothing_usable : (tables : List ℕ) → IsUsable tables nothing_kept
nothing_usable tables = record { second = none_agrees tables; both = none_leads tables }

pub none_emptied : (caches : List HartCaches) → first_emptied 0 caches ≡ caches
unfolding first_emptied
none_emptied caches = refl

next_suc : (n : ℕ) (caches : List HartCaches) → n < length caches → slice_set (first_emptied n caches) n nothing_kept ≡ first_emptied (suc n) caches
unfolding first_emptied
next_suc zero [] below = absurd (omega arith)
next_suc zero (x ∷ caches) below = refl
next_suc (suc n) [] below = absurd (omega arith)
next_suc (suc n) (x ∷ caches) below = ap (◌∷◌ nothing_kept) (next_suc n caches (omega arith))

pub next_emptied : (n : ℕ) (caches : List HartCaches) → n < length caches → slice_set (first_emptied n caches) n nothing_kept ≡ first_emptied (n + 1) caches
next_emptied n caches below = rw (add-one n) (next_suc n caches below)

pub emptied_number : (n : ℕ) (caches : List HartCaches) → length (first_emptied n caches) ≡ length caches
unfolding first_emptied
emptied_number zero caches = refl
emptied_number (suc n) [] = refl
emptied_number (suc n) (x ∷ caches) = ap (λ k. suc k) (emptied_number n caches)

there_usable : (tables : List ℕ) (n : ℕ) (caches : List HartCaches) (h : ℕ) (own : HartCaches) → length caches ≤ n → slice_get (first_emptied n caches) h ≡ Some own
    → IsUsable tables own
unfolding first_emptied
there_usable tables zero [] h own below e = absurd (cc)
there_usable tables zero (x ∷ caches) h own below e = absurd (omega arith)
there_usable tables (suc n) [] h own below e = absurd (cc)
there_usable tables (suc n) (x ∷ caches) zero own below e = let same : nothing_kept ≡ own = cc in subst (IsUsable tables) same (nothing_usable tables)
there_usable tables (suc n) (x ∷ caches) (suc h) own below e = there_usable tables n caches h own (omega arith) e

pub all_usable : (tables : List ℕ) (n : ℕ) (caches : List HartCaches) → length caches ≤ n → AreUsable tables (first_emptied n caches)
all_usable tables n caches below = record { each = λ h own e. there_usable tables n caches h own below e }

-- caches that were emptied where a protection changed
pub usable_after : {G : Type 0} (changed : Bool) (old new : Region) (before given after : List HartCaches) → given ≡ before → AreUsable old.tables before
    → (changed ≡ false → G × (new ≡ old)) → (changed ≡ true → (tables : List ℕ) → AreUsable tables after) → (changed ≡ false → after ≡ given)
    → AreUsable new.tables after
usable_after true old new before given after is are kept usable same = usable refl new.tables
usable_after false old new before given after is are kept usable same =
    subst (λ (r : Region). AreUsable r.tables after) (sym (kept refl).1) (subst (AreUsable old.tables) (sym (same refl ∙ is)) are)

pub ruleset emptied_one_by_one = (none_emptied, next_emptied, all_usable, emptied_number)
