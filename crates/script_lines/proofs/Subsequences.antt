-- Some items of a list.
use Rattle.std.proofs.Common.{◌≡◌, ◌≤◌, inl, inr, ℕ, zero, suc, Bool, true, List, [], ◌∷◌, drop, refl, sym, subst, arith}
use Rattle.script_lines.specs.Minimal.{IsSubsequence, IsReduced, without}

pub all_items : {A : Type 0} (items : List A) → IsSubsequence items items
all_items [] = refl
all_items (first ∷ rest) = inr (rest, (refl, all_items rest))

no_items : {A : Type 0} (items : List A) → IsSubsequence [] items
no_items [] = refl
no_items (first ∷ rest) = inl (no_items rest)

pub fewer_of_fewer : {A : Type 0} (few some all : List A) → IsSubsequence few some → IsSubsequence some all → IsSubsequence few all
fewer_of_fewer few some [] a b = subst (λ s. IsSubsequence few s) b a
fewer_of_fewer few some (first ∷ rest) a (inl b) = inl (fewer_of_fewer few some rest a b)
fewer_of_fewer few some (first ∷ rest) a (inr (more, (is, b))) =
    elim (subst (λ s. IsSubsequence few s) is a) as (λ _. IsSubsequence few (first ∷ rest)) [
      | inl c ↦ inl (fewer_of_fewer few more rest c b)
      | inr (kept, (same, c)) ↦ inr (kept, (same, fewer_of_fewer kept more rest c b))
    ]

-- what stands from a place on
from_place : {A : Type 0} (to : ℕ) (items : List A) → IsSubsequence (drop to items) items
from_place zero items = all_items items
from_place (suc to) [] = refl
from_place (suc to) (first ∷ rest) = inl (from_place to rest)

pub some_gone : {A : Type 0} (from to : ℕ) (items : List A) → from ≤ to → IsSubsequence (without items from to) items
some_gone zero to items order = from_place to items
some_gone (suc from) zero items order = absurd (omega (arith, order))
some_gone (suc from) (suc to) [] order = refl
some_gone (suc from) (suc to) (first ∷ rest) order = inr (without rest from to, (refl, some_gone from to rest (omega (arith, order))))

-- ---- what is kept

pub reduced_none : {A : Type 0} (stops : List A → Bool) (items : List A) → stops items ≡ true → IsReduced stops items items
reduced_none stops items is = record { stops_so = is; among = all_items items }

pub reduced_by : {A : Type 0} (stops : List A → Bool) (items rest : List A) (from to : ℕ) → from ≤ to → rest ≡ without items from to →
    stops rest ≡ true → IsReduced stops items rest
reduced_by stops items rest from to order is stopped = record {
  stops_so = stopped;
  among = subst (λ few. IsSubsequence few items) (sym is) (some_gone from to items order);
}

pub reduced_more : {A : Type 0} (stops : List A → Bool) (old mid new : List A) → IsReduced stops old mid → IsReduced stops mid new → IsReduced stops old new
reduced_more stops old mid new a b = record { stops_so = b.stops_so; among = fewer_of_fewer new mid old b.among a.among }

-- the same where the test is asked again
pub reduced_next : {A : Type 0} (stops now : List A → Bool) (old mid new : List A) → now ≡ stops → IsReduced stops old mid → IsReduced now mid new → IsReduced stops old new
reduced_next stops now old mid new same a b = reduced_more stops old mid new a (subst (λ (f : List _ → Bool). IsReduced f mid new) same b)

-- it still stops so
pub still_stops : {A : Type 0} (stops now : List A → Bool) (old new : List A) → now ≡ stops → IsReduced stops old new → now new ≡ true
still_stops stops now old new same a = subst (λ (f : List _ → Bool). f new ≡ true) (sym same) a.stops_so
