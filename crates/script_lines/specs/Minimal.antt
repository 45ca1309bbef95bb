-- When a list can't become smaller by one item. A. Zeller, R. Hildebrandt, Simplifying and Isolating Failure-Inducing Input, 2002,
-- definition 10: a test case is 1-minimal where it doesn't fail any more without any one of its parts.
use Rattle.std.specs.Prelude.{◌≡◌, ◌<◌, ◌+◌, ◌⊎◌, ℕ, Bool, true, false, List, [], ◌∷◌, ◌++◌, length, take, drop}

-- some items of a list, in its order
abbrev pub IsSubsequence : {A : Type 0} → List A → List A → Type 0
IsSubsequence few [] = few ≡ []
IsSubsequence few (first ∷ rest) = IsSubsequence few rest ⊎ ((more : _) × ((few ≡ first ∷ more) × IsSubsequence more rest))

-- some items of a list, under which it still stops so
pub record IsReduced {A : Type 0} (stops : List A → Bool) (old new : List A) : Type 0 where
  pub stops_so : stops new ≡ true
  pub among : IsSubsequence new old

-- the items without those from one place up to another
abbrev pub without : {A : Type 0} → List A → (from to : ℕ) → List A
without items from to = take from items ++ drop to items

-- without any one of them it doesn't stop so
abbrev pub IsOneMinimal : {A : Type 0} → (List A → Bool) → List A → Type 0
IsOneMinimal stops items = (i : ℕ) → i < length items → stops (without items i (i + 1)) ≡ false
