-- Where a run halts, forwards and backwards. This project's own.
use Rattle.std.specs.Prelude.{◌≡◌, ◌≤◌, ◌<◌, ◌+◌, ◌⊎◌, ℕ, Bool, true, false, List, length, Option, Some, None}
use Rattle.debug_session.specs.Runs.{Run, ahead, halts_after, back_number, is_target, watches_back}
use Rattle.debug_session.specs.declared.watches.Watch.{Watch}

-- so many events are made, at least as many as before. None before the last of the new ones halts the run, and the last one
-- does, or none is left
pub record IsAhead (halts : ℕ → Bool) (made all there : ℕ) : Type 0 where
  pub further : made ≤ there
  pub none_before : (n : ℕ) → made ≤ n → n + 1 < there → halts n ≡ false
  pub last : ((n : ℕ) × (there ≡ n + 1) × (halts n ≡ true)) ⊎ (there ≡ all)

abbrev pub AheadLaw : Type 0
AheadLaw = (breaks : List ℕ) (watches : List Watch) (steps : Option ℕ) (run : Run) → run.made ≤ length run.events →
    IsAhead (halts_after breaks watches steps run) run.made (length run.events) (ahead breaks watches steps run).made

-- the greatest number below another one that passes
pub record IsLastBelow (passes : ℕ → Bool) (n below : ℕ) : Type 0 where
  pub less : n < below
  pub holds : passes n ≡ true
  pub greatest : (m : ℕ) → n < m → m < below → passes m ≡ false

abbrev pub IsBehind : (passes : ℕ → Bool) → (made : ℕ) → Option ℕ → Type 0
IsBehind passes made None = (m : ℕ) → m < made → passes m ≡ false
IsBehind passes made (Some n) = IsLastBelow passes n made

abbrev pub BehindLaw : Type 0
BehindLaw = (breaks : List ℕ) (watches : List Watch) (steps : Option ℕ) (run : Run) →
    IsBehind (is_target breaks (watches_back steps watches) steps run) run.made (back_number breaks watches steps run)
