-- Where a run halts.
use Rattle.std.proofs.Common.{◌≡◌, ℕ, zero, suc, ◌+◌, ◌-◌, ◌<◌, ◌≤◌, inl, inr, Bool, true, false, if◌then◌else◌, length, refl, subst, Option, Some, None, arith}
use Rattle.debug_session.specs.Runs.{ahead, events_left, first_halt, halts_after, back_number, is_target, last_below, watches_back}
use Rattle.debug_session.specs.RunLaws.{IsAhead, IsBehind, AheadLaw, BehindLaw}

-- ---- forwards

first_or_later : (h : ℕ → Bool) (n to : ℕ) → h n ≡ false → ((m : ℕ) → n + 1 ≤ m → m + 1 < to → h m ≡ false) → (m k : ℕ) → n ≤ m → m + 1 < to → m - n ≡ k → h m ≡ false
first_or_later h n to is later m zero from under e = subst (λ i. h i ≡ false) (omega (arith, from, e)) is
first_or_later h n to is later m (suc k) from under e = later m (omega (arith, from, e)) under

ahead_by : (h : ℕ → Bool) (n left all : ℕ) → n + suc left ≡ all → (b : Bool) → h n ≡ b → IsAhead h (n + 1) all (first_halt h (n + 1) left) →
    IsAhead h n all (if b then n + 1 else first_halt h (n + 1) left)
ahead_by h n left all whole true is later = record {
  further = omega arith;
  none_before = λ m from to. absurd (omega (arith, from, to));
  last = inl (n, refl, is);
}
ahead_by h n left all whole false is later = record {
  further = omega (arith, later.further);
  none_before = λ m from to. first_or_later h n (first_halt h (n + 1) left) is later.none_before m (m - n) from to refl;
  last = later.last;
}

pub is_ahead : (h : ℕ → Bool) (n left all : ℕ) → n + left ≡ all → IsAhead h n all (first_halt h n left)
unfolding first_halt
is_ahead h n zero all whole = record {
  further = omega arith;
  none_before = λ m from to. absurd (omega (arith, from, to));
  last = inr (omega (arith, whole));
}
is_ahead h n (suc left) all whole = ahead_by h n left all whole (h n) refl (is_ahead h (n + 1) left all (omega (arith, whole)))

pub ahead_law : AheadLaw
unfolding ahead
ahead_law breaks watches steps run within = is_ahead (halts_after breaks watches steps run) run.made (events_left run) (length run.events) (omega (arith, within))

-- ---- backwards

below_or_at : (p : ℕ → Bool) (n : ℕ) → p n ≡ false → (m k : ℕ) → m < suc n → n - m ≡ k → (m < n → p m ≡ false) → p m ≡ false
below_or_at p n is m zero under e below = subst (λ i. p i ≡ false) (omega (arith, under, e)) is
below_or_at p n is m (suc k) under e below = below (omega (arith, e))

not_here : (p : ℕ → Bool) (n : ℕ) → p n ≡ false → (last : Option ℕ) → IsBehind p n last → IsBehind p (suc n) last
not_here p n is None lower = λ m under. below_or_at p n is m (n - m) under refl (lower m)
not_here p n is (Some k) lower = record {
  less = let less : k < n = lower.less in omega (arith, less);
  holds = lower.holds;
  greatest = λ m over under. below_or_at p n is m (n - m) under refl (lower.greatest m over);
}

behind_by : (p : ℕ → Bool) (n : ℕ) (b : Bool) → p n ≡ b → IsBehind p n (last_below p n) → IsBehind p (suc n) (if b then Some n else last_below p n)
behind_by p n true is lower = record {
  less = omega arith;
  holds = is;
  greatest = λ m over under. absurd (omega (arith, over, under));
}
behind_by p n false is lower = not_here p n is (last_below p n) lower

pub is_behind : (p : ℕ → Bool) (n : ℕ) → IsBehind p n (last_below p n)
unfolding last_below
is_behind p zero = λ m under. absurd (omega (arith, under))
is_behind p (suc n) = behind_by p n (p n) refl (is_behind p n)

pub behind_law : BehindLaw
unfolding back_number
behind_law breaks watches steps run = is_behind (is_target breaks (watches_back steps watches) steps run) run.made
