-- A run that is made from its beginning up to an event.
use Rattle.std.proofs.Common.{◌≡◌, ℕ, ◌+◌, ◌≤◌, true, false, if◌then◌else◌, length, refl, sym, subst, arith}
use Rattle.std.specs.Prelude.{nat_lt}
use Rattle.std.proofs.lemmas.Bool.{le-ltb, ltb-false}
use Rattle.debug_session.specs.Runs.{Run, after, at_event}

-- so many events more are made
pub record Reached {T : Type 0} (stands : T → Run → Type 0) (first : T) (made n : ℕ) (now : T) : Type 0 where
  pub here : (run : Run) → stands first run → run.made ≡ made → stands now (after run (made + n))
  pub within : (run : Run) → stands first run → run.made ≡ made → made + n ≤ length run.events

pub begins : {T : Type 0} (stands : T → Run → Type 0) (first : T) (made : ℕ) → ((run : Run) → stands first run → run.made ≤ length run.events) → Reached stands first made 0 first
begins stands first made within = record {
  here = λ run at is. let none : run.made ≡ made + 0 = omega (arith, is) in subst (λ n. stands first (after run n)) none at;
  within = λ run at is. let few = within run at in omega (arith, is, few);
}

-- all are made
pub all_made : {T : Type 0} (stands : T → Run → Type 0) (now : T) (run : Run) (n count : ℕ) → n ≤ count → n ≤ length run.events → length run.events ≤ n → stands now (after run n) →
    stands now (at_event count run)
all_made stands now run n count few within over at =
    let is : nat_lt count (length run.events) ≡ false = le-ltb count (length run.events) (omega (arith, few, over)) in
    let same : n ≡ length run.events = omega (arith, within, over) in
    subst (λ b. stands now (after run (if b then count else length run.events))) (sym is) (subst (λ m. stands now (after run m)) same at)

-- as many as were asked
pub as_many : {T : Type 0} (stands : T → Run → Type 0) (now : T) (run : Run) (count : ℕ) → count ≤ length run.events → stands now (after run count) → stands now (at_event count run)
as_many stands now run count within at = subst (λ m. stands now (after run m)) (same (nat_lt count (length run.events)) refl) at
  where
    same : (b : _) → nat_lt count (length run.events) ≡ b → count ≡ (if b then count else length run.events)
    same true is = refl
    same false is = let over : length run.events ≤ count = ltb-false _ _ is in omega (arith, within, over)
