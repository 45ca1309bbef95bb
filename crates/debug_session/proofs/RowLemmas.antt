-- Events that are made in rows, one row after the other.
use Rattle.std.proofs.Common.{◌≡◌, ℕ, zero, suc, ◌+◌, ◌-◌, ◌<◌, ◌≤◌, Bool, true, false, not, ◌||◌, ◌&&◌, ◌==◌, if◌then◌else◌, List, [], ◌∷◌, length}
use Rattle.std.proofs.Common.{refl, sym, ◌∙◌, ap, ap₂, subst, Option, Some, None, arith}
use Rattle.std.specs.Prelude.{is_none, is_some, nat_lt, option_and_then}
use Rattle.std.proofs.lemmas.Bool.{eqb-true, and_parts}
use Rattle.debug_session.specs.Rows.{IsRow, is_free}
use Rattle.debug_session.specs.Runs.{Run, after, ahead, change_at, events_left, first_halt, halts_after, is_break, is_running, last_change, meets_break, next_turn, place_of, state}
use Rattle.debug_session.specs.Watches.{first_changed}
use Rattle.debug_session.specs.declared.motion.Change.{Change}
use Rattle.debug_session.specs.declared.watches.Watch.{Watch}
use Rattle.debug_session.proofs.Motions.{first_halt_none, first_halt_here, first_halt_later}

-- one event
pub one_row : {T : Type 0} (stands : T → Run → Type 0) (run : Run) (count : ℕ) (there : T) → count ≤ 1 → IsRow stands run count there → stands there (after run (run.made + 1))
one_row stands run count there most row =
    let some : 0 < count = row.some in
    let one : count ≡ 1 = omega (arith, most, some) in
    subst (λ n. stands there (after run (run.made + n))) one row.stands_there

-- ---- with no break and no watch

no_break : (place : Option ℕ) → is_break [] place ≡ false
no_break None = refl
no_break (Some pc) = refl

meets_none : (run : Run) → meets_break [] run ≡ false
unfolding meets_break
meets_none run = no_break (option_and_then (place_of run) (next_turn run))

no_change : (run : Run) (n : ℕ) → change_at [] run n ≡ None
unfolding change_at first_changed
no_change run n = refl

only_verdict : (b : Bool) → (b || false || false) ≡ b
only_verdict true = refl
only_verdict false = refl

abbrev goes_on_at : Run → ℕ → Bool
goes_on_at run n = is_running (state (after run n)).journal.verdict

abbrev free_halts : Run → ℕ → Bool
free_halts run = halts_after [] [] None run

halts_free : (run : Run) (n : ℕ) → free_halts run n ≡ not (goes_on_at run (n + 1))
unfolding halts_after
halts_free run n =
    ap₂ (λ (c : Option Change) (m : Bool). is_some c || not (goes_on_at run (n + 1)) || false || m) (no_change run n) (meets_none (after run (n + 1)))
    ∙ only_verdict (not (goes_on_at run (n + 1)))

pub none_changed : (run : Run) (there : ℕ) → None ≡ last_change [] run there
none_changed run there = by_test (nat_lt run.made there)
  where
    by_test : (b : Bool) → None ≡ (if b then change_at [] run (there - 1) else None)
    by_test true = sym (no_change run (there - 1))
    by_test false = refl

-- ---- a row without a halt

skipped : (h : ℕ → Bool) (k n left : ℕ) → k ≤ left → ((m : ℕ) → n ≤ m → m < n + k → h m ≡ false) → first_halt h n left ≡ first_halt h (n + k) (left - k)
skipped h zero n left few none =
    let here : n ≡ n + 0 = omega arith in
    let all : left ≡ left - 0 = omega arith in
    ap₂ (λ (m l : ℕ). first_halt h m l) here all
skipped h (suc k) n left few none =
    let some : 0 < left = omega (arith, few) in
    let here : n + 1 + k ≡ n + suc k = omega arith in
    let rest : left - 1 - k ≡ left - suc k = omega arith in
    first_halt_later h n left some (none n (omega arith) (omega arith))
    ∙ skipped h k (n + 1) (left - 1) (omega (arith, few)) (λ m from to. none m (omega (arith, from)) (omega (arith, to)))
    ∙ ap₂ (λ (m l : ℕ). first_halt h m l) here rest

-- n events more are made, at least as many as rows, and the halt is still ahead
pub record HasRowed {T : Type 0} (stands : T → Run → Type 0) (run : Run) (rows : ℕ) (now : T) : Type 0 where
  pub n : ℕ
  pub fast : rows ≤ n
  pub stands_there : stands now (after run (run.made + n))
  pub still : first_halt (free_halts run) run.made (events_left run) ≡ first_halt (free_halts run) (run.made + n) (events_left run - n)

pub record Rowing {T : Type 0} (stands : T → Run → Type 0) (first : T) (most rows : ℕ) (now : T) : Type 0 where
  pub few : (run : Run) → stands first run → events_left run ≤ most
  pub here : (run : Run) → stands first run → HasRowed stands run rows now

pub rows_begin : {T : Type 0} (stands : T → Run → Type 0) (first : T) (most : ℕ) → ((run : Run) → stands first run → events_left run ≤ most) → Rowing stands first most 0 first
rows_begin stands first most few = record {
  few = few;
  here = λ run at.
      let place : run.made ≡ run.made + 0 = omega arith in
      let all : events_left run ≡ events_left run - 0 = omega arith in
      record {
        n = 0;
        fast = omega arith;
        stands_there = subst (λ n. stands first (after run n)) place at;
        still = ap₂ (λ (m l : ℕ). first_halt (free_halts run) m l) place all;
      };
}

-- within a row the run goes on after each event but the last
row_quiet : {T : Type 0} (stands : T → Run → Type 0) (run : Run) (base count : ℕ) (later : T) → IsRow stands (after run base) count later →
    (m : ℕ) → base ≤ m → m + 1 < base + count → free_halts run m ≡ false
row_quiet stands run base count later row m from to = halts_free run m ∙ ap not (row.running (m + 1) (omega (arith, from)) to)

-- nor after the last one, where it hasn't ended
row_none : {T : Type 0} (stands : T → Run → Type 0) (run : Run) (base count : ℕ) (later : T) → IsRow stands (after run base) count later → goes_on_at run (base + count) ≡ true →
    (m : ℕ) → base ≤ m → m < base + count → (k : ℕ) → base + count - (m + 1) ≡ k → free_halts run m ≡ false
row_none stands run base count later row on m from to zero e =
    let last : base + count ≡ m + 1 = omega (arith, to, e) in
    halts_free run m ∙ ap not (subst (λ j. goes_on_at run j ≡ true) last on)
row_none stands run base count later row on m from to (suc k) e = row_quiet stands run base count later row m from (omega (arith, e))

pub row_skipped : {T : Type 0} (stands : T → Run → Type 0) (run : Run) (rows : ℕ) (now later : T) (count : ℕ) → (h : HasRowed stands run rows now) →
    IsRow stands (after run (run.made + h.n)) count later → goes_on_at run (run.made + h.n + count) ≡ true → HasRowed stands run (rows + 1) later
row_skipped stands run rows now later count h row on =
    let some : 0 < count = row.some in
    let fast : rows ≤ h.n = h.fast in
    let within : run.made + h.n + count ≤ length run.events = row.within in
    let place : run.made + h.n + count ≡ run.made + (h.n + count) = omega arith in
    let rest : events_left run - h.n - count ≡ events_left run - (h.n + count) = omega arith in
    record {
      n = h.n + count;
      fast = omega (arith, fast, some);
      stands_there = subst (λ m. stands later (after run m)) place row.stands_there;
      still = h.still
          ∙ skipped (free_halts run) count (run.made + h.n) (events_left run - h.n) (omega (arith, within))
          (λ m from to. row_none stands run (run.made + h.n) count later row on m from to (run.made + h.n + count - (m + 1)) refl)
          ∙ ap₂ (λ (m l : ℕ). first_halt (free_halts run) m l) place rest;
    }

-- a row after which the run has ended
pub row_ends : {T : Type 0} (stands : T → Run → Type 0) (run : Run) (rows : ℕ) (now later : T) (count : ℕ) → (h : HasRowed stands run rows now) →
    IsRow stands (after run (run.made + h.n)) count later → goes_on_at run (run.made + h.n + count) ≡ false → stands later (ahead [] [] None run)
unfolding ahead
row_ends stands run rows now later count h row off =
    let some : 0 < count = row.some in
    let within : run.made + h.n + count ≤ length run.events = row.within in
    let last : run.made + h.n + count ≡ run.made + h.n + (count - 1) + 1 = omega (arith, some) in
    let number = h.still
    ∙ skipped (free_halts run) (count - 1) (run.made + h.n) (events_left run - h.n) (omega (arith, within, some))
    (λ m from to. row_quiet stands run (run.made + h.n) count later row m from (omega (arith, to, some)))
    ∙ first_halt_here (free_halts run) (run.made + h.n + (count - 1)) (events_left run - h.n - (count - 1)) (omega (arith, within, some))
    (halts_free run (run.made + h.n + (count - 1)) ∙ ap not (ap (goes_on_at run) (sym last) ∙ off))
    ∙ sym last in
    subst (λ m. stands later (after run m)) (sym number) row.stands_there

-- none is left
pub rows_over : {T : Type 0} (stands : T → Run → Type 0) (run : Run) (rows : ℕ) (now : T) → (h : HasRowed stands run rows now) → events_left run ≤ h.n → stands now (ahead [] [] None run)
unfolding ahead
rows_over stands run rows now h over =
    let number = h.still ∙ first_halt_none (free_halts run) (run.made + h.n) (events_left run - h.n) (omega (arith, over)) in
    subst (λ m. stands now (after run m)) (sym number) h.stands_there

-- ---- what a free motion is

none_in : {A : Type 0} (xs : List A) → (length xs == 0) ≡ true → xs ≡ []
none_in [] is = refl
none_in (x ∷ xs) is = absurd (omega (arith, eqb-true (length (x ∷ xs)) 0 is))

is_no_step : (steps : Option ℕ) → is_none steps ≡ true → steps ≡ None
is_no_step None is = refl
is_no_step (Some hart) is = absurd (cc is)

record HasNone (breaks : List ℕ) (watches : List Watch) (steps : Option ℕ) : Type 0 where
  breaks_none : breaks ≡ []
  watches_none : watches ≡ []
  no_step : steps ≡ None

has_none : (breaks : List ℕ) (watches : List Watch) (steps : Option ℕ) → is_free breaks watches steps ≡ true → HasNone breaks watches steps
has_none breaks watches steps free =
    let all = and_parts (length breaks == 0 && length watches == 0) (is_none steps) free in
    let both = and_parts (length breaks == 0) (length watches == 0) all.0 in
    record { breaks_none = none_in breaks both.0; watches_none = none_in watches both.1; no_step = is_no_step steps all.1 }

pub free_ahead : {T : Type 0} (stands : T → Run → Type 0) (now : T) (run : Run) (breaks : List ℕ) (watches : List Watch) (steps : Option ℕ) → is_free breaks watches steps ≡ true →
    stands now (ahead [] [] None run) → stands now (ahead breaks watches steps run)
free_ahead stands now run breaks watches steps free at =
    let none = has_none breaks watches steps free in
    subst (λ s. stands now (ahead breaks watches s run)) (sym none.no_step)
    (subst (λ ws. stands now (ahead breaks ws None run)) (sym none.watches_none)
    (subst (λ bs. stands now (ahead bs [] None run)) (sym none.breaks_none) at))

pub free_change : (run : Run) (there : ℕ) (breaks : List ℕ) (watches : List Watch) (steps : Option ℕ) → is_free breaks watches steps ≡ true → None ≡ last_change watches run there
free_change run there breaks watches steps free =
    subst (λ ws. None ≡ last_change ws run there) (sym (has_none breaks watches steps free).watches_none) (none_changed run there)

-- nothing is watched, so an event changes nothing of it
pub unchanged : (watches : List Watch) (run : Run) (n : ℕ) → (length watches == 0) ≡ true → None ≡ change_at watches run n
unchanged watches run n none = subst (λ ws. None ≡ change_at ws run n) (sym (none_in watches none)) (sym (no_change run n))

-- ---- so many events, in rows

-- so many are left to make, and as many as rows are made at least
pub record Counted {T : Type 0} (stands : T → Run → Type 0) (first : T) (count left rows : ℕ) (now : T) : Type 0 where
  pub few : left ≤ count
  pub here : (run : Run) → stands first run → run.made + count ≤ length run.events → stands now (after run (run.made + (count - left)))
  pub fast : (run : Run) → stands first run → run.made + count ≤ length run.events → rows ≤ count - left

pub counting_begins : {T : Type 0} (stands : T → Run → Type 0) (first : T) (count : ℕ) → Counted stands first count count 0 first
counting_begins stands first count = record {
  few = omega arith;
  here = λ run at within. let place : run.made ≡ run.made + (count - count) = omega arith in subst (λ n. stands first (after run n)) place at;
  fast = λ run at within. omega arith;
}

pub row_counted : {T : Type 0} (stands : T → Run → Type 0) (first now later : T) (count left rows made : ℕ) → Counted stands first count left rows now → 0 < left → made ≤ left →
    ((run : Run) → stands now run → run.made < length run.events → IsRow stands run made later) → Counted stands first count (left - made) (rows + 1) later
row_counted stands first now later count left rows made c some most row =
    let few : left ≤ count = c.few in
    let there : (run : Run) → stands first run → run.made + count ≤ length run.events → IsRow stands (after run (run.made + (count - left))) made later = λ run at within.
    row (after run (run.made + (count - left))) (c.here run at within) (omega (arith, within, some, few)) in
    record {
      few = omega (arith, few);
      here = λ run at within.
          let place : run.made + (count - left) + made ≡ run.made + (count - (left - made)) = omega (arith, few, most) in
          subst (λ n. stands later (after run n)) place (there run at within).stands_there;
      fast = λ run at within.
          let more : 0 < made = (there run at within).some in
          let fast : rows ≤ count - left = c.fast run at within in
          omega (arith, more, fast, few, most);
    }

pub all_counted : {T : Type 0} (stands : T → Run → Type 0) (first now : T) (count left rows : ℕ) → Counted stands first count left rows now → left ≡ 0 → (run : Run) → stands first run →
    run.made + count ≤ length run.events → stands now (after run (run.made + count))
all_counted stands first now count left rows c none run at within =
    let all : run.made + (count - left) ≡ run.made + count = omega (arith, none) in
    subst (λ n. stands now (after run n)) all (c.here run at within)

pub none_uncounted : {T : Type 0} (stands : T → Run → Type 0) (first now : T) (count left rows : ℕ) → Counted stands first count left rows now → count ≤ rows → (run : Run) → stands first run →
    run.made + count ≤ length run.events → stands now (after run (run.made + count))
none_uncounted stands first now count left rows c over run at within =
    let fast : rows ≤ count - left = c.fast run at within in
    let few : left ≤ count = c.few in
    let all : run.made + (count - left) ≡ run.made + count = omega (arith, over, fast, few) in
    subst (λ n. stands now (after run n)) all (c.here run at within)
