-- The turns of a hart among events that are drawn in rows.
use Rattle.std.proofs.Common.{◌≡◌, ℕ, zero, suc, ◌+◌, ◌-◌, ◌<◌, ◌≤◌, Bool, true, false, if◌then◌else◌, List, length, drop, refl, sym, ◌∙◌, ap, Option, Some, None, arith, drop-drop, length-drop}
use Rattle.std.specs.Prelude.{IfSome, nat_lt, slice_get}
use Rattle.std.proofs.lemmas.Bool.{ltb-true, ltb-false}
use Rattle.sv_types.specs.Schedule.{Schedule}
use Rattle.sv_types.specs.declared.event.Event.{Event}
use Rattle.script.specs.declared.event_run.EventRun.{EventRun}
use Rattle.debug_session.specs.Runs.{Run, last_below, last_turn, next_event}
use Rattle.cli_debug.specs.Turns.{is_turn, later_turn, turns_at}
use Rattle.cli_debug.specs.Upcoming.{upcoming}
use Rattle.cli_debug.proofs.Drawing.{first_after, row_left}

-- ---- the last number that passes

none_below : (p : ℕ → Bool) → None ≡ last_below p 0
unfolding last_below
none_below p = refl

below_next : (p : ℕ → Bool) (n : ℕ) → last_below p (n + 1) ≡ (if p n then Some n else last_below p n)
unfolding last_below
below_next p n = let more : n + 1 ≡ suc n = omega arith in ap (last_below p) more

below_kept : (p : ℕ → Bool) (n k : ℕ) → ((m : ℕ) → n ≤ m → m < n + k → p m ≡ false) → last_below p (n + k) ≡ last_below p n
below_kept p n zero none = let same : n + 0 ≡ n = omega arith in ap (last_below p) same
below_kept p n (suc k) none =
    let more : n + suc k ≡ n + k + 1 = omega arith in
    ap (last_below p) more ∙ below_next p (n + k)
    ∙ ap (λ b. if b then Some (n + k) else last_below p (n + k)) (none (n + k) (omega arith) (omega arith))
    ∙ below_kept p n k (λ m from to. none m from (omega (arith, to)))

below_met : (p : ℕ → Bool) (n : ℕ) → 0 < n → p (n - 1) ≡ true → last_below p n ≡ Some (n - 1)
below_met p n some is =
    let more : n ≡ n - 1 + 1 = omega (arith, some) in
    ap (last_below p) more ∙ below_next p (n - 1) ∙ ap (λ b. if b then Some (n - 1) else last_below p (n - 1)) is

-- ---- a row

in_row : (events : List Event) (seen : ℕ) (row : EventRun) (left : ℕ) (schedule : Schedule) → upcoming (Some row) left schedule ≡ drop seen events →
    (m : ℕ) → seen ≤ m → m < seen + row.count → Some row.event ≡ slice_get events m
in_row events seen row left schedule is m from to =
    let place : seen + (m - seen) ≡ m = omega (arith, from) in
    let some : 0 < row.count - (m - seen) = omega (arith, from, to) in
    first_after events m (Some (record { event = row.event; count = row.count - (m - seen) })) left schedule some
    (row_left row (m - seen) left schedule (omega (arith, to))
    ∙ ap (λ (xs : List Event). drop (m - seen) xs) is ∙ drop-drop (m - seen) seen events ∙ ap (λ (n : ℕ). drop n events) place)

turns_in_row : (events : List Event) (hart seen : ℕ) (row : EventRun) (left : ℕ) (schedule : Schedule) → upcoming (Some row) left schedule ≡ drop seen events →
    (m : ℕ) → seen ≤ m → m < seen + row.count → turns_at events hart m ≡ is_turn hart (Some row.event)
turns_in_row events hart seen row left schedule is m from to = sym (ap (is_turn hart) (in_row events seen row left schedule is m from to))

-- after some events of a row
row_turned : (p : ℕ → Bool) (seen count : ℕ) (b : Bool) (last : Option ℕ) → 0 < count → ((m : ℕ) → seen ≤ m → m < seen + count → p m ≡ b) → last ≡ last_below p seen →
    (if b then Some (seen + count - 1) else last) ≡ last_below p (seen + count)
row_turned p seen count true last some each known = sym (below_met p (seen + count) (omega (arith, some)) (each (seen + count - 1) (omega (arith, some)) (omega (arith, some))))
row_turned p seen count false last some each known = known ∙ sym (below_kept p seen count each)

-- ---- all of them

-- so many events are seen, at least as many as rows, and the last turn among them is known
pub record Turning (events : List Event) (hart made : ℕ) (next : Option EventRun) (left : ℕ) (schedule : Schedule) (seen rows : ℕ) (last : Option ℕ) : Type 0 where
  pub left_are : upcoming next left schedule ≡ drop seen events
  pub some : IfSome next (λ (row : EventRun). 0 < row.count)
  pub few : seen ≤ made
  pub fast : rows ≤ seen
  pub known : last ≡ last_below (turns_at events hart) seen

pub turning_begins : (events : List Event) (hart made : ℕ) (next : Option EventRun) (left : ℕ) (schedule : Schedule) → upcoming next left schedule ≡ events →
    IfSome next (λ (row : EventRun). 0 < row.count) → Turning events hart made next left schedule 0 0 None
turning_begins events hart made next left schedule is some =
    record { left_are = is; some = some; few = omega arith; fast = omega arith; known = none_below (turns_at events hart) }

pub row_seen : (events : List Event) (hart made : ℕ) (row : EventRun) (left : ℕ) (schedule : Schedule) (seen rows : ℕ) (last : Option ℕ) (count : ℕ) (next : Option EventRun) (rest : ℕ)
    (later : Schedule) → Turning events hart made (Some row) left schedule seen rows last → 0 < count → count ≤ row.count → seen + count ≤ made →
    upcoming next rest later ≡ drop count (upcoming (Some row) left schedule) → IfSome next (λ (r : EventRun). 0 < r.count) →
    Turning events hart made next rest later (seen + count) (rows + 1) (later_turn last row.event hart (seen + count))
row_seen events hart made row left schedule seen rows last count next rest later t more within few is some =
    let fast : rows ≤ seen = t.fast in
    record {
      left_are = is ∙ ap (λ (xs : List Event). drop count xs) t.left_are ∙ drop-drop count seen events;
      some = some;
      few = few;
      fast = omega (arith, fast, more);
      known = row_turned (turns_at events hart) seen count (is_turn hart (Some row.event)) last more
          (λ m from to. turns_in_row events hart seen row left schedule t.left_are m from (omega (arith, to, within))) t.known;
    }

-- as many are seen as were made
pub all_seen : (events : List Event) (hart made : ℕ) (next : Option EventRun) (left : ℕ) (schedule : Schedule) (seen rows : ℕ) (last : Option ℕ) →
    Turning events hart made next left schedule seen rows last → made ≤ seen → last ≡ last_below (turns_at events hart) made
all_seen events hart made next left schedule seen rows last t over =
    let few : seen ≤ made = t.few in
    let same : seen ≡ made = omega (arith, few, over) in
    t.known ∙ ap (last_below (turns_at events hart)) same

none_after : (n : ℕ) (events : List Event) → length (drop n events) ≡ 0 → length events ≤ n
none_after n events none = let size = length-drop n events in omega (arith, size, none)

-- no event is left
pub none_left : (events : List Event) (hart made : ℕ) (next : Option EventRun) (left : ℕ) (schedule : Schedule) (seen rows : ℕ) (last : Option ℕ) →
    Turning events hart made next left schedule seen rows last → next ≡ None → made ≤ length events → last ≡ last_below (turns_at events hart) made
none_left events hart made next left schedule seen rows last t none within =
    let empty = ap (λ (xs : List Event). length xs) (sym t.left_are ∙ ap (λ (n : Option EventRun). upcoming n left schedule) none) in
    let over : length events ≤ seen = none_after seen events empty in
    all_seen events hart made next left schedule seen rows last t (omega (arith, over, within))

pub less_by : (a b : ℕ) → a ≤ b → (a ≡ b → ⊥) → a < b
less_by a b few other = by_test (nat_lt a b) refl
  where
    by_test : (test : Bool) → nat_lt a b ≡ test → a < b
    by_test true is = ltb-true a b is
    by_test false is = let over : b ≤ a = ltb-false a b is in let same : a ≡ b = omega (arith, few, over) in absurd (other same)

-- of the events of a run
pub turns_of_run : (result : Option ℕ) (run : Run) (hart made : ℕ) (events : List Event) → events ≡ run.events → run.made ≡ made → run.made ≤ length run.events →
    (made ≤ length events → result ≡ last_below (turns_at events hart) made) → result ≡ last_turn hart run
unfolding last_turn next_event
turns_of_run result run hart made events is count within known =
    let size = ap (λ (xs : List Event). length xs) is in
    known (omega (arith, within, count, size)) ∙ ap (λ (xs : List Event). last_below (turns_at xs hart) made) is ∙ ap (last_below (turns_at run.events hart)) (sym count)
