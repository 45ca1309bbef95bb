-- A run under way: forwards to a halt, and once more up to a place.
use Rattle.std.proofs.Common.{◌≡◌, ℕ, zero, suc, ◌+◌, ◌-◌, ◌<◌, ◌≤◌, Bool, true, false, ◌||◌, if◌then◌else◌, List, [], ◌∷◌, length, refl, sym, ◌∙◌, ap, ap₂, Option, Some, None, arith}
use Rattle.std.specs.Prelude.{unwrap_or, option_map, is_some, nat_lt, slice_get, OnOk, IfOk, Result, Ok, Err}
use Rattle.std.proofs.lemmas.Bool.{lt-ltb, le-ltb}
use Rattle.sv_types.specs.declared.event.Event.{Event}
use Rattle.debug_session.specs.Runs.{Run, after, events_left, next_event, next_turn, turning, halts, halts_after, first_halt, meets_break, is_met, is_step, is_target, last_below, last_turn, change_at}
use Rattle.debug_session.specs.Runs.{last_change, found_at, found_turn, number_in, back_number, behind, found_behind}
use Rattle.debug_session.specs.Watches.{first_changed}
use Rattle.debug_session.specs.declared.motion.Change.{Change}
use Rattle.debug_session.specs.declared.motion.Found.{Found}
use Rattle.debug_session.specs.declared.watches.Watch.{Watch}

-- n events more are made of at most so many that were left, the halt is still ahead, and what the last event changed is known
pub record Underway {T : Type 0} (stands : T → Run → Type 0) (breaks : List ℕ) (watches : List Watch) (steps : Option ℕ) (first : T) (most n : ℕ) (now : T) (change : Option Change) : Type 0 where
  pub few : (run : Run) → stands first run → events_left run ≤ most
  pub here : (run : Run) → stands first run → stands now (after run (run.made + n))
  pub still : (run : Run) → stands first run →
      first_halt (halts_after breaks watches steps run) run.made (events_left run) ≡ first_halt (halts_after breaks watches steps run) (run.made + n) (events_left run - n)
  pub last : (run : Run) → stands first run → change ≡ last_change watches run (run.made + n)

pub first_halt_none : (h : ℕ → Bool) (n left : ℕ) → left ≡ 0 → first_halt h n left ≡ n
unfolding first_halt
first_halt_none h n left none = rw none refl

first_halt_step : (h : ℕ → Bool) (n left : ℕ) → 0 < left → first_halt h n left ≡ (if h n then n + 1 else first_halt h (n + 1) (left - 1))
unfolding first_halt
first_halt_step h n left some =
    let more : left ≡ suc (left - 1) = omega (arith, some) in
    ap (first_halt h n) more

pub first_halt_here : (h : ℕ → Bool) (n left : ℕ) → 0 < left → h n ≡ true → first_halt h n left ≡ n + 1
first_halt_here h n left some is = first_halt_step h n left some ∙ ap (λ b. if b then n + 1 else first_halt h (n + 1) (left - 1)) is

pub first_halt_later : (h : ℕ → Bool) (n left : ℕ) → 0 < left → h n ≡ false → first_halt h n left ≡ first_halt h (n + 1) (left - 1)
first_halt_later h n left some is = first_halt_step h n left some ∙ ap (λ b. if b then n + 1 else first_halt h (n + 1) (left - 1)) is

-- whether it halts after an event more, by the turn that was next and what it changed
pub halts_by : (breaks : List ℕ) (watches : List Watch) (steps turn : Option ℕ) (change : Option Change) (run : Run) (n : ℕ) → turn ≡ next_turn (after run n) →
    change ≡ change_at watches run n → halts_after breaks watches steps run n ≡ halts breaks steps turn change (after run (n + 1))
unfolding halts_after
halts_by breaks watches steps turn change run n is changed =
    ap (λ t. halts breaks steps t (change_at watches run n) (after run (n + 1))) (sym is) ∙ ap (λ c. halts breaks steps turn c (after run (n + 1))) (sym changed)

-- the change of the event after n others doesn't depend on how many are made
pub same_change : (watches : List Watch) (run : Run) (m n : ℕ) → change_at watches (after run m) n ≡ change_at watches run n
unfolding change_at
same_change watches run m n = refl

pub none_made : (watches : List Watch) (run : Run) → None ≡ last_change watches run (run.made + 0)
none_made watches run =
    let none : nat_lt run.made (run.made + 0) ≡ false = le-ltb run.made (run.made + 0) (omega arith) in
    ap (λ b. if b then change_at watches run (run.made + 0 - 1) else None) (sym none)

pub one_made : (watches : List Watch) (run : Run) (n : ℕ) (change : Option Change) → change ≡ change_at watches run (run.made + n) → change ≡ last_change watches run (run.made + (n + 1))
one_made watches run n change is =
    let more : nat_lt run.made (run.made + (n + 1)) ≡ true = lt-ltb run.made (run.made + (n + 1)) (omega arith) in
    let place : run.made + (n + 1) - 1 ≡ run.made + n = omega arith in
    is ∙ ap (change_at watches run) (sym place) ∙ ap (λ b. if b then change_at watches run (run.made + (n + 1) - 1) else None) (sym more)

-- ---- backwards

-- from the first event on: n events are made, and the last place below is known
pub record Searched {T : Type 0} (stands : T → Run → Type 0) (breaks : List ℕ) (watches : List Watch) (first : T) (count n : ℕ) (last : Option Found) (now : T) : Type 0 where
  pub here : (run : Run) → stands first (after run 0) → count ≤ length run.events → stands now (after run n)
  pub known : (run : Run) → stands first (after run 0) → count ≤ length run.events → last ≡ option_map (found_at watches run) (last_below (is_target breaks watches None run) n)

pub last_below_none : (p : ℕ → Bool) → last_below p 0 ≡ None
unfolding last_below
last_below_none p = refl

pub last_below_next : (p : ℕ → Bool) (n : ℕ) → last_below p (n + 1) ≡ (if p n then Some n else last_below p n)
unfolding last_below
last_below_next p n =
    let more : n + 1 ≡ suc n = omega arith in
    ap (last_below p) more

pub last_small : (p : ℕ → Bool) (n : ℕ) → unwrap_or (last_below p n) 0 ≤ n
unfolding last_below
last_small p zero = omega arith
last_small p (suc n) =
    let below : unwrap_or (last_below p n) 0 ≤ n = last_small p n in
    elim (p n) as (λ b. unwrap_or (if b then Some n else last_below p n) 0 ≤ suc n) [
      | true ↦ omega arith
      | false ↦ omega (arith, below)
    ]

pub number_found : (watches : List Watch) (run : Run) (number : Option ℕ) → number_in (option_map (found_at watches run) number) ≡ unwrap_or number 0
number_found watches run None = refl
number_found watches run (Some n) = refl

-- whether a place is one to go back to, by what is met there and what the next event changes
pub target_by : (breaks : List ℕ) (watches : List Watch) (run : Run) (n : ℕ) (met : Bool) (change : Option Change) → met ≡ meets_break breaks (after run n) →
    change ≡ change_at watches run n → (met || is_some change) ≡ is_target breaks watches None run n
unfolding is_target is_met
target_by breaks watches run n met change is changed = ap₂ (λ (m : Bool) (c : Option Change). m || is_some c) is changed

abbrev found_by : ℕ → Option Change → Option Found
found_by n change = Some (record { made = n; change = change })

pub found_here : (watches : List Watch) (run : Run) (n : ℕ) (change : Option Change) → change ≡ change_at watches run n →
    ◌≡◌ {A = Option Found} (Some (record { made = n; change = change })) (option_map (found_at watches run) (Some n))
found_here watches run n change changed = ap (λ (c : Option Change). found_by n c) changed

-- ---- a turn back

abbrev turns_at : ℕ → Run → ℕ → Bool
turns_at hart run n = is_step (Some hart) (next_turn (after run n))

last_same : (p q : ℕ → Bool) → ((n : ℕ) → p n ≡ q n) → (n : ℕ) → last_below p n ≡ last_below q n
unfolding last_below
last_same p q same zero = refl
last_same p q same (suc n) = ap₂ (λ (b : Bool) (last : Option ℕ). if b then Some n else last) (same n) (last_same p q same n)

no_more : (b : Bool) → (b || false) ≡ b
no_more true = refl
no_more false = refl

quiet : (run : Run) (n : ℕ) → change_at [] run n ≡ None
unfolding change_at first_changed
quiet run n = refl

turn_is_target : (breaks : List ℕ) (hart : ℕ) (run : Run) (n : ℕ) → is_target breaks [] (Some hart) run n ≡ turns_at hart run n
unfolding is_target is_met
turn_is_target breaks hart run n = ap (λ (c : Option Change). turns_at hart run n || is_some c) (quiet run n) ∙ no_more (turns_at hart run n)

turn_back : (breaks : List ℕ) (watches : List Watch) (hart : ℕ) (run : Run) → last_turn hart run ≡ back_number breaks watches (Some hart) run
unfolding last_turn back_number
turn_back breaks watches hart run = last_same (turns_at hart run) (is_target breaks [] (Some hart) run) (λ n. sym (turn_is_target breaks hart run n)) run.made

-- where a step leads back
pub turn_behind : (breaks : List ℕ) (watches : List Watch) (hart : ℕ) (run : Run) → after run (unwrap_or (last_turn hart run) 0) ≡ behind breaks watches (Some hart) run
unfolding behind
turn_behind breaks watches hart run = ap (λ (number : Option ℕ). after run (unwrap_or number 0)) (turn_back breaks watches hart run)

quiet_turn : (run : Run) (n : ℕ) → found_turn n ≡ found_at [] run n
quiet_turn run n = ap (λ (c : Option Change). record { made = n; change = c }) (sym (quiet run n))

each_quiet : (run : Run) (number : Option ℕ) → option_map found_turn number ≡ option_map (found_at [] run) number
each_quiet run None = refl
each_quiet run (Some n) = ap (λ (found : Found). Some found) (quiet_turn run n)

-- and what is found there
pub turn_found : (breaks : List ℕ) (watches : List Watch) (hart : ℕ) (run : Run) → option_map found_turn (last_turn hart run) ≡ found_behind breaks watches (Some hart) run
unfolding found_behind
turn_found breaks watches hart run = each_quiet run (last_turn hart run) ∙ ap (option_map (found_at [] run)) (turn_back breaks watches hart run)

place_within : (events : List Event) (n hart : ℕ) → is_step (Some hart) (turning (slice_get events n)) ≡ true → n ≤ length events
place_within [] zero hart is = omega arith
place_within [] (suc n) hart is = absurd (cc is)
place_within (e ∷ events) zero hart is = omega arith
place_within (e ∷ events) (suc n) hart is = let lower : n ≤ length events = place_within events n hart is in omega (arith, lower)

turn_within : (hart : ℕ) (run : Run) (n : ℕ) → turns_at hart run n ≡ true → n ≤ length run.events
unfolding next_event
turn_within hart run n is = place_within run.events n hart is

below_or_here : (hart : ℕ) (run : Run) (n : ℕ) (b : Bool) → turns_at hart run n ≡ b → unwrap_or (last_below (turns_at hart run) n) 0 ≤ length run.events →
    unwrap_or (if b then Some n else last_below (turns_at hart run) n) 0 ≤ length run.events
below_or_here hart run n true is lower = turn_within hart run n is
below_or_here hart run n false is lower = lower

below_within : (hart : ℕ) (run : Run) (n : ℕ) → unwrap_or (last_below (turns_at hart run) n) 0 ≤ length run.events
unfolding last_below
below_within hart run zero = omega arith
below_within hart run (suc n) = below_or_here hart run n (turns_at hart run n) refl (below_within hart run n)

-- no more events than there are
pub last_turn_within : (hart : ℕ) (run : Run) → unwrap_or (last_turn hart run) 0 ≤ length run.events
unfolding last_turn
last_turn_within hart run = below_within hart run run.made

-- ---- where nothing failed

pub on_ok : {A E P Q : Type 0} (r : Result A E) → OnOk r P → (P → Q) → OnOk r Q
on_ok (Ok done) p f = f p
on_ok (Err e) p f = tt

pub if_ok : {A E : Type 0} {P Q : A → Type 0} (r : Result A E) → IfOk r P → ((a : A) → P a → Q a) → IfOk r Q
if_ok (Ok done) p f = f done p
if_ok (Err e) p f = tt
