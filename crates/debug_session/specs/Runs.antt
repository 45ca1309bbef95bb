-- A run that is debugged, and where it halts. This project's own.
use Rattle.std.specs.Prelude.{ℕ, zero, suc, ◌+◌, ◌-◌, Bool, true, false, not, ◌||◌, ◌==◌, if◌then◌else◌, List, [], length, take, Option, Some}
use Rattle.std.specs.Prelude.{None, option_and_then, option_map, unwrap_or, slice_get, nat_lt, is_some}
use Rattle.sv_types.specs.declared.event.Event.{Event}
use Rattle.sv_types.specs.declared.event.Event.TheVariants.{Turn, Beat, Key, Tick, Poke}
use Rattle.sv_types.specs.declared.event.Verdict.{Verdict}
use Rattle.sv_types.specs.declared.event.Verdict.TheVariants.{Running, Shutdown, Stopped}
use Rattle.spec_reference.specs.Run as reference
use Rattle.spec_reference.specs.States.{State, Hart, has_number}
use Rattle.debug_session.specs.Watches.{all_watched, first_changed}
use Rattle.debug_session.specs.declared.motion.Change.{Change}
use Rattle.debug_session.specs.declared.motion.Found.{Found}
use Rattle.debug_session.specs.declared.watches.Watch.{Watch}

-- where it begins, the events that it may make, and how many of them are made; and its kernel's file, which names addresses
pub record Run : Type 0 where
  pub kernel : List ℕ
  pub start : State
  pub events : List Event
  pub made : ℕ

-- the same after so many events
abbrev pub after : Run → ℕ → Run
after run n = record run { made = n }

-- the reference machine's state after the events that are made
unfoldable pub state : Run → State
state run = reference.run run.start (take run.made run.events)

unfoldable pub next_event : Run → Option Event
next_event run = slice_get run.events run.made

abbrev pub events_left : Run → ℕ
events_left run = length run.events - run.made

-- ---- turns

-- the hart whose turn an event is
abbrev pub turning : Option Event → Option ℕ
turning None = None
turning (Some (Turn hart)) = Some hart
turning (Some Beat) = None
turning (Some (Key byte)) = None
turning (Some (Tick ticks)) = None
turning (Some (Poke gpa value)) = None

abbrev pub next_turn : Run → Option ℕ
next_turn run = turning (next_event run)

-- where a hart is about to fetch, none where it is stopped or there is none
abbrev pub fetch_place : Option Hart → Option ℕ
fetch_place None = None
fetch_place (Some hart) = if hart.started then Some hart.pc else None

abbrev pub place_of : Run → ℕ → Option ℕ
place_of run hart = fetch_place (slice_get (state run).harts hart)

-- ---- breaks

abbrev pub is_break : (breaks : List ℕ) → Option ℕ → Bool
is_break breaks None = false
is_break breaks (Some pc) = has_number breaks pc

-- the hart whose turn is next is about to fetch at a break
unfoldable pub meets_break : (breaks : List ℕ) → Run → Bool
meets_break breaks run = is_break breaks (option_and_then (place_of run) (next_turn run))

-- ---- watches

-- a change at an address, by a hart's turn or by another event
abbrev pub change_of : (turn : Option ℕ) → Option ℕ → Option Change
change_of turn None = None
change_of turn (Some address) = Some (record { address = address; turn = turn })

-- what the event after n others changes of what is watched
unfoldable pub change_at : List Watch → Run → ℕ → Option Change
change_at watches run n =
    change_of (next_turn (after run n)) (first_changed watches (all_watched watches (state (after run n)).ram) (state (after run (n + 1))).ram)

-- ---- forwards

abbrev pub is_running : Verdict → Bool
is_running Running = true
is_running Shutdown = false
is_running (Stopped rule hart turn) = false

-- a turn of the hart that steps
abbrev pub is_step : (steps : Option ℕ) → Option ℕ → Bool
is_step None turn = false
is_step (Some hart) None = false
is_step (Some hart) (Some turn) = turn == hart

-- after an event a run halts where that changed what is watched, where it has ended, where that was the step, and where a break is met
abbrev pub halts : (breaks : List ℕ) → (steps turn : Option ℕ) → Option Change → Run → Bool
halts breaks steps turn change run =
    is_some change || not (is_running (state run).journal.verdict) || is_step steps turn || meets_break breaks run

-- whether it halts after one event more
unfoldable pub halts_after : (breaks : List ℕ) → List Watch → (steps : Option ℕ) → Run → ℕ → Bool
halts_after breaks watches steps run n = halts breaks steps (next_turn (after run n)) (change_at watches run n) (after run (n + 1))

-- the first number of events after n, of so many that are left, after which it halts; the last where there is none
unfoldable pub first_halt : (halts : ℕ → Bool) → (n left : ℕ) → ℕ
first_halt halts n zero = n
first_halt halts n (suc left) = if halts n then n + 1 else first_halt halts (n + 1) left

unfoldable pub ahead : (breaks : List ℕ) → List Watch → (steps : Option ℕ) → Run → Run
ahead breaks watches steps run = after run (first_halt (halts_after breaks watches steps run) run.made (events_left run))

-- what the last event changed, where any was made to come there
abbrev pub last_change : List Watch → Run → (there : ℕ) → Option Change
last_change watches run there = if nat_lt run.made there then change_at watches run (there - 1) else None

-- the run after so many events, or after all
abbrev pub at_event : ℕ → Run → Run
at_event number run = after run (if nat_lt number (length run.events) then number else length run.events)

-- ---- backwards

-- the greatest number below another one that passes, none where there is none
unfoldable pub last_below : (passes : ℕ → Bool) → ℕ → Option ℕ
last_below passes zero = None
last_below passes (suc n) = if passes n then Some n else last_below passes n

-- the number of events before a hart's last turn among those that are made, none where it had none
unfoldable pub last_turn : (hart : ℕ) → Run → Option ℕ
last_turn hart run = last_below (λ n. is_step (Some hart) (next_turn (after run n))) run.made

-- a break is met; where a hart steps, its turn is next
unfoldable pub is_met : (breaks : List ℕ) → (steps : Option ℕ) → Run → Bool
is_met breaks None run = meets_break breaks run
is_met breaks (Some hart) run = is_step (Some hart) (next_turn run)

-- after n events a break is met, or the next event changes what is watched
unfoldable pub is_target : (breaks : List ℕ) → List Watch → (steps : Option ℕ) → Run → ℕ → Bool
is_target breaks watches steps run n = is_met breaks steps (after run n) || is_some (change_at watches run n)

-- a step back looks at no watch
abbrev pub watches_back : (steps : Option ℕ) → List Watch → List Watch
watches_back None watches = watches
watches_back (Some hart) watches = []

-- the number of events to go back to, none where nothing lies further back
unfoldable pub back_number : (breaks : List ℕ) → List Watch → (steps : Option ℕ) → Run → Option ℕ
back_number breaks watches steps run = last_below (is_target breaks (watches_back steps watches) steps run) run.made

unfoldable pub behind : (breaks : List ℕ) → List Watch → (steps : Option ℕ) → Run → Run
behind breaks watches steps run = after run (unwrap_or (back_number breaks watches steps run) 0)

-- what is found there
abbrev pub found_at : List Watch → Run → ℕ → Found
found_at watches run n = record { made = n; change = change_at watches run n }

-- a hart's turn is found; nothing is watched there
abbrev pub found_turn : ℕ → Found
found_turn n = record { made = n; change = None }

abbrev pub number_in : Option Found → ℕ
number_in None = 0
number_in (Some found) = found.made

unfoldable pub found_behind : (breaks : List ℕ) → List Watch → (steps : Option ℕ) → Run → Option Found
found_behind breaks watches steps run = option_map (found_at (watches_back steps watches) run) (back_number breaks watches steps run)
