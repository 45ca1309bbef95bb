-- Keys among the events of `auto(0, harts)`: each has its byte, and the number of those events before it.
use Rattle.std.specs.Prelude.{ℕ, ◌-◌, Bool, ◌&&◌, nat_le, List, [], ◌∷◌, ◌++◌, map}
use Rattle.std.specs.List.{list_all}
use Rattle.sv_types.specs.ApprovedPages.{numbers_from}
use Rattle.sv_types.specs.Schedule.{auto_event, highest_byte}
use Rattle.sv_types.specs.declared.event.Event.{Event}
use Rattle.sv_types.specs.declared.event.Event.TheVariants.{Turn, Beat, Key, Tick, Poke}
use Rattle.live_keys.specs.declared.live_key.LiveKey.{LiveKey}

-- the numbers never fall, from one on, and are at most the last
abbrev pub is_placed : (first : ℕ) → List LiveKey → (last : ℕ) → Bool
is_placed first [] last = nat_le first last
is_placed first (key ∷ keys) last = nat_le first key.before && is_placed key.before keys last

-- the events of `auto(0, harts)` from one number up to another
abbrev pub autos_between : (harts first last : ℕ) → List Event
autos_between harts first last = map (auto_event harts 0) (numbers_from first (last - first))

-- these events from one number up to another, with each key at its place
abbrev pub events_between : (harts first : ℕ) → List LiveKey → (last : ℕ) → List Event
events_between harts first [] last = autos_between harts first last
events_between harts first (key ∷ keys) last =
    autos_between harts first key.before ++ Key key.byte ∷ events_between harts key.before keys last

-- each key is a byte
abbrev pub are_bytes : List LiveKey → Bool
are_bytes keys = list_all (λ (key : LiveKey). nat_le key.byte highest_byte) keys

abbrev pub bytes_of : List LiveKey → List ℕ
bytes_of keys = map (λ (key : LiveKey). key.byte) keys

-- ---- any list of events

-- the bytes of the keys among them, in order
abbrev pub keys_among : List Event → List ℕ
keys_among [] = []
keys_among (Key byte ∷ events) = byte ∷ keys_among events
keys_among (Turn hart ∷ events) = keys_among events
keys_among (Beat ∷ events) = keys_among events
keys_among (Tick ticks ∷ events) = keys_among events
keys_among (Poke gpa value ∷ events) = keys_among events

-- those that are no keys, in order
abbrev pub others_among : List Event → List Event
others_among [] = []
others_among (Key byte ∷ events) = others_among events
others_among (Turn hart ∷ events) = Turn hart ∷ others_among events
others_among (Beat ∷ events) = Beat ∷ others_among events
others_among (Tick ticks ∷ events) = Tick ticks ∷ others_among events
others_among (Poke gpa value ∷ events) = Poke gpa value ∷ others_among events
