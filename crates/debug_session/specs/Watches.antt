-- Words of memory that are watched. This project's own; GDB manual, "Packets" (Z2).
use Rattle.std.specs.Prelude.{ℕ, ◌%◌, ◌==◌, not, if◌then◌else◌, List, [], ◌∷◌, ◌++◌, map, filter, Option, Some, None, option_and_then}
use Rattle.spec_processor.specs.Bytes.{in_ram, ram_offset, word}
use Rattle.gdb_protocol.specs.declared.packet.Range.{Range}
use Rattle.spec_reference.specs.declared.saved_machine.harts.SavedHart.{SavedHart}
use Rattle.debug_views.specs.Memory.{seen_address}
use Rattle.debug_session.specs.declared.watches.Watch.{Watch}
use Rattle.debug_session.specs.declared.watches.Width.{Width}
use Rattle.debug_session.specs.declared.watches.Width.TheVariants.{One, Two, Four, Eight}

abbrev pub bytes_of : Width → ℕ
bytes_of One = 1
bytes_of Two = 2
bytes_of Four = 4
bytes_of Eight = 8

abbrev pub width_of : ℕ → Option Width
width_of length =
    if length == 1 then Some One
    else if length == 2 then Some Two
    else if length == 4 then Some Four
    else if length == 8 then Some Eight
    else None

-- ---- what is watched

-- the word that is watched; outside RAM there is none
unfoldable pub watched : (ram : List ℕ) → Watch → ℕ
watched ram w = if in_ram ram w.place (bytes_of w.width) then word ram (ram_offset w.place) (bytes_of w.width) else 0

abbrev pub all_watched : List Watch → (ram : List ℕ) → List ℕ
all_watched watches ram = map (watched ram) watches

-- the address of the first watch whose word isn't what it was before
unfoldable pub first_changed : (watches : List Watch) → (before ram : List ℕ) → Option ℕ
first_changed [] before ram = None
first_changed (w ∷ watches) [] ram = None
first_changed (w ∷ watches) (was ∷ before) ram = if watched ram w == was then first_changed watches before ram else Some w.address

-- ---- watches are set and cleared

abbrev pub watch_at : Width → Range → (place : ℕ) → Watch
watch_at width range place = record { address = range.start; place = place; width = width }

-- a word that is aligned lies in one page
abbrev pub watch_of_width : (ram : List ℕ) → Range → (satp : ℕ) → Width → Option Watch
watch_of_width ram range satp width =
    if range.start % bytes_of width == 0 then option_and_then (λ place. Some (watch_at width range place)) (seen_address ram satp range.start) else None

-- the watch of an aligned word of a hart's memory: from then on of its place, whatever becomes of translation. None where there is
-- no such word
unfoldable pub watch_of : (ram : List ℕ) → Range → SavedHart → Option Watch
watch_of ram range hart = option_and_then (watch_of_width ram range hart.satp) (width_of range.length)

abbrev pub without_watch : List Watch → (address : ℕ) → List Watch
without_watch watches address = filter (λ w. not (w.address == address)) watches

-- in the place of one of the same address
abbrev pub with_watch : List Watch → Option Watch → List Watch
with_watch watches None = watches
with_watch watches (Some w) = without_watch watches w.address ++ w ∷ []
