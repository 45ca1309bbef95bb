-- Writes of an attacker's device, a row for each case. This project's own.
use Rattle.std.specs.Prelude.{◌≡◌, ℕ, List, [], ◌∷◌, map, Option, Some, None}
use Rattle.spec_processor.specs.Bytes.{overwrite}
use Rattle.sv_types.specs.declared.event.Counts.{Counts}
use Rattle.sv_types.specs.declared.event.Event.TheVariants.{Poke}
use Rattle.sv_types.specs.declared.event.Note.TheVariants.{Denied}
use Rattle.sv_types.specs.declared.event.Rule.TheVariants.{Entry}
use Rattle.sv_types.specs.declared.event.Verdict.{Verdict}
use Rattle.sv_types.specs.declared.event.Verdict.TheVariants.{Shutdown, Stopped}
use Rattle.spec_reference.specs.Run.{step}
use Rattle.spec_reference.specs.States.{State, Hart, with_hart}
use Rattle.spec_examples.specs.Guests.{small, hart_of}

-- eight bytes that differ, at an address
abbrev pub poked : State → (gpa : ℕ) → State
poked r gpa = step r (Poke gpa 0x1122334455667788)

abbrev pub poked_bytes : List ℕ
poked_bytes = 0x88 ∷ 0x77 ∷ 0x66 ∷ 0x55 ∷ 0x44 ∷ 0x33 ∷ 0x22 ∷ 0x11 ∷ []

-- two harts and four pages, of which the first is approved
abbrev pub quiet : State
quiet = small 0x13 0x13

-- the third page is held for a load
abbrev pub holding : State
holding = record quiet { held = 2 ∷ [] }

-- RAM with those bytes from a place on
abbrev pub poked_at : (place : ℕ) → List ℕ
poked_at place = overwrite quiet.ram place poked_bytes

-- only the count of beats is raised
abbrev pub counted_alone : State → State
counted_alone r = record r { journal = record r.journal { counts = record r.journal.counts { beats = 1 } } }

abbrev pub denied_counts : Counts
denied_counts = record quiet.journal.counts { beats = 1; denied = 1; notes = 1 }

-- each hart has a reservation
abbrev pub reserving : (first second : ℕ) → State
reserving first second =
    with_hart (with_hart quiet 0 (record (hart_of quiet 0) { reservation = Some first })) 1 (record (hart_of quiet 1) { reservation = Some second })

abbrev pub reservations : State → List (Option ℕ)
reservations r = map (λ (hart : Hart). hart.reservation) r.harts

abbrev pub ended : Verdict → State
ended verdict = record quiet { journal = record quiet.journal { verdict = verdict } }

pub record AttackerRows : Type 0 where
  -- ---- a free page: the bytes move, the lowest first
  pub free_page : (poked quiet 0x80002008).ram ≡ poked_at 0x2008
  pub first_free_bytes : (poked quiet 0x80001000).ram ≡ poked_at 0x1000
  pub last_of_ram : (poked quiet 0x80003FF8).ram ≡ poked_at 0x3FF8
  pub free_page_counts : (poked quiet 0x80002008).journal ≡ (counted_alone quiet).journal
  -- ---- reservations
  pub each_that_is_touched_goes : reservations (poked (reserving 0x2008 0x2008) 0x80002008) ≡ None ∷ None ∷ []
  pub another_harts_goes : reservations (poked (reserving 0x2000 0x2008) 0x80002008) ≡ Some 0x2000 ∷ None ∷ []
  pub those_around_stay : reservations (poked (reserving 0x2000 0x2010) 0x80002008) ≡ Some 0x2000 ∷ Some 0x2010 ∷ []
  pub denied_leaves_reservations : reservations (poked (reserving 0 8) 0x80000000) ≡ Some 0 ∷ Some 8 ∷ []
  -- ---- protected pages: nothing moves, and a note names the address
  pub approved_page : (poked quiet 0x80000008).ram ≡ quiet.ram
  pub approved_page_is_noted : (poked quiet 0x80000008).journal.notes ≡ Denied 0x80000008 ∷ []
  pub approved_page_counts : (poked quiet 0x80000008).journal.counts ≡ denied_counts
  pub last_of_an_approved_page : (poked quiet 0x80000FF8).journal.notes ≡ Denied 0x80000FF8 ∷ []
  pub held_page : (poked holding 0x80002008).ram ≡ quiet.ram
  pub held_page_is_noted : (poked holding 0x80002008).journal.notes ≡ Denied 0x80002008 ∷ []
  pub held_page_counts : (poked holding 0x80002008).journal.counts ≡ denied_counts
  pub page_after_a_held_one : (poked holding 0x80003000).ram ≡ poked_at 0x3000
  -- ---- addresses at which nothing moves, and nothing is noted
  pub outside_ram : poked quiet 0x90000000 ≡ counted_alone quiet
  pub past_the_end_of_ram : poked quiet 0x80004000 ≡ counted_alone quiet
  pub before_ram : poked quiet 0x7FFFFFF8 ≡ counted_alone quiet
  pub no_multiple_of_eight : poked quiet 0x80002004 ≡ counted_alone quiet
  pub odd_address : poked quiet 0x80002009 ≡ counted_alone quiet
  pub no_multiple_of_eight_in_an_approved_page : poked quiet 0x80000004 ≡ counted_alone quiet
  -- ---- a machine that has ended
  pub shut_down : poked (ended Shutdown) 0x80002008 ≡ ended Shutdown
  pub stopped : poked (ended (Stopped (Entry 0x80000104) 1 7)) 0x80002008 ≡ ended (Stopped (Entry 0x80000104) 1 7)
