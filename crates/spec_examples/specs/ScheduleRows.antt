-- A script's line for an attacker's device, and schedules that are drawn, a row for each case. This project's own.
use Rattle.std.specs.Prelude.{◌≡◌, ℕ, List, [], ◌∷◌, ◌++◌, replicate, Option, Some, None, codes, ◌*◌, ◌^◌, ◌-◌}
use Rattle.sv_types.specs.Schedule.{line_events, burst_length, Auto, Bursts, first_events}
use Rattle.sv_types.specs.declared.event.Event.{Event}
use Rattle.sv_types.specs.declared.event.Event.TheVariants.{Turn, Beat, Tick, Poke}

abbrev pub one_poke : (gpa value : ℕ) → Option (List Event)
one_poke gpa value = Some (Poke gpa value ∷ [])

-- so many turns of a hart
abbrev pub turns : (hart n : ℕ) → List Event
turns hart n = replicate n (Turn hart)

pub record ScheduleRows : Type 0 where
  -- ---- the line
  pub poke : line_events (codes "poke 0x80001008 0x1122334455667788") ≡ one_poke 0x80001008 0x1122334455667788
  pub few_digits : line_events (codes "poke 0x8 0x0") ≡ one_poke 8 0
  pub capitals : line_events (codes "poke 0x8000aBc8 0xFf") ≡ one_poke 0x8000ABC8 255
  pub max_digits : line_events (codes "poke 0xfffffffffffffff8 0xffffffffffffffff") ≡ one_poke (2 ^ 64 - 8) (2 ^ 64 - 1)
  pub zeros_in_front : line_events (codes "poke 0x0000000080001008 0x01") ≡ one_poke 0x80001008 1
  pub address_of_no_form : line_events (codes "poke 80001008 0x1") ≡ None
  pub value_of_no_form : line_events (codes "poke 0x80001008 1") ≡ None
  pub no_digits : line_events (codes "poke 0x 0x1") ≡ None
  pub no_digits_of_the_value : line_events (codes "poke 0x80001008 0x") ≡ None
  pub digit_of_no_number : line_events (codes "poke 0x8000100g 0x1") ≡ None
  pub digit_of_no_number_in_the_value : line_events (codes "poke 0x80001008 0x1G") ≡ None
  pub capital_sign : line_events (codes "poke 0X80001008 0x1") ≡ None
  pub digits_past_sixteen : line_events (codes "poke 0x00000000080001008 0x1") ≡ None
  pub value_past_sixteen : line_events (codes "poke 0x80001008 0x00000000000000001") ≡ None
  pub no_multiple_of_eight : line_events (codes "poke 0x80001004 0x1") ≡ None
  pub one_past_a_multiple : line_events (codes "poke 0x80001009 0x1") ≡ None
  pub without_a_value : line_events (codes "poke 0x80001008") ≡ None
  pub with_a_third_field : line_events (codes "poke 0x80001008 0x1 0x1") ≡ None
  -- ---- `auto`: each event's hart is drawn
  pub auto : first_events 9 (Auto 3 1) ≡ turns 1 4 ++ (Beat ∷ turns 1 2) ++ (Turn 0 ∷ Beat ∷ [])
  pub auto_of_another_number : first_events 10 (Auto 3 2) ≡
      Beat ∷ Beat ∷ Turn 0 ∷ Turn 1 ∷ Turn 2 ∷ Turn 1 ∷ Turn 1 ∷ Beat ∷ Turn 1 ∷ Tick 16 ∷ []
  -- ---- bursts: of eight events each, and of two, one and many
  pub bursts : first_events 24 (Bursts 4 0 0 0) ≡
      turns 2 8 ++ turns 3 4 ++ (Beat ∷ turns 3 2) ++ (Tick 16 ∷ turns 3 3) ++ (Beat ∷ turns 3 4)
  pub bursts_of_another_number : first_events 12 (Bursts 4 0 0 100) ≡ Beat ∷ Beat ∷ Turn 2 ∷ turns 1 4 ++ (Beat ∷ turns 1 3) ++ (Tick 16 ∷ [])
  pub bursts_of_one_hart : first_events 24 (Bursts 1 0 0 0) ≡
      turns 0 12 ++ (Beat ∷ turns 0 2) ++ (Tick 16 ∷ turns 0 3) ++ (Beat ∷ turns 0 4)
  pub rest_of_a_burst : first_events 6 (Bursts 4 1 2 6) ≡ Turn 1 ∷ Turn 1 ∷ Turn 3 ∷ Beat ∷ Turn 3 ∷ Beat ∷ []
  pub shortest_burst : burst_length (13 * 2 ^ 48) ≡ 1
  pub longest_burst : burst_length (12 * 2 ^ 48) ≡ 4096
