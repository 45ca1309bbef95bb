-- A line for an attacker's device, and drawn schedules, computed.
use Rattle.std.proofs.Common.{refl}
use Rattle.spec_examples.specs.ScheduleRows.{ScheduleRows}
use Rattle.spec_examples.proofs.Computing.{computing}

pub schedule_rows : ScheduleRows
unfolding computing
schedule_rows = record {
  poke = refl;
  few_digits = refl;
  capitals = refl;
  max_digits = refl;
  zeros_in_front = refl;
  address_of_no_form = refl;
  value_of_no_form = refl;
  no_digits = refl;
  no_digits_of_the_value = refl;
  digit_of_no_number = refl;
  digit_of_no_number_in_the_value = refl;
  capital_sign = refl;
  digits_past_sixteen = refl;
  value_past_sixteen = refl;
  no_multiple_of_eight = refl;
  one_past_a_multiple = refl;
  without_a_value = refl;
  with_a_third_field = refl;
  auto = refl;
  auto_of_another_number = refl;
  bursts = refl;
  bursts_of_another_number = refl;
  bursts_of_one_hart = refl;
  rest_of_a_burst = refl;
  shortest_burst = refl;
  longest_burst = refl;
}
