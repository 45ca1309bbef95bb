-- Writes of an attacker's device, computed.
use Rattle.std.proofs.Common.{refl}
use Rattle.spec_examples.specs.AttackerRows.{AttackerRows}
use Rattle.spec_examples.proofs.Computing.{computing}

pub attacker_rows : AttackerRows
unfolding computing
attacker_rows = record {
  free_page = refl;
  first_free_bytes = refl;
  last_of_ram = refl;
  free_page_counts = refl;
  each_that_is_touched_goes = refl;
  another_harts_goes = refl;
  those_around_stay = refl;
  denied_leaves_reservations = refl;
  approved_page = refl;
  approved_page_is_noted = refl;
  approved_page_counts = refl;
  last_of_an_approved_page = refl;
  held_page = refl;
  held_page_is_noted = refl;
  held_page_counts = refl;
  page_after_a_held_one = refl;
  outside_ram = refl;
  past_the_end_of_ram = refl;
  before_ram = refl;
  no_multiple_of_eight = refl;
  odd_address = refl;
  no_multiple_of_eight_in_an_approved_page = refl;
  shut_down = refl;
  stopped = refl;
}
