-- Relocated fields, computed.
use Rattle.std.proofs.Common.{refl}
use Rattle.spec_examples.specs.FieldRows.{FieldRows}
use Rattle.spec_examples.proofs.Computing.{computing}

pub field_rows : FieldRows
unfolding computing
field_rows = record {
  double_word = refl;
  other_double_word = refl;
  branch = refl;
  branch_of_the_other_bits = refl;
  farthest_branch = refl;
  branch_too_far = refl;
  farthest_branch_back = refl;
  branch_too_far_back = refl;
  odd_branch = refl;
  jump = refl;
  jump_of_the_other_bits = refl;
  farthest_jump = refl;
  jump_too_far = refl;
  farthest_jump_back = refl;
  jump_too_far_back = refl;
  odd_jump = refl;
  upper_part = refl;
  upper_part_with_a_carry = refl;
  upper_part_without_its_carry = refl;
  lower_part = refl;
  lower_part_after_a_carry = refl;
  stored_part = refl;
  stored_part_after_a_carry = refl;
  other_stored_part = refl;
  highest_upper_part = refl;
  too_high_an_upper_part = refl;
  lowest_upper_part = refl;
  too_low_an_upper_part = refl;
  too_high_a_lower_part = refl;
  too_low_a_lower_part = refl;
  too_high_a_stored_part = refl;
  too_low_a_stored_part = refl;
  upper_distance = refl;
  upper_distance_back = refl;
  lower_distance = refl;
  lower_distance_back = refl;
  stored_distance = refl;
  stored_distance_back = refl;
  too_high_a_distance = refl;
  too_low_a_distance = refl;
}
