-- Calls, computed.
use Rattle.std.proofs.Common.{refl}
use Rattle.spec_examples.specs.CallRows.{CallRows}
use Rattle.spec_examples.proofs.Computing.{computing}

pub call_rows : CallRows
unfolding computing
call_rows = record {
  set_timer = refl;
  timer_is_set = refl;
  print = refl;
  printed_byte = refl;
  no_input = refl;
  input = refl;
  input_taken = refl;
  shutdown = refl;
  shutdown_leaves_the_hart = refl;
  version = refl;
  implementation = refl;
  implementation_version = refl;
  extension_there = refl;
  extension_not_there = refl;
  vendor = refl;
  architecture = refl;
  machine_version = refl;
  base_has_no_more = refl;
  timer = refl;
  timer_set_too = refl;
  timer_has_no_more = refl;
  interrupt_of_both = refl;
  interrupt_of_the_caller = refl;
  interrupt_of_the_other = refl;
  interrupt_of_the_other_alone = refl;
  interrupt_of_all = refl;
  interrupt_of_none = refl;
  interrupt_of_a_third = refl;
  interrupt_of_a_third_does_nothing = refl;
  interrupt_of_the_last_bit = refl;
  interrupts_have_no_more = refl;
  remote_fence = refl;
  remote_fence_of_pages = refl;
  remote_fence_of_a_space = refl;
  remote_fence_of_a_third = refl;
  fences_have_no_more = refl;
  start = refl;
  started = refl;
  started_has_its_number = refl;
  started_has_no_timer = refl;
  start_of_a_third = refl;
  start_of_a_started_one = refl;
  start_at_no_entry = refl;
  stop = refl;
  stop_leaves_the_registers = refl;
  status_of_a_started_one = refl;
  status_of_a_stopped_one = refl;
  status_of_a_third = refl;
  harts_have_no_more = refl;
  reset = refl;
  cold_reboot = refl;
  warm_reboot = refl;
  reset_of_the_next_type = refl;
  unknown_reset = refl;
  reset_has_no_more = refl;
  unknown_extension = refl;
  modules_have_no_more = refl;
}
