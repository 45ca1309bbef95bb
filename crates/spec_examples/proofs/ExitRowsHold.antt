-- Exits, computed.
use Rattle.std.proofs.Common.{refl}
use Rattle.spec_processor.specs.HypervisorRegisters.{registers_at_boot, registers_at_exit}
use Rattle.spec_hardware.specs.Served.{serve_exit, exit_answered, exit_answer, answer_in, plain_answer, entry_answer, exit_ram_gpa}
use Rattle.spec_hardware.specs.Served.{fetch_answer, load_answer, write_answer, store_answer, virtual_answer, transformed_effect, is_sret}
use Rattle.spec_examples.specs.ExitRows.{ExitRows}
use Rattle.spec_examples.proofs.Computing.{computing}

unfoldable exits : Unit {0}
unfolding registers_at_boot registers_at_exit serve_exit exit_answered exit_answer answer_in plain_answer entry_answer exit_ram_gpa
exits = tt

unfoldable exit_answers : Unit {0}
unfolding fetch_answer load_answer write_answer store_answer virtual_answer transformed_effect is_sret
exit_answers = tt

pub exit_rows : ExitRows
unfolding computing exits exit_answers
exit_rows = record {
  shown_fetch = refl;
  shown_software = refl;
  shown_timer = refl;
  shown_external = refl;
  kernel_call = refl;
  kernel_fetch = refl;
  kernel_return = refl;
  kernel_virtual = refl;
  kernel_fetch_implicit = refl;
  user_fetch = refl;
  user_virtual = refl;
  user_software = refl;
  user_timer = refl;
  user_external = refl;
  user_0 = refl;
  user_1 = refl;
  user_2 = refl;
  user_3 = refl;
  user_4 = refl;
  user_5 = refl;
  user_6 = refl;
  user_7 = refl;
  user_8 = refl;
  user_12 = refl;
  user_13 = refl;
  user_15 = refl;
  kernel_fetch_outside_ram = refl;
  user_fetch_outside_ram = refl;
  device_loads = refl;
  device_loads_of_another_width = refl;
  loads_of_no_device = refl;
  load_of_an_unreadable_entry = refl;
  protected_store = refl;
  device_stores = refl;
  device_stores_of_another_width = refl;
  stores_to_no_device = refl;
  fetch_at_the_entry = refl;
  fetch_at_the_entry_outside_ram = refl;
  fault_at_the_entry = refl;
  implicit_at_the_entry = refl;
  fetch_elsewhere = refl;
  fault_elsewhere = refl;
  call_inside = refl;
  interrupt_inside = refl;
}
