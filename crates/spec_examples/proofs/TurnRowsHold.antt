-- Turns, computed.
use Rattle.std.proofs.Common.{refl}
use Rattle.spec_examples.specs.TurnRows.{TurnRows}
use Rattle.spec_examples.proofs.Computing.{computing}

pub turn_rows : TurnRows
unfolding computing
turn_rows = record {
  interrupt = refl;
  interrupt_masked = refl;
  fetch_page_fault = refl;
  fetch_outside_ram = refl;
  kernel_fetch_of_a_free_page = refl;
  demoted_hart = refl;
  demoted_stays = refl;
  user_fetch_of_an_approved_page = refl;
  word_of_no_row = refl;
  sets_a_register = refl;
  misaligned_jump = refl;
  misaligned_load = refl;
  load_outside_ram = refl;
  loads_a_word = refl;
  loads_of_protected_pages = refl;
  reserves = refl;
  misaligned_reserve = refl;
  reserve_of_a_device = refl;
  misaligned_store = refl;
  store_outside_ram = refl;
  stores_a_word = refl;
  store_into_a_protected_page = refl;
  store_leaves_the_byte = refl;
  conditional_store = refl;
  conditional_store_writes = refl;
  conditional_store_spends_it = refl;
  conditional_store_elsewhere = refl;
  conditional_store_elsewhere_spends_it = refl;
  conditional_store_elsewhere_writes_nothing = refl;
  conditional_store_to_text_stops = refl;
  misaligned_conditional_store = refl;
  adds_in_memory = refl;
  adds_gives_the_old = refl;
  adds_to_text_stops = refl;
  reads_stvec = refl;
  register_refused_to_user = refl;
  no_such_register = refl;
  call_of_the_user = refl;
  breakpoint = refl;
  return_of_the_user = refl;
  return_of_the_kernel = refl;
  wait_of_the_user = refl;
  wait_of_the_kernel = refl;
  fence_of_translation_of_the_user = refl;
  fence_of_translation_of_the_kernel = refl;
  fence = refl;
  instruction_of_a_hypervisor = refl;
  trap_takes_it = refl;
  return_takes_it = refl;
  demotion_takes_it = refl;
  device_load_takes_it = refl;
  device_load = refl;
  device_store_takes_it = refl;
  device_store = refl;
  load_leaves_it = refl;
  store_elsewhere_leaves_it = refl;
  previous_mode_of_the_kernel = refl;
  previous_mode_of_the_user = refl;
  last_note = refl;
  no_room_for_a_note = refl;
  max_notes_are_kept = refl;
  note_is_counted = refl;
  trap_to_an_address_that_is_no_entry = refl;
}
