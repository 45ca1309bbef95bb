-- Devices, computed.
use Rattle.std.proofs.Common.{refl}
use Rattle.spec_examples.specs.DeviceRows.{DeviceRows}
use Rattle.spec_examples.proofs.Computing.{computing}

pub device_rows : DeviceRows
unfolding computing
device_rows = record {
  input_byte = refl;
  input_is_taken = refl;
  no_input = refl;
  status_with_input = refl;
  status_without = refl;
  console_of_two_bytes = refl;
  console_elsewhere = refl;
  store_to_the_status = refl;
  sector = refl;
  address = refl;
  count = refl;
  command_reads_zero = refl;
  status = refl;
  no_register = refl;
  another_width = refl;
  sector_stored = refl;
  low_bytes_alone = refl;
  store_while_busy = refl;
  status_cleared = refl;
  reads_the_disk = refl;
  writes_the_disk = refl;
  unknown_command = refl;
  no_sectors = refl;
  past_the_disk = refl;
  crooked_address = refl;
  address_of_one_beat = refl;
  command_after_a_denial = refl;
  line_of_input = refl;
  line_of_an_end = refl;
  no_line_while_busy = refl;
  line_of_hart_zero_alone = refl;
  idle_beat = refl;
  idle_beat_counts = refl;
  beat_writes = refl;
  beat_goes_on = refl;
  last_beat = refl;
  beat_reads = refl;
  beat_into_a_protected_page = refl;
  denied_moves_nothing = refl;
  denied_status = refl;
  reads_protected_pages = refl;
  beat_outside_ram = refl;
  beat_takes_a_reservation = refl;
  key = refl;
  key_dropped = refl;
  ticks = refl;
  time_stands_still = refl;
}
