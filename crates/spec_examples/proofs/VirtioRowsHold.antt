-- The virtio block device, computed.
use Rattle.std.proofs.Common.{refl}
use Rattle.spec_examples.specs.VirtioRows.{VirtioRows, RequestRows, LastRows, AttackRows}
use Rattle.spec_examples.proofs.Computing.{computing}

pub virtio_rows : VirtioRows
unfolding computing
virtio_rows = record {
  magic = refl;
  version = refl;
  device = refl;
  capacity = refl;
  max_places = refl;
  another_width = refl;
  no_register = refl;
  feature_taken = refl;
  feature_refused = refl;
  queue_in_use = refl;
  size_refused = refl;
  reset_ends_use = refl;
}

pub request_rows : RequestRows
unfolding computing
request_rows = record {
  accepted = refl;
  indirect = refl;
  indirect_is_not_accepted = refl;
  first_bytes = refl;
  data_read = refl;
  no_result_yet = refl;
  result = refl;
}

pub last_rows : LastRows
unfolding computing
last_rows = record {
  no_index_yet = refl;
  no_line_yet = refl;
  index = refl;
  written = refl;
  line = refl;
  disk_written = refl;
}

pub attack_rows : AttackRows
unfolding computing
attack_rows = record {
  changed_chain = refl;
  not_where_it_leads = refl;
  into_text = refl;
  into_text_is_noted = refl;
  into_text_fails = refl;
  into_text_writes_no_data = refl;
}
