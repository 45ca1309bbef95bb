-- The runs of one page, computed.
use Rattle.std.proofs.Common.{refl}
use Rattle.spec_examples.specs.FlatRows.{FlatRows}
use Rattle.spec_examples.proofs.Computing.{computing}

pub flat_rows : FlatRows
unfolding computing
flat_rows = record {
  prints_a_and_shuts_down = refl;
  stray_fetch_demotes = refl;
  entry_is_one_address = refl;
  permitted_entry_is_taken = refl;
  return_into_approved_page = refl;
  conditional_store_into_text = refl;
  console_prints = refl;
  console_status = refl;
  load_of_eight_bytes_traps = refl;
  atomic_on_a_device_traps = refl;
}
