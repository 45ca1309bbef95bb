-- Turns in an entry, computed.
use Rattle.std.proofs.Common.{refl}
use Rattle.spec_examples.specs.EntryRows.{EntryRows}
use Rattle.spec_examples.proofs.Computing.{computing}

pub entry_rows : EntryRows
unfolding computing
entry_rows = record {
  enters = refl;
  enters_at = refl;
  trap_of_the_kernel = refl;
  trap_inside = refl;
  word_that_is_bound = refl;
  elsewhere = refl;
  elsewhere_demotes = refl;
  elsewhere_leaves = refl;
  bound_to_a_free_page = refl;
  page_fault = refl;
  mapping_outside_ram = refl;
  same_page = refl;
  same_page_stays = refl;
  other_page = refl;
  other_page_leaves = refl;
  free_page = refl;
  outside_ram = refl;
  other_page_fault = refl;
  other_page_fault_leaves = refl;
  other_mapping_outside_ram = refl;
  returns_to_the_user = refl;
  returns_to_the_kernel = refl;
}
