-- Modules, computed.
use Rattle.std.proofs.Common.{◌≡◌, refl, [], ◌∷◌, true, false}
use Rattle.sv_types.specs.declared.event.Note.TheVariants.{Denied, Load, Unload}
use Rattle.sv_types.specs.declared.sbi.SbiCode.TheVariants.{Success, InvalidParameter, RefusedByMeasure, InvalidAddress, Already, PendingLoad}
use Rattle.sha2.specs.Sha256.{sha256, first_words, schedule, rounds, compress, hash_after, digest_bytes}
use Rattle.sv_types.specs.Measure.{measure}
use Rattle.spec_reference.specs.Loads.{is_good_load, is_as_measured, decide, load_step_of}
use Rattle.spec_reference.specs.Relocations.{masked_text, fields_right, field_right, clear_field, site_value}
use Rattle.spec_hardware.specs.HwExits.{load_counted, page_counted, page_sites}
use Rattle.spec_hardware.specs.Machine.{HwLoad}
use Rattle.spec_examples.specs.CallRows.{answer, error_answer}
use Rattle.spec_examples.specs.ModuleRows.{ModuleRows, loaded_at, turned_at, cleared_digest, all_calls, beat_after_a_page, beat_before_the_call}
use Rattle.spec_examples.proofs.Computing.{computing}

unfoldable decided : Unit {0}
unfolding load_step_of decide is_good_load is_as_measured masked_text fields_right field_right clear_field site_value
decided = tt

unfoldable measured : Unit {0}
unfolding measure sha256 first_words schedule rounds compress hash_after digest_bytes
measured = tt

its_calls_noted : all_calls.journal.notes ≡
    Load 1 2 1 PendingLoad ∷ Load 0 5 0 Success ∷ Load 0 6 0 Already ∷ Load 0 7 1 InvalidAddress ∷ Load 0 8 1 InvalidAddress ∷ Load 0 9 2 InvalidParameter ∷ Unload 0 10 1
    InvalidParameter ∷ Unload 0 11 0 Success ∷ []
unfolding computing decided measured
its_calls_noted = refl

its_held_pages_are_not_written : beat_after_a_page.journal.notes ≡ Denied 0x80005000 ∷ []
unfolding computing decided measured
its_held_pages_are_not_written = refl

its_bytes_written_before_count : beat_before_the_call.journal.notes ≡ Load 0 4 0 RefusedByMeasure ∷ []
unfolding computing decided measured
its_bytes_written_before_count = refl

its_right_address : (loaded_at 0x80005000).journal.notes ≡ Load 0 3 0 Success ∷ []
unfolding computing decided measured
its_right_address = refl

its_wrong_answer : answer (loaded_at 0x80006000) ≡ error_answer 4
unfolding computing decided measured
its_wrong_answer = refl

turned : HwLoad
turned =
    record { hart = 0; about = record { id = 0; gpa = 0x80005000; va = 0x80008000; data_va = 0 }; left = 0; digests = cleared_digest ∷ []; right = true }

its_right_page : turned_at 0x80005000 ≡ turned
unfolding computing decided measured load_counted page_counted page_sites turned
its_right_page = refl

its_wrong_page : (turned_at 0x80006000).right ≡ false
unfolding computing decided measured load_counted page_counted page_sites
its_wrong_page = refl

pub module_rows : ModuleRows
unfolding computing decided measured turned
module_rows = record {
  right_call = refl;
  wrong_call = refl;
  cleared_call = refl;
  wrong_call_cleared = refl;
  held = refl;
  stays_at_its_call = refl;
  begun_without_a_note = refl;
  takes_no_interrupt = refl;
  crooked_place = refl;
  crooked_address = refl;
  in_kernel_text = refl;
  outside_ram = refl;
  calls_noted = its_calls_noted;
  held_pages_are_not_written = its_held_pages_are_not_written;
  held_page_keeps_its_bytes = refl;
  bytes_written_before_count = its_bytes_written_before_count;
  right_address = its_right_address;
  wrong_address_answered = its_wrong_answer;
  right_page_turned = its_right_page;
  wrong_page_turned = its_wrong_page;
  unload_demotes_who_runs_there = refl;
  unload_while_a_load_is_under_way = refl;
  unload_of_none = refl;
  retire = refl;
  retire_twice = refl;
  nothing_to_retire = refl;
}
