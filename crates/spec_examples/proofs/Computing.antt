-- What is unfolded where a row is computed.
use Rattle.std.specs.Fmt.{digits}
use Rattle.spec_processor.specs.Bytes.{word, overwrite}
use Rattle.sv_types.specs.Console.{loaded_register}
use Rattle.spec_processor.specs.Effects.{effect_of, op_value, op_32_value, op_imm_value, op_imm_32_value, branch_taken, load_width}
use Rattle.spec_processor.specs.Effects.{load_signed, store_width, csr_operand, csr_writes, amo_value, amo_word}
use Rattle.spec_processor.specs.Instructions.{instruction_of, rows}
use Rattle.sv_types.specs.Addresses.{address_of}
use Rattle.sv_types.specs.Schedule.{two_fields_events, three_fields_events, line_events, first_events}
use Rattle.spec_reference.specs.Relocations.{site_value, field_right, fields_right}
use Rattle.sv_types.specs.Output.{hexadecimal, address_text, notes_line, events_line, retired_line, denied_line, rule_name, rule_places, stop_head, verdict_line, report_lines}
use Rattle.spec_processor.specs.Registers.{csr_of_number, allowed_csr, guest_access, read_csr, write_csr}
use Rattle.spec_processor.specs.Requests.{loaded_value, csr_value, covers, touches, after_write}
use Rattle.spec_processor.specs.Translation.{well_formed, is_pointer, is_leaf, walk, permits_access, first_stage, entry_in_ram, place}
use Rattle.spec_processor.specs.Traps.{trap_target, trap_cause, status_at_trap, supervisor_at_trap, status_at_return, mode_at_return, supervisor_at_return, deliverable}
use Rattle.spec_reference.specs.States.{protection_by, protection_in, is_protected, find_module, with_module, without_pages, binding_at, place_of_entry}
use Rattle.spec_reference.specs.BlockDisk.{block_register, block_load, block_store, block_line, block_beat}
use Rattle.spec_reference.specs.VirtioRegisters.{register_named, register_at, register_value, virtio_load, virtio_line}
use Rattle.spec_reference.specs.VirtioStores.{reset, with_features, kept_status, with_status, with_ready, with_size, with_descriptors, with_available, with_used, put, virtio_store}
use Rattle.spec_reference.specs.VirtioQueue.{rings_in_ram}
use Rattle.spec_reference.specs.VirtioChain.{descriptor_at, with_rest, chain, is_good_chain}
use Rattle.spec_reference.specs.VirtioRequests.{can_move, result_by, pieces, data_moves}
use Rattle.spec_reference.specs.VirtioBeats.{to_memory, to_disk, put_last, make, accept_request, accept, look, virtio_beat}
use Rattle.spec_reference.specs.Disk.{disk_bytes, disk_load, disk_store, disk_line, disk_beat}
use Rattle.spec_reference.specs.Attacker.{poke_move}
use Rattle.spec_reference.specs.Devices.{port_at, port_load, device_load, port_store, device_store, lines_at, with_bytes, after_move, beat, poke, key, tick}
use Rattle.spec_reference.specs.Trapping.{hart_at_trap, trap_from, hart_at_return, returned_from_trap}
use Rattle.spec_reference.specs.Requests.{source_at, load_source, target_at, store_target, carry_out_device_load, carry_out_load}
use Rattle.spec_reference.specs.Requests.{carry_out_load_reserved, carry_out_device_store, carry_out_store, carry_out_store_conditional}
use Rattle.spec_reference.specs.Requests.{carry_out_amo, carry_out_csr}
use Rattle.spec_reference.specs.Calls.{hart_at, stopped_hart, mask_names, mask_exists, interrupt_harts, base_call, timer_call, ipi_call, fence_call, start_other, hart_call, reset_call, extension_of}
use Rattle.spec_reference.specs.ModuleCalls.{good_address, load_call, unload_call, retire_call, module_call, call_answer_by}
use Rattle.spec_reference.specs.Answers.{with_reply, devices_side_effect, journal_side_effect, pages_side_effect, harts_side_effect, state_after_answer}
use Rattle.spec_reference.specs.Turn.{carry_out_kernel_only, carry_out_ecall, carry_out_sret, carry_out_effect, carry_out_instruction}
use Rattle.spec_reference.specs.Turn.{carry_out_word, fetched_in, fetched_at, fetch, act_on_fetch, leads_into, noted_gpa, fetch_in_entry}
use Rattle.spec_reference.specs.Turn.{bound_entry, act_on_pending, act, turn_of_started, turn_of, turn}
use Rattle.spec_reference.specs.Run.{happen, happen_under, step}
use Rattle.spec_reference.specs.Report.{note_line}
use Rattle.spec_reference.specs.Start.{start, flat_start}

unfoldable values : Unit {0}
unfolding address_of two_fields_events three_fields_events line_events first_events site_value field_right fields_right digits word overwrite loaded_register effect_of op_value op_32_value
values = tt

unfoldable values_2 : Unit {0}
unfolding op_imm_value op_imm_32_value branch_taken load_width load_signed store_width csr_operand csr_writes amo_value amo_word instruction_of rows hexadecimal address_text notes_line
values_2 = tt

unfoldable values_3 : Unit {0}
unfolding events_line retired_line denied_line rule_name rule_places stop_head verdict_line report_lines
values_3 = tt

unfoldable walks : Unit {0}
unfolding csr_of_number allowed_csr guest_access read_csr write_csr loaded_value csr_value covers touches after_write well_formed is_pointer is_leaf walk permits_access first_stage entry_in_ram
walks = tt

unfoldable walks_2 : Unit {0}
unfolding place trap_target trap_cause status_at_trap supervisor_at_trap status_at_return mode_at_return supervisor_at_return deliverable protection_by protection_in is_protected
walks_2 = tt

unfoldable devices : Unit {0}
unfolding find_module with_module without_pages block_register block_load block_store block_line block_beat register_named register_at register_value virtio_load virtio_line reset with_features
devices = tt

unfoldable devices_2 : Unit {0}
unfolding kept_status with_status with_ready with_size with_descriptors with_available with_used put virtio_store rings_in_ram descriptor_at with_rest chain is_good_chain can_move result_by
devices_2 = tt

unfoldable devices_3 : Unit {0}
unfolding pieces data_moves to_memory to_disk put_last make accept_request accept look virtio_beat disk_bytes disk_load disk_store disk_line disk_beat port_at port_load device_load port_store
devices_3 = tt

unfoldable devices_4 : Unit {0}
unfolding device_store lines_at with_bytes after_move beat poke_move poke key tick
devices_4 = tt

unfoldable traps : Unit {0}
unfolding hart_at_trap trap_from hart_at_return returned_from_trap source_at load_source target_at store_target carry_out_device_load carry_out_load carry_out_load_reserved
traps = tt

unfoldable traps_2 : Unit {0}
unfolding carry_out_device_store carry_out_store carry_out_store_conditional carry_out_amo carry_out_csr hart_at stopped_hart mask_names mask_exists interrupt_harts base_call timer_call ipi_call
traps_2 = tt

unfoldable traps_3 : Unit {0}
unfolding fence_call start_other hart_call reset_call
traps_3 = tt

unfoldable calls : Unit {0}
unfolding extension_of call_answer_by with_reply devices_side_effect journal_side_effect pages_side_effect harts_side_effect state_after_answer good_address load_call unload_call retire_call
calls = tt

unfoldable calls_2 : Unit {0}
unfolding module_call carry_out_kernel_only carry_out_ecall carry_out_sret carry_out_effect carry_out_instruction carry_out_word
calls_2 = tt

unfoldable turns : Unit {0}
unfolding fetched_in fetched_at fetch act_on_fetch leads_into noted_gpa fetch_in_entry bound_entry binding_at place_of_entry act_on_pending act turn_of_started turn_of turn happen happen_under
turns = tt

unfoldable turns_2 : Unit {0}
unfolding step note_line start flat_start
turns_2 = tt

unfoldable pub computing : Unit {0}
unfolding values values_2 values_3 walks walks_2 devices devices_2 devices_3 devices_4 traps traps_2 traps_3 calls calls_2 turns turns_2
computing = tt
