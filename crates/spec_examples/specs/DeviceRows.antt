-- Registers of the devices, and beats, a row for each line. This project's own.
use Rattle.std.specs.Prelude.{◌≡◌, ℕ, List, [], ◌∷◌, ◌++◌, replicate, Option, Some, None, ◌*◌, ◌-◌, ◌^◌, true, false}
use Rattle.sv_types.specs.Clock.{clock_at_boot}
use Rattle.sv_types.specs.declared.event.Event.TheVariants.{Beat, Key, Tick}
use Rattle.sv_types.specs.declared.event.Note.TheVariants.{Denied}
use Rattle.sv_types.specs.BlockNumbers.{status_number}
use Rattle.sv_types.specs.declared.block.BlockCommand.{BlockCommand}
use Rattle.sv_types.specs.declared.block.BlockCommand.TheVariants.{DiskToMemory, MemoryToDisk}
use Rattle.sv_types.specs.declared.block.BlockState.{BlockState}
use Rattle.sv_types.specs.declared.block.BlockStatus.{BlockStatus}
use Rattle.spec_processor.specs.Bytes.{part}
use Rattle.spec_reference.specs.States.{State, Devices, Disk, BlockDisk, VirtioDisk, with_hart}
use Rattle.spec_reference.specs.Devices.{DeviceLoad, device_load, device_store, external_line}
use Rattle.spec_reference.specs.Disk.{disk_bytes, disk_load, disk_store}
use Rattle.spec_reference.specs.Run.{step, run}
use Rattle.spec_reference.specs.Start.{block_at_boot}
use Rattle.spec_examples.specs.Guests.{small, hart_of}

-- a disk of two sectors, and its registers
abbrev pub disk_with : BlockState → Disk
disk_with block = BlockDisk (record { block = block; bytes = replicate 512 7 ++ replicate 512 8 })

abbrev pub set_up : (sector gpa count : ℕ) → BlockState
set_up sector gpa count = record block_at_boot { sector = sector; gpa = gpa; count = count }

abbrev pub devices_with : List ℕ → BlockState → Devices
devices_with console block = record { console = console; disk = disk_with block; clock = clock_at_boot }

abbrev pub value_of : Option DeviceLoad → Option ℕ
value_of None = None
value_of (Some load) = Some load.value

abbrev pub input_after : Option DeviceLoad → List ℕ
input_after None = []
input_after (Some load) = load.devices.console

-- the block device's registers
abbrev pub block_of : Disk → BlockState
block_of (BlockDisk d) = d.block
block_of (VirtioDisk d) = block_at_boot

abbrev pub block_after : Option Disk → BlockState
block_after None = block_at_boot
block_after (Some disk) = block_of disk

-- what the device is after a command, and how it stands then
abbrev pub block_after_command : BlockState → (command : ℕ) → BlockState
block_after_command block command = block_after (disk_store (disk_with block) 0x14 4 command)

abbrev pub status_after : BlockState → (command : ℕ) → ℕ
status_after block command = status_number (block_after_command block command).status

abbrev pub busy_with : (command : BlockCommand) → (gpa done : ℕ) → BlockState
busy_with command gpa done = record (set_up 0 gpa 1) { status = BlockStatus.Busy command done }

abbrev pub with_denied : BlockState → BlockState
with_denied block = record block { status = BlockStatus.Denied }

abbrev pub machine_with : BlockState → State
machine_with block = record (small 0 0x01020304) { devices = devices_with [] block }

abbrev pub state_after_beat : BlockState → State
state_after_beat block = step (machine_with block) Beat

-- the status after a beat
abbrev pub status_dma_step : (command : BlockCommand) → (gpa done : ℕ) → ℕ
status_dma_step command gpa done = status_number (block_of (state_after_beat (busy_with command gpa done)).devices.disk).status

abbrev pub input : List ℕ
input = 65 ∷ 66 ∷ []

pub record DeviceRows : Type 0 where
  -- ---- the console
  pub input_byte : value_of (device_load (devices_with input block_at_boot) 0x10000000 1) ≡ Some 65
  pub input_is_taken : input_after (device_load (devices_with input block_at_boot) 0x10000000 1) ≡ 66 ∷ []
  pub no_input : value_of (device_load (devices_with [] block_at_boot) 0x10000000 1) ≡ Some 0
  pub status_with_input : value_of (device_load (devices_with input block_at_boot) 0x10000005 1) ≡ Some 0x61
  pub status_without : value_of (device_load (devices_with [] block_at_boot) 0x10000005 1) ≡ Some 0x60
  pub console_of_two_bytes : value_of (device_load (devices_with input block_at_boot) 0x10000000 2) ≡ None
  pub console_elsewhere : value_of (device_load (devices_with input block_at_boot) 0x10000001 1) ≡ None
  pub store_to_the_status : device_store (devices_with [] block_at_boot) (small 0 0).journal 0x10000005 1 65 ≡ None
  -- ---- the block device's registers
  pub sector : disk_load (disk_with (set_up 3 0x80001040 2)) 0 8 ≡ Some 3
  pub address : disk_load (disk_with (set_up 3 0x80001040 2)) 8 8 ≡ Some 0x80001040
  pub count : disk_load (disk_with (set_up 3 0x80001040 2)) 0x10 4 ≡ Some 2
  pub command_reads_zero : disk_load (disk_with (busy_with DiskToMemory 0 0)) 0x14 4 ≡ Some 0
  pub status : disk_load (disk_with (busy_with DiskToMemory 0 0)) 0x18 4 ≡ Some 1
  pub no_register : disk_load (disk_with block_at_boot) 0x1C 4 ≡ None
  pub another_width : disk_load (disk_with block_at_boot) 0 4 ≡ None
  pub sector_stored : (block_after (disk_store (disk_with block_at_boot) 0 8 5)).sector ≡ 5
  pub low_bytes_alone : (block_after (disk_store (disk_with block_at_boot) 0x10 4 (2 ^ 32 * 9 - 1))).count ≡ 2 ^ 32 - 1
  pub store_while_busy : block_after (disk_store (disk_with (busy_with DiskToMemory 0x80001000 0)) 0 8 5) ≡ busy_with DiskToMemory 0x80001000 0
  pub status_cleared : (block_after (disk_store (disk_with (with_denied block_at_boot)) 0x18 4 9)).status ≡ BlockStatus.Idle
  -- ---- commands
  pub reads_the_disk : block_after_command (set_up 0 0x80001000 2) 1 ≡ record (set_up 0 0x80001000 2) { status = BlockStatus.Busy DiskToMemory 0 }
  pub writes_the_disk : block_after_command (set_up 0 0x80001000 2) 2 ≡ record (set_up 0 0x80001000 2) { status = BlockStatus.Busy MemoryToDisk 0 }
  pub unknown_command : status_after (set_up 0 0x80001000 1) 3 ≡ 0
  pub no_sectors : status_after (set_up 0 0x80001000 0) 1 ≡ 4
  pub past_the_disk : status_after (set_up 1 0x80001000 2) 1 ≡ 4
  pub crooked_address : status_after (set_up 0 0x80001020 1) 1 ≡ 4
  pub address_of_one_beat : status_after (set_up 0 0x80001040 1) 1 ≡ 1
  pub command_after_a_denial : status_after (with_denied (set_up 0 0x80001000 1)) 1 ≡ 1
  -- ---- the lines
  pub line_of_input : external_line (devices_with input block_at_boot) 0 ≡ true
  pub line_of_an_end : external_line (devices_with [] (record block_at_boot { status = BlockStatus.Done })) 0 ≡ true
  pub no_line_while_busy : external_line (devices_with [] (busy_with DiskToMemory 0 0)) 0 ≡ false
  pub line_of_hart_zero_alone : external_line (devices_with input block_at_boot) 1 ≡ false
  -- ---- beats
  pub idle_beat : (state_after_beat block_at_boot).ram ≡ (machine_with block_at_boot).ram
  pub idle_beat_counts : (state_after_beat block_at_boot).journal.counts.beats ≡ 1
  pub beat_writes : part (state_after_beat (busy_with DiskToMemory 0x80002000 1)).ram 0x2040 65 ≡ replicate 64 7 ++ (0 ∷ [])
  pub beat_goes_on : block_of (state_after_beat (busy_with DiskToMemory 0x80002000 1)).devices.disk ≡ busy_with DiskToMemory 0x80002000 2
  pub last_beat : status_dma_step DiskToMemory 0x80002000 7 ≡ 2
  pub beat_reads : part (disk_bytes (state_after_beat (busy_with MemoryToDisk 0x80001000 0)).devices.disk) 0 5 ≡ 4 ∷ 3 ∷ 2 ∷ 1 ∷ 0 ∷ []
  pub beat_into_a_protected_page : (state_after_beat (busy_with DiskToMemory 0x80000000 0)).journal.notes ≡ Denied 0x80000000 ∷ []
  pub denied_moves_nothing : (state_after_beat (busy_with DiskToMemory 0x80000000 0)).ram ≡ (machine_with block_at_boot).ram
  pub denied_status : status_dma_step DiskToMemory 0x80000000 0 ≡ 3
  pub reads_protected_pages : status_dma_step MemoryToDisk 0x80000000 0 ≡ 1
  pub beat_outside_ram : status_dma_step DiskToMemory 0x90000000 0 ≡ 4
  pub beat_takes_a_reservation :
      (hart_of
      (step (with_hart (machine_with (busy_with DiskToMemory 0x80002000 1)) 1 (record (hart_of (small 0 0) 1) { reservation = Some 0x2040 })) Beat)
      1).reservation ≡ None
  -- ---- keys and time
  pub key : (step (small 0 0) (Key 65)).devices.console ≡ 65 ∷ []
  pub key_dropped : (step (record (small 0 0) { devices = devices_with (replicate 256 1) block_at_boot }) (Key 65)).journal.counts.dropped ≡ 1
  pub ticks : (run (small 0 0) (Tick 5 ∷ Tick 7 ∷ [])).devices.clock.time ≡ 12
  pub time_stands_still : (run (small 0 0) (Tick (2 ^ 64 - 1) ∷ Tick 1 ∷ [])).devices.clock.time ≡ 2 ^ 64 - 1
