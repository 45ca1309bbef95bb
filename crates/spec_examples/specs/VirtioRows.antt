-- Registers of the virtio block device, and beats of requests, a row for each line. This project's own.
use Rattle.std.specs.Prelude.{◌≡◌, ℕ, List, [], ◌∷◌, ◌++◌, replicate, length, Option, None, Some, true, false}
use Rattle.spec_processor.specs.Bytes.{low_bytes, overwrite, with_padding, part, word}
use Rattle.sv_types.specs.Clock.{clock_at_boot}
use Rattle.sv_types.specs.declared.event.Event.TheVariants.{Beat}
use Rattle.sv_types.specs.declared.event.Note.TheVariants.{Denied}
use Rattle.spec_reference.specs.Devices.{external_line}
use Rattle.spec_reference.specs.Disk.{disk_bytes, disk_load, disk_store}
use Rattle.spec_reference.specs.Run.{run}
use Rattle.spec_reference.specs.States.{State, Disk, BlockDisk, VirtioDisk}
use Rattle.spec_reference.specs.VirtioDevice.{Request}
use Rattle.spec_reference.specs.VirtioStores.{reset}
use Rattle.spec_examples.specs.Guests.{small}

-- ---- registers

pub record Store : Type 0 where
  pub offset : ℕ
  pub value : ℕ

-- a device with a disk of two sectors
abbrev pub two_sectors : List ℕ
two_sectors = replicate 512 7 ++ replicate 512 8

abbrev pub disk_or : Disk → Option Disk → Disk
disk_or d None = d
disk_or d (Some next) = next

-- the device after stores of 4 bytes
abbrev pub after_stores : Disk → List Store → Disk
after_stores d [] = d
after_stores d (s ∷ stores) = after_stores (disk_or d (disk_store d s.offset 4 s.value)) stores

abbrev pub at_reset : Disk
at_reset = VirtioDisk (reset two_sectors)

-- the driver takes the one feature that is offered, or another one
abbrev pub takes_offered : List Store
takes_offered =
    record { offset = 0x070; value = 3 } ∷ record { offset = 0x024; value = 1 } ∷ record { offset = 0x020; value = 1 }
    ∷ record { offset = 0x070; value = 11 } ∷ []

abbrev pub takes_another : List Store
takes_another = record { offset = 0x020; value = 1 } ∷ takes_offered

-- and then gives the queue its size and places
abbrev pub sets_queue : (size : ℕ) → List Store
sets_queue size =
    record { offset = 0x038; value = size } ∷ record { offset = 0x080; value = 0x80001000 } ∷ record { offset = 0x090; value = 0x80001300 }
    ∷ record { offset = 0x0A0; value = 0x80001400 } ∷ record { offset = 0x044; value = 1 } ∷ record { offset = 0x070; value = 15 } ∷ []

abbrev pub value_at : Disk → ℕ → Option ℕ
value_at d offset = disk_load d offset 4

-- ---- a request

-- a descriptor: address, length, flags, the next one's place
abbrev pub descriptor : (gpa len flags next : ℕ) → List ℕ
descriptor gpa len flags next = low_bytes 8 gpa ++ low_bytes 4 len ++ low_bytes 2 flags ++ low_bytes 2 next

-- RAM with a request for the second sector in its second page: the table, the header, the byte of the result, the available
-- ring; the used ring is empty
abbrev pub queue_ram : (kind gpa flags : ℕ) → List ℕ
queue_ram kind gpa flags = replicate 4096 0 ++ with_padding
    (with_padding (descriptor 0x80001100 16 1 1 ++ descriptor gpa 512 flags 2 ++ descriptor 0x80001200 1 2 0) 256
    ++ with_padding (low_bytes 8 kind ++ low_bytes 8 1) 256
    ++ with_padding (170 ∷ []) 256
    ++ (0 ∷ 0 ∷ 1 ∷ 0 ∷ [])) 4096 ++ replicate 4096 5 ++ replicate 4096 0

abbrev pub machine_with : (kind gpa flags : ℕ) → State
machine_with kind gpa flags = record (small 0 0) {
  ram = queue_ram kind gpa flags;
  devices = record { console = []; disk = after_stores at_reset (takes_offered ++ sets_queue 4); clock = clock_at_boot };
}

abbrev pub after_beats : State → ℕ → State
after_beats r n = run r (replicate n Beat)

-- data is read into the third page or into the first, which is approved, or is written from the third page
abbrev pub after_read_beats : ℕ → State
after_read_beats n = after_beats (machine_with 0 0x80002000 3) n

abbrev pub read_into_text : ℕ → State
read_into_text n = after_beats (machine_with 0 0x80000000 3) n

abbrev pub write : ℕ → State
write n = after_beats (machine_with 1 0x80002000 1) n

-- after the first beat the data's descriptor leads into the fourth page
abbrev pub after_change_beats : ℕ → State
after_change_beats n = after_beats (record (after_read_beats 1) { ram = overwrite (after_read_beats 1).ram 0x1010 (low_bytes 8 0x80003000) }) n

abbrev pub moves_in : Option Request → ℕ
moves_in None = 0
moves_in (Some q) = length q.moves

abbrev pub moves_left : Disk → ℕ
moves_left (BlockDisk d) = 0
moves_left (VirtioDisk d) = moves_in d.request

pub record VirtioRows : Type 0 where
  pub magic : value_at at_reset 0x000 ≡ Some 0x74726976
  pub version : value_at at_reset 0x004 ≡ Some 2
  pub device : value_at at_reset 0x008 ≡ Some 2
  pub capacity : value_at at_reset 0x100 ≡ Some 2
  pub max_places : value_at at_reset 0x034 ≡ Some 64
  pub another_width : disk_load at_reset 0x070 8 ≡ None
  pub no_register : value_at at_reset 0x108 ≡ None
  pub feature_taken : value_at (after_stores at_reset takes_offered) 0x070 ≡ Some 11
  pub feature_refused : value_at (after_stores at_reset takes_another) 0x070 ≡ Some 3
  pub queue_in_use : value_at (after_stores at_reset (takes_offered ++ sets_queue 4)) 0x044 ≡ Some 1
  pub size_refused : value_at (after_stores at_reset (takes_offered ++ sets_queue 3)) 0x044 ≡ Some 0
  pub reset_ends_use : value_at (after_stores at_reset (takes_offered ++ sets_queue 4 ++ record { offset = 0x070; value = 0 } ∷ [])) 0x044 ≡ Some 0

pub record RequestRows : Type 0 where
  pub accepted : moves_left (after_read_beats 1).devices.disk ≡ 12
  pub indirect : value_at (after_beats (machine_with 0 0x80002000 7) 1).devices.disk 0x070 ≡ Some 79
  pub indirect_is_not_accepted : moves_left (after_beats (machine_with 0 0x80002000 7) 1).devices.disk ≡ 0
  pub first_bytes : part (after_read_beats 2).ram 0x2000 65 ≡ replicate 64 8 ++ (5 ∷ [])
  pub data_read : part (after_read_beats 9).ram 0x2000 513 ≡ replicate 512 8 ++ (5 ∷ [])
  pub no_result_yet : word (after_read_beats 9).ram 0x1200 1 ≡ 170
  pub result : word (after_read_beats 10).ram 0x1200 1 ≡ 0

pub record LastRows : Type 0 where
  pub no_index_yet : word (after_read_beats 12).ram 0x1402 2 ≡ 0
  pub no_line_yet : external_line (after_read_beats 12).devices 0 ≡ false
  pub index : word (after_read_beats 13).ram 0x1402 2 ≡ 1
  pub written : word (after_read_beats 13).ram 0x1408 4 ≡ 513
  pub line : external_line (after_read_beats 13).devices 0 ≡ true
  pub disk_written : part (disk_bytes (write 9).devices.disk) 511 513 ≡ 7 ∷ replicate 512 5

pub record AttackRows : Type 0 where
  pub changed_chain : part (after_change_beats 8).ram 0x2000 512 ≡ replicate 512 8
  pub not_where_it_leads : part (after_change_beats 8).ram 0x3000 1 ≡ 0 ∷ []
  pub into_text : part (read_into_text 6).ram 0 4096 ≡ replicate 4096 0
  pub into_text_is_noted : (read_into_text 2).journal.notes ≡ Denied 0x80000000 ∷ []
  pub into_text_fails : word (read_into_text 3).ram 0x1200 1 ≡ 1
  pub into_text_writes_no_data : word (read_into_text 6).ram 0x1408 4 ≡ 1
