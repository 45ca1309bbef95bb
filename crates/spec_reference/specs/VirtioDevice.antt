-- The virtio block device as plain data: its registers, its queue, the request under way and the disk.
-- Virtual I/O Device (VIRTIO) Version 1.2, "MMIO Device Register Layout", "Split Virtqueues" and "Block Device".
use Rattle.std.specs.Prelude.{ℕ, ◌-◌, ◌^◌, Bool, ◌==◌, bit_and, List, Option}
use Rattle.spec_processor.specs.Bits.{bit}
use Rattle.sv_types.specs.declared.virtio.VirtioMove.{VirtioMove}
use Rattle.sv_types.specs.declared.virtio.VirtioResult.{VirtioResult}

-- the most places of the queue
abbrev pub max_places : ℕ
max_places = 64

-- an index of a ring, and a head, is a number of 16 bits
abbrev pub index_values : ℕ
index_values = 2 ^ 16

-- ---- requests and registers

-- a request that was accepted and whose moves aren't all made
pub record Request : Type 0 where
  -- the moves that are left, the next one first
  pub moves : List VirtioMove
  pub result : VirtioResult
  -- the bytes that its moves wrote into the driver's data, modulo 2^32
  pub written : ℕ

pub record VirtioDevice : Type 0 where
  -- which 32 features are read, and which are written
  pub device_select : ℕ
  pub driver_select : ℕ
  -- the features that the driver took
  pub driver_low : ℕ
  pub driver_high : ℕ
  -- which queue the queue's registers speak of; there is queue 0 alone
  pub queue : ℕ
  -- the queue's size, whether it is in use, and its three parts in guest memory
  pub size : ℕ
  pub ready : Bool
  pub descriptors : ℕ
  pub available : ℕ
  pub used : ℕ
  pub interrupt : ℕ
  pub status : ℕ
  -- how many requests were accepted, modulo `index_values`
  pub accepted : ℕ
  pub request : Option Request
  -- the disk
  pub bytes : List ℕ

-- ---- bits of registers, "Device Status Field" and "MMIO Device Register Layout" (InterruptStatus)

-- a register of 32 bits without the bits of a mask
abbrev pub clear_bits : ℕ → ℕ → ℕ
clear_bits register mask = bit_and register (2 ^ 32 - 1 - mask)

abbrev pub driver_ok_bit : ℕ
driver_ok_bit = 2

abbrev pub needs_reset_bit : ℕ
needs_reset_bit = 6

-- the interrupts: the device used a part of the queue, or its state changed
abbrev pub request_done : ℕ
request_done = 1

abbrev pub state_changed : ℕ
state_changed = 2

-- the driver is ready to drive the device
abbrev pub driver_ok : VirtioDevice → Bool
driver_ok d = bit d.status driver_ok_bit

-- the device needs a reset
abbrev pub is_broken : VirtioDevice → Bool
is_broken d = bit d.status needs_reset_bit

-- the queue's registers speak of the one queue
abbrev pub is_selected : VirtioDevice → Bool
is_selected d = d.queue == 0
