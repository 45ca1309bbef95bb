-- What stores into the registers do. VIRTIO 1.2, "MMIO Device Register Layout", "Device Status Field", "Feature Bits".
-- A store to a register that is only read has no effect.
use Rattle.std.specs.Prelude.{ℕ, ◌+◌, ◌*◌, ◌/◌, ◌%◌, ◌^◌, Bool, false, not, ◌&&◌, ◌||◌, bit_or, List, ◌==◌, if◌then◌else◌, Option, None, option_map}
use Rattle.spec_reference.specs.VirtioDevice.{VirtioDevice, clear_bits, is_broken, is_selected, max_places, needs_reset_bit}
use Rattle.spec_reference.specs.VirtioRegisters.{register_at, high_features, version_1}
use Rattle.sv_types.specs.declared.virtio.VirtioRegister.{VirtioRegister}

-- ---- reset

-- every register is 0, the queue is not in use, no request is under way; the disk stays
unfoldable pub reset : List ℕ → VirtioDevice
reset bytes = record {
  device_select = 0;
  driver_select = 0;
  driver_low = 0;
  driver_high = 0;
  queue = 0;
  size = 0;
  ready = false;
  descriptors = 0;
  available = 0;
  used = 0;
  interrupt = 0;
  status = 0;
  accepted = 0;
  request = None;
  bytes = bytes;
}

-- ---- features and status

-- features 0 to 31 by selector 0, and 32 to 63
unfoldable pub with_features : VirtioDevice → ℕ → VirtioDevice
with_features d value =
    if d.driver_select == 0 then record d { driver_low = value }
    else if d.driver_select == high_features then record d { driver_high = value }
    else d

-- the driver took the one feature that is offered
abbrev pub takes_features : VirtioDevice → Bool
takes_features d = d.driver_low == 0 && d.driver_high == version_1

-- FEATURES_OK and DEVICE_NEEDS_RESET of the status
abbrev pub features_ok : ℕ
features_ok = 8

abbrev pub needs_reset : ℕ
needs_reset = 2 ^ needs_reset_bit

-- FEATURES_OK stays where the features fit
abbrev pub judged_status : VirtioDevice → ℕ → ℕ
judged_status d value = if takes_features d then value else clear_bits value features_ok

-- a store leaves DEVICE_NEEDS_RESET as it is
unfoldable pub kept_status : VirtioDevice → ℕ → ℕ
kept_status d value = if is_broken d then bit_or (judged_status d value) needs_reset else clear_bits (judged_status d value) needs_reset

-- a store of 0 is a reset
unfoldable pub with_status : VirtioDevice → ℕ → VirtioDevice
with_status d value = if value == 0 then reset d.bytes else record d { status = kept_status d value }

-- ---- the queue

-- the queue's size and places may be set while it isn't in use
abbrev pub can_set : VirtioDevice → Bool
can_set d = is_selected d && not d.ready

-- a power of two, up to the most places
abbrev pub is_size : ℕ → Bool
is_size size = size == 1 || size == 2 || size == 4 || size == 8 || size == 16 || size == 32 || size == max_places

-- "Split Virtqueues": the alignments of the three parts
abbrev pub descriptors_alignment : ℕ
descriptors_alignment = 16

abbrev pub available_alignment : ℕ
available_alignment = 2

abbrev pub used_alignment : ℕ
used_alignment = 4

abbrev pub is_aligned : VirtioDevice → Bool
is_aligned d =
    d.descriptors % descriptors_alignment == 0 && d.available % available_alignment == 0 && d.used % used_alignment == 0

abbrev pub can_be_used : VirtioDevice → Bool
can_be_used d = is_size d.size && is_aligned d

-- 1 asks that the queue be used, and what is refused changes nothing; any other value ends its use
abbrev pub ready_after : VirtioDevice → ℕ → Bool
ready_after d value = value == 1 && (d.ready || can_be_used d)

unfoldable pub with_ready : VirtioDevice → ℕ → VirtioDevice
with_ready d value = if is_selected d then record d { ready = ready_after d value } else d

unfoldable pub with_size : VirtioDevice → ℕ → VirtioDevice
with_size d value = if can_set d then record d { size = value } else d

unfoldable pub with_descriptors : VirtioDevice → ℕ → VirtioDevice
with_descriptors d address = if can_set d then record d { descriptors = address } else d

unfoldable pub with_available : VirtioDevice → ℕ → VirtioDevice
with_available d address = if can_set d then record d { available = address } else d

unfoldable pub with_used : VirtioDevice → ℕ → VirtioDevice
with_used d address = if can_set d then record d { used = address } else d

-- an address with its lower or its upper 32 bits written
abbrev pub with_low : ℕ → ℕ → ℕ
with_low address value = 2 ^ 32 * (address / 2 ^ 32) + value

abbrev pub with_high : ℕ → ℕ → ℕ
with_high address value = 2 ^ 32 * value + address % 2 ^ 32

-- ---- stores

unfoldable pub put : VirtioDevice → VirtioRegister → ℕ → VirtioDevice
put d VirtioRegister.MagicValue value = d
put d VirtioRegister.Version value = d
put d VirtioRegister.DeviceId value = d
put d VirtioRegister.VendorId value = d
put d VirtioRegister.DeviceFeatures value = d
put d VirtioRegister.DeviceFeaturesSelect value = record d { device_select = value }
put d VirtioRegister.DriverFeatures value = with_features d value
put d VirtioRegister.DriverFeaturesSelect value = record d { driver_select = value }
put d VirtioRegister.QueueSelect value = record d { queue = value }
put d VirtioRegister.QueueSizeMax value = d
put d VirtioRegister.QueueSize value = with_size d value
put d VirtioRegister.QueueReady value = with_ready d value
put d VirtioRegister.QueueNotify value = d
put d VirtioRegister.InterruptStatus value = d
put d VirtioRegister.InterruptAcknowledge value = record d { interrupt = clear_bits d.interrupt value }
put d VirtioRegister.Status value = with_status d value
put d VirtioRegister.DescriptorsLow value = with_descriptors d (with_low d.descriptors value)
put d VirtioRegister.DescriptorsHigh value = with_descriptors d (with_high d.descriptors value)
put d VirtioRegister.AvailableLow value = with_available d (with_low d.available value)
put d VirtioRegister.AvailableHigh value = with_available d (with_high d.available value)
put d VirtioRegister.UsedLow value = with_used d (with_low d.used value)
put d VirtioRegister.UsedHigh value = with_used d (with_high d.used value)
put d VirtioRegister.ConfigGeneration value = d
put d VirtioRegister.CapacityLow value = d
put d VirtioRegister.CapacityHigh value = d

-- the device after a store of the low bytes of a value; none where no register has that offset and width
unfoldable pub virtio_store : VirtioDevice → (offset width value : ℕ) → Option VirtioDevice
virtio_store d offset width value = option_map (λ r. put d r (value % 2 ^ 32)) (register_at offset width)
