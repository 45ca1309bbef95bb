-- The registers and what they read. VIRTIO 1.2, "MMIO Device Register Layout" and "Device configuration layout" of the
-- block device; the vendor's number is this project's own. A register that only the driver writes reads 0.
use Rattle.std.specs.Prelude.{ℕ, ◌/◌, ◌%◌, ◌^◌, Bool, not, ◌&&◌, length, ◌==◌, if◌then◌else◌, Option, Some, None, option_map}
use Rattle.spec_processor.specs.Bits.{flag}
use Rattle.sv_types.specs.SbiCodes.{implementation_number}
use Rattle.spec_reference.specs.BlockDisk.{sector_size}
use Rattle.spec_reference.specs.VirtioDevice.{VirtioDevice, is_selected, max_places}
use Rattle.sv_types.specs.declared.virtio.VirtioRegister.{VirtioRegister}

-- ---- where they lie

unfoldable pub register_named : ℕ → Option VirtioRegister
register_named offset =
    if offset == 0x000 then Some VirtioRegister.MagicValue
    else if offset == 0x004 then Some VirtioRegister.Version
    else if offset == 0x008 then Some VirtioRegister.DeviceId
    else if offset == 0x00C then Some VirtioRegister.VendorId
    else if offset == 0x010 then Some VirtioRegister.DeviceFeatures
    else if offset == 0x014 then Some VirtioRegister.DeviceFeaturesSelect
    else if offset == 0x020 then Some VirtioRegister.DriverFeatures
    else if offset == 0x024 then Some VirtioRegister.DriverFeaturesSelect
    else if offset == 0x030 then Some VirtioRegister.QueueSelect
    else if offset == 0x034 then Some VirtioRegister.QueueSizeMax
    else if offset == 0x038 then Some VirtioRegister.QueueSize
    else if offset == 0x044 then Some VirtioRegister.QueueReady
    else if offset == 0x050 then Some VirtioRegister.QueueNotify
    else if offset == 0x060 then Some VirtioRegister.InterruptStatus
    else if offset == 0x064 then Some VirtioRegister.InterruptAcknowledge
    else if offset == 0x070 then Some VirtioRegister.Status
    else if offset == 0x080 then Some VirtioRegister.DescriptorsLow
    else if offset == 0x084 then Some VirtioRegister.DescriptorsHigh
    else if offset == 0x090 then Some VirtioRegister.AvailableLow
    else if offset == 0x094 then Some VirtioRegister.AvailableHigh
    else if offset == 0x0A0 then Some VirtioRegister.UsedLow
    else if offset == 0x0A4 then Some VirtioRegister.UsedHigh
    else if offset == 0x0FC then Some VirtioRegister.ConfigGeneration
    else if offset == 0x100 then Some VirtioRegister.CapacityLow
    else if offset == 0x104 then Some VirtioRegister.CapacityHigh
    else None

-- each is 4 bytes wide
unfoldable pub register_at : ℕ → ℕ → Option VirtioRegister
register_at offset width = if width == 4 then register_named offset else None

-- ---- what they read

abbrev pub sectors : VirtioDevice → ℕ
sectors d = length d.bytes / sector_size

-- "virt", and the device's number: a block device
abbrev pub magic_value : ℕ
magic_value = 0x74726976

abbrev pub block_device : ℕ
block_device = 2

-- the version of the registers
abbrev pub mmio_version : ℕ
mmio_version = 2

-- the selector of features 32 to 63, and among these the one that is offered, bit 32: a device of version 1
abbrev pub high_features : ℕ
high_features = 1

abbrev pub version_1 : ℕ
version_1 = 1

unfoldable pub register_value : VirtioDevice → VirtioRegister → ℕ
register_value d VirtioRegister.MagicValue = magic_value
register_value d VirtioRegister.Version = mmio_version
register_value d VirtioRegister.DeviceId = block_device
register_value d VirtioRegister.VendorId = implementation_number
register_value d VirtioRegister.DeviceFeatures = if d.device_select == high_features then version_1 else 0
register_value d VirtioRegister.DeviceFeaturesSelect = 0
register_value d VirtioRegister.DriverFeatures = 0
register_value d VirtioRegister.DriverFeaturesSelect = 0
register_value d VirtioRegister.QueueSelect = 0
register_value d VirtioRegister.QueueSizeMax = if is_selected d then max_places else 0
register_value d VirtioRegister.QueueSize = 0
register_value d VirtioRegister.QueueReady = flag (is_selected d && d.ready)
register_value d VirtioRegister.QueueNotify = 0
register_value d VirtioRegister.InterruptStatus = d.interrupt
register_value d VirtioRegister.InterruptAcknowledge = 0
register_value d VirtioRegister.Status = d.status
register_value d VirtioRegister.DescriptorsLow = 0
register_value d VirtioRegister.DescriptorsHigh = 0
register_value d VirtioRegister.AvailableLow = 0
register_value d VirtioRegister.AvailableHigh = 0
register_value d VirtioRegister.UsedLow = 0
register_value d VirtioRegister.UsedHigh = 0
register_value d VirtioRegister.ConfigGeneration = 0
register_value d VirtioRegister.CapacityLow = sectors d % 2 ^ 32
register_value d VirtioRegister.CapacityHigh = sectors d / 2 ^ 32

-- what a load gives; none where no register has that offset and width
unfoldable pub virtio_load : VirtioDevice → ℕ → ℕ → Option ℕ
virtio_load d offset width = option_map (register_value d) (register_at offset width)

-- the interrupt line
unfoldable pub virtio_line : VirtioDevice → Bool
virtio_line d = not (d.interrupt == 0)
