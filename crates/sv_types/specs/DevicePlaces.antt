-- Where the devices' registers lie, as guest-physical addresses: the console's, and after them those of the disk's device.
-- This project's own.
use Rattle.std.specs.Prelude.{ℕ, ◌+◌}

-- the bytes that each device's registers have
abbrev pub device_size : ℕ
device_size = 0x1000

abbrev pub console_base : ℕ
console_base = 0x10000000

abbrev pub disk_base : ℕ
disk_base = console_base + device_size
