-- The results of a virtio request by their numbers. VIRTIO 1.2, "Device Operation" of the block device.
use Rattle.std.specs.Prelude.{ℕ, Bool, true, false}
use Rattle.sv_types.specs.declared.virtio.VirtioResult.{VirtioResult}
use Rattle.sv_types.specs.declared.virtio.VirtioResult.TheVariants.{Done, Failed, Unsupported}

abbrev pub result_number : VirtioResult → ℕ
result_number Done = 0
result_number Failed = 1
result_number Unsupported = 2

abbrev pub is_done : VirtioResult → Bool
is_done Done = true
is_done Failed = false
is_done Unsupported = false
