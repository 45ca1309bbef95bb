-- Which device a disk is behind. This project's own.
use Rattle.std.specs.Prelude.{◌≡◌, Bool, true, false, List}
use Rattle.sv_types.specs.declared.event.Event.{Event}
use Rattle.spec_reference.specs.Run.{run}
use Rattle.spec_reference.specs.States.{State, Disk, BlockDisk, VirtioDisk}

abbrev pub is_block_disk : Disk → Bool
is_block_disk (BlockDisk d) = true
is_block_disk (VirtioDisk d) = false

-- no event puts it after another
abbrev pub KindLaw : Type 0
KindLaw = (s : State) (events : List Event) → is_block_disk (run s events).devices.disk ≡ is_block_disk s.devices.disk
