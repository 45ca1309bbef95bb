-- The offsets of the block device's registers, and the numbers of its commands and statuses, as the guest sees them. This project's own.
use Rattle.std.specs.Prelude.{ℕ, List, [], ◌∷◌, ◌==◌, find, Option}
use Rattle.sv_types.specs.declared.block.BlockCommand.{BlockCommand}
use Rattle.sv_types.specs.declared.block.BlockCommand.TheVariants.{DiskToMemory, MemoryToDisk}
use Rattle.sv_types.specs.declared.block.BlockStatus.{BlockStatus}
use Rattle.sv_types.specs.declared.block.BlockStatus.TheVariants.{Idle, Busy, Done, Denied, OutOfRange}

abbrev pub sector_offset : ℕ
sector_offset = 0x00

abbrev pub address_offset : ℕ
address_offset = 0x08

abbrev pub count_offset : ℕ
count_offset = 0x10

abbrev pub command_offset : ℕ
command_offset = 0x14

abbrev pub status_offset : ℕ
status_offset = 0x18

abbrev pub command_number : BlockCommand → ℕ
command_number DiskToMemory = 1
command_number MemoryToDisk = 2

abbrev pub all_commands : List BlockCommand
all_commands = DiskToMemory ∷ MemoryToDisk ∷ []

-- the command of a number
abbrev pub command_of : ℕ → Option BlockCommand
command_of number = find (λ command. command_number command == number) all_commands

abbrev pub status_number : BlockStatus → ℕ
status_number Idle = 0
status_number (Busy command done) = 1
status_number Done = 2
status_number Denied = 3
status_number OutOfRange = 4
