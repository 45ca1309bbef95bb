-- The numbers of faults in the lines that refuse files. This project's own.
use Rattle.std.specs.Prelude.{ℕ}
use Rattle.sv_types.specs.declared.image_fault.HeaderFault.{HeaderFault}
use Rattle.sv_types.specs.declared.image_fault.HeaderFault.TheVariants.{TooShort, Magic, Class, Version, Machine, Kind, Flags}
use Rattle.sv_types.specs.declared.image_fault.ImageFault.{ImageFault}
use Rattle.sv_types.specs.declared.image_fault.ImageFault.TheVariants.{Header, ProgramHeaders, OutsideFile, OutsideRam, ShortMemory}
use Rattle.sv_types.specs.declared.image_fault.ImageFault.TheVariants.{WritableText, TextInsidePage, SharedText, NoText, NoSymbols}
use Rattle.sv_types.specs.declared.image_fault.ImageFault.TheVariants.{UndefinedName, TooManyNames}

-- of the header of an ELF file
abbrev pub header_fault_number : HeaderFault → ℕ
header_fault_number TooShort = 1
header_fault_number Magic = 2
header_fault_number Class = 3
header_fault_number Version = 4
header_fault_number Machine = 5
header_fault_number Kind = 6
header_fault_number Flags = 7

-- of a kernel's image, and of the exports that are wanted of it
abbrev pub image_fault_number : ImageFault → ℕ
image_fault_number (Header fault) = header_fault_number fault
image_fault_number ProgramHeaders = 8
image_fault_number OutsideFile = 9
image_fault_number OutsideRam = 10
image_fault_number ShortMemory = 11
image_fault_number WritableText = 12
image_fault_number TextInsidePage = 13
image_fault_number SharedText = 14
image_fault_number NoText = 15
image_fault_number NoSymbols = 16
image_fault_number UndefinedName = 17
image_fault_number TooManyNames = 18
