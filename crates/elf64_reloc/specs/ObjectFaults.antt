-- The numbers of an object's faults in the line that refuses a module. This project's own.
use Rattle.std.specs.Prelude.{ℕ}
use Rattle.sv_types.specs.ImageFaults.{header_fault_number}
use Rattle.elf64_reloc.specs.declared.fault.ObjectFault.{ObjectFault}
use Rattle.elf64_reloc.specs.declared.fault.ObjectFault.TheVariants.{Header, SectionHeaders, OutsideFile, NoSymbols, Alignment, Kind}
use Rattle.elf64_reloc.specs.declared.fault.ObjectFault.TheVariants.{Symbol, OutsideSection, NoHighPart, TooLarge, Overlap, NoText, Name}

abbrev pub object_fault_number : ObjectFault → ℕ
object_fault_number (Header fault) = header_fault_number fault
object_fault_number SectionHeaders = 8
object_fault_number OutsideFile = 9
object_fault_number NoSymbols = 10
object_fault_number Alignment = 11
object_fault_number (Kind number) = 12
object_fault_number Symbol = 13
object_fault_number OutsideSection = 14
object_fault_number NoHighPart = 15
object_fault_number TooLarge = 16
object_fault_number Overlap = 17
object_fault_number NoText = 18
object_fault_number Name = 19
