-- The names of a kernel's addresses, virtual and physical. This project's own.
use Rattle.std.specs.Prelude.{ℕ, ◌+◌, ◌-◌, ◌%◌, ◌^◌, Bool, ◌&&◌, List, [], ◌∷◌, length, if◌then◌else◌, nat_le, nat_lt, Option, Some, None}
use Rattle.std.specs.List.{list_any}
use Rattle.sv_types.specs.Elf.{file_header_size}
use Rattle.sv_types.specs.Kernel.{LoadedSegment}
use Rattle.elf64_load.specs.Sections.{Tables}
use Rattle.elf64_load.specs.Exports.{kernel_tables}
use Rattle.elf64_load.specs.Symbols.{Location, location_of}

-- the file's symbols; a file that is too short has none
abbrev pub symbols_in : List ℕ → Option Tables
symbols_in file = if nat_lt (length file) file_header_size then None else kernel_tables file

-- the file's symbols, and its segments
pub record KernelNames : Type 0 where
  pub tables : Option Tables
  pub segments : List LoadedSegment

abbrev pub names_in : List ℕ → List LoadedSegment → KernelNames
names_in file segments = record { tables = symbols_in file; segments = segments }

-- ---- addresses

-- the segment's memory has a virtual address
abbrev pub has_va : ℕ → LoadedSegment → Bool
has_va va s = nat_le s.va va && nat_lt (va - s.va) s.memory

-- or a physical one
abbrev pub has_gpa : ℕ → LoadedSegment → Bool
has_gpa gpa s = nat_le s.gpa gpa && nat_lt (gpa - s.gpa) s.memory

-- the virtual address of a physical one
abbrev pub va_in : ℕ → LoadedSegment → ℕ
va_in gpa s = (s.va + (gpa - s.gpa)) % 2 ^ 64

abbrev pub va_if : ℕ → LoadedSegment → Option ℕ
va_if gpa s = if has_gpa gpa s then Some (va_in gpa s) else None

-- by the first segment that has it
abbrev pub va_of : List LoadedSegment → ℕ → Option ℕ
va_of [] gpa = None
va_of (s ∷ segments) gpa = if has_gpa gpa s then Some (va_in gpa s) else va_of segments gpa

-- ---- names

abbrev pub by_tables : Option Tables → ℕ → Option Location
by_tables None va = None
by_tables (Some tables) va = location_of tables va

-- an address outside all segments has no name
unfoldable pub name_of_va : KernelNames → ℕ → Option Location
name_of_va k va = if list_any (has_va va) k.segments then by_tables k.tables va else None

abbrev pub name_by_va : KernelNames → Option ℕ → Option Location
name_by_va k None = None
name_by_va k (Some va) = name_of_va k va

-- the name of a physical address is that of its virtual one
unfoldable pub name_of_gpa : KernelNames → ℕ → Option Location
name_of_gpa k gpa = name_by_va k (va_of k.segments gpa)

abbrev pub or_else : Option Location → Option Location → Option Location
or_else None other = other
or_else (Some location) other = Some location

-- a kernel's pc is a physical address until it turns translation on
unfoldable pub name_of_pc : KernelNames → ℕ → Option Location
name_of_pc k pc = or_else (name_of_va k pc) (name_of_gpa k pc)
