-- The addresses of the kernel's functions that modules call. ELF-64 Object File Format, "Symbol Table".
use Rattle.std.specs.Prelude.{ℕ, Bool, false, ◌&&◌, not, ◌==◌, nat_lt, List, [], length, find, if◌then◌else◌, option_map, Option, Some, None, Ok, Err}
use Rattle.std.specs.Str.{bytes_eq}
use Rattle.sv_types.specs.Kernel.{first_refusal, file_checks}
use Rattle.sv_types.specs.declared.image_fault.HeaderFault.{HeaderFault}
use Rattle.sv_types.specs.declared.image_fault.ImageFault.{ImageFault}
use Rattle.sv_types.specs.declared.policy.Export.{Export}
use Rattle.sv_types.specs.Steps.{◌>>=◌}
use Rattle.elf64_load.specs.Judged.{each}
use Rattle.elf64_load.specs.Sections.{Tables, sections_in_file, sections_of, tables_of, symbols_of, name_at}
use Rattle.elf64_load.specs.declared.sections.tables.Symbol.{Symbol}
use Rattle.elf64_load.specs.Refusals.{Judged}
use Rattle.sv_types.specs.Elf.{et_exec, st_bind, stb_global, shn_undef}
use Rattle.sv_types.specs.Limits.{max_exports}

-- its binding is global, and a section defines it
abbrev pub is_defined_global : Symbol → Bool
is_defined_global s = st_bind s.info == stb_global && not (s.section == shn_undef)

abbrev pub is_name_of : List ℕ → Option (List ℕ) → Bool
is_name_of wanted None = false
is_name_of wanted (Some name) = bytes_eq name wanted

-- the symbol defines a name globally
abbrev pub defines : List ℕ → List ℕ → Symbol → Bool
defines strings wanted s = is_defined_global s && is_name_of wanted (name_at strings s.name)

-- the value of the first of some symbols that defines a name
abbrev pub address_among : List ℕ → List Symbol → List ℕ → Option ℕ
address_among strings symbols wanted = option_map (λ s. s.value) (find (defines strings wanted) symbols)

unfoldable pub address_of : Tables → List ℕ → Option ℕ
address_of tables wanted = address_among tables.strings (symbols_of tables.symbols) wanted

abbrev pub export_at : List ℕ → Option ℕ → Judged Export
export_at name None = Err ImageFault.UndefinedName
export_at name (Some addr) = Ok (record { name = name; addr = addr })

abbrev pub export_of : Tables → List ℕ → Judged Export
export_of tables name = export_at name (address_of tables name)

-- not too many of them
abbrev pub if_few : List Export → Judged (List Export)
if_few exports = if nat_lt max_exports (length exports) then Err ImageFault.TooManyNames else Ok exports

abbrev pub exports_in : Option Tables → List (List ℕ) → Judged (List Export)
exports_in None names = Err ImageFault.NoSymbols
exports_in (Some tables) names = each (export_of tables) [] names >>= if_few

-- the symbol table of a kernel
abbrev pub kernel_tables : List ℕ → Option Tables
kernel_tables file = if sections_in_file file then tables_of file (sections_of file) else None

abbrev pub exports_of_file : Option HeaderFault → List ℕ → List (List ℕ) → Judged (List Export)
exports_of_file (Some fault) file names = Err (ImageFault.Header fault)
exports_of_file None file names = exports_in (kernel_tables file) names

-- the header's faults come first
unfoldable pub exports_judged : List ℕ → List (List ℕ) → Judged (List Export)
exports_judged file names = exports_of_file (first_refusal (file_checks et_exec file)) file names
