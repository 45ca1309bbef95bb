-- Objects: relocatable files. ELF-64 Object File Format, "Sections"; RISC-V ELF psABI, "File Header".
use Rattle.std.specs.Prelude.{ℕ, Bool, ◌||◌, List, ◌==◌, if◌then◌else◌, Option, Some, None, Ok, Err}
use Rattle.std.specs.List.{list_all}
use Rattle.sv_types.specs.Kernel.{first_refusal, file_checks}
use Rattle.elf64_load.specs.Sections.{Tables, sections_in_file, sections_of, part_in_file, tables_of}
use Rattle.elf64_load.specs.declared.sections.sections.SectionHeader.{SectionHeader}
use Rattle.sv_types.specs.declared.image_fault.HeaderFault.{HeaderFault}
use Rattle.elf64_reloc.specs.Refusals.{Judged}
use Rattle.elf64_reloc.specs.declared.fault.ObjectFault.{ObjectFault}
use Rattle.sv_types.specs.Elf.{et_rel, sht_null, sht_nobits}

-- a file with its sections, its symbols and their names
pub record Object : Type 0 where
  pub file : List ℕ
  pub sections : List SectionHeader
  pub tables : Tables

-- a section of no kind, or of zeros that don't stand in the file
abbrev pub is_without_bytes : SectionHeader → Bool
is_without_bytes s = s.kind == sht_null || s.kind == sht_nobits

abbrev pub is_good_part : List ℕ → SectionHeader → Bool
is_good_part file s = is_without_bytes s || part_in_file file s

abbrev pub object_with : List ℕ → List SectionHeader → Option Tables → Judged Object
object_with file sections None = Err ObjectFault.NoSymbols
object_with file sections (Some tables) = Ok (record { file = file; sections = sections; tables = tables })

abbrev pub object_of : List ℕ → List SectionHeader → Judged Object
object_of file sections =
    if list_all (is_good_part file) sections then object_with file sections (tables_of file sections) else Err ObjectFault.OutsideFile

abbrev pub object_after : Option HeaderFault → List ℕ → Judged Object
object_after (Some fault) file = Err (ObjectFault.Header fault)
object_after None file = if sections_in_file file then object_of file (sections_of file) else Err ObjectFault.SectionHeaders

-- a relocatable file
unfoldable pub object_judged : List ℕ → Judged Object
object_judged file = object_after (first_refusal (file_checks et_rel file)) file
