-- Sections, symbols and their names. ELF-64 Object File Format, "Sections", "Symbol Table" and "String Table".
use Rattle.std.specs.Prelude.{ℕ, ◌+◌, ◌*◌, ◌/◌, Bool, ◌&&◌, List, length, take, drop, map, find, ◌==◌, if◌then◌else◌, nat_le, nat_lt}
use Rattle.std.specs.Prelude.{Option, Some, None, slice_get}
use Rattle.std.specs.List.{position_or_len}
use Rattle.std.specs.Str.{is_utf8}
use Rattle.spec_processor.specs.Bytes.{word, part}
use Rattle.sv_types.specs.Policies.{is_between}
use Rattle.sv_types.specs.ApprovedPages.{numbers_from}
use Rattle.elf64_load.specs.declared.sections.sections.SectionHeader.{SectionHeader}
use Rattle.elf64_load.specs.declared.sections.tables.Symbol.{Symbol}
use Rattle.sv_types.specs.Elf.{e_shoff, e_shentsize, e_shnum, section_header_size, sh_type, sh_flags, sh_offset, sh_size, sh_link, sh_info}
use Rattle.sv_types.specs.Elf.{sh_addralign, sh_entsize, sht_symtab, sht_strtab, symbol_size, st_info, st_shndx, st_value}
use Rattle.sv_types.specs.Limits.{max_name_bytes}

-- ---- section headers

-- where they begin, and how many there are
abbrev pub sections_place : List ℕ → ℕ
sections_place file = word file e_shoff 8

abbrev pub sections_count : List ℕ → ℕ
sections_count file = word file e_shnum 2

-- they have their size, and are in the file
abbrev pub sections_in_file : List ℕ → Bool
sections_in_file file = word file e_shentsize 2 == section_header_size && nat_le (sections_place file + section_header_size * sections_count file) (length file)

unfoldable pub section_at : List ℕ → ℕ → SectionHeader
section_at file at = record {
  kind = word file (at + sh_type) 4;
  flags = word file (at + sh_flags) 8;
  offset = word file (at + sh_offset) 8;
  size = word file (at + sh_size) 8;
  link = word file (at + sh_link) 4;
  info = word file (at + sh_info) 4;
  alignment = word file (at + sh_addralign) 8;
  entry_size = word file (at + sh_entsize) 8;
}

unfoldable pub sections_among : List ℕ → ℕ → List SectionHeader
sections_among file n = map (λ i. section_at file (sections_place file + section_header_size * i)) (numbers_from 0 n)

abbrev pub sections_of : List ℕ → List SectionHeader
sections_of file = sections_among file (sections_count file)

-- a section's bytes are in the file
abbrev pub part_in_file : List ℕ → SectionHeader → Bool
part_in_file file s = nat_le (s.offset + s.size) (length file)

-- ---- the symbol table, and the table of its names

pub record Tables : Type 0 where
  pub symbols : List ℕ
  pub strings : List ℕ

-- the symbols have their size, the names are a table of strings, and both are in the file
abbrev pub are_good_tables : List ℕ → SectionHeader → SectionHeader → Bool
are_good_tables file symbols strings =
    symbols.entry_size == symbol_size && part_in_file file symbols && strings.kind == sht_strtab && part_in_file file strings

abbrev pub section_bytes : List ℕ → SectionHeader → List ℕ
section_bytes file s = part file s.offset s.size

abbrev pub tables_between : List ℕ → SectionHeader → SectionHeader → Option Tables
tables_between file symbols strings =
    if are_good_tables file symbols strings
    then Some (record { symbols = section_bytes file symbols; strings = section_bytes file strings })
    else None

abbrev pub tables_with : List ℕ → SectionHeader → Option SectionHeader → Option Tables
tables_with file symbols None = None
tables_with file symbols (Some strings) = tables_between file symbols strings

abbrev pub tables_from : List ℕ → List SectionHeader → Option SectionHeader → Option Tables
tables_from file sections None = None
tables_from file sections (Some symbols) = tables_with file symbols (slice_get sections symbols.link)

-- the first section of symbols holds the symbols, and the section that it names their names
abbrev pub tables_of : List ℕ → List SectionHeader → Option Tables
tables_of file sections = tables_from file sections (find (λ s. s.kind == sht_symtab) sections)

-- ---- symbols

abbrev pub symbol_count : List ℕ → ℕ
symbol_count symbols = length symbols / symbol_size

unfoldable pub symbol_at : List ℕ → ℕ → Symbol
symbol_at symbols i = record {
  name = word symbols (symbol_size * i) 4;
  info = word symbols (symbol_size * i + st_info) 1;
  section = word symbols (symbol_size * i + st_shndx) 2;
  value = word symbols (symbol_size * i + st_value) 8;
}

-- n symbols, from one on
abbrev pub symbols_from : List ℕ → (first n : ℕ) → List Symbol
symbols_from symbols first n = map (symbol_at symbols) (numbers_from first n)

abbrev pub symbols_of : List ℕ → List Symbol
symbols_of symbols = symbols_from symbols 0 (symbol_count symbols)

-- ---- names

-- 1 to 64 bytes of UTF-8 text
abbrev pub is_name : List ℕ → Bool
is_name bytes = is_between 1 max_name_bytes (length bytes) && is_utf8 bytes

-- how many bytes stand in front of the first zero byte
abbrev pub front_length : List ℕ → ℕ
front_length bytes = position_or_len (λ b. b == 0) bytes

-- the bytes in front of the first zero byte, if there is one and they are a name
abbrev pub name_of : List ℕ → Option (List ℕ)
name_of bytes =
    if nat_lt (front_length bytes) (length bytes) && is_name (take (front_length bytes) bytes)
    then Some (take (front_length bytes) bytes)
    else None

-- the name that begins at a place of the table of strings
unfoldable pub name_at : List ℕ → ℕ → Option (List ℕ)
name_at strings at = name_of (drop at strings)
