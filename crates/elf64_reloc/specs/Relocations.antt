-- The relocations of an object's text. ELF-64 Object File Format, "Relocations"; RISC-V ELF psABI, "Relocations".
use Rattle.std.specs.Prelude.{ℕ, ◌*◌, ◌+◌, ◌/◌, Bool, true, false, List, [], ◌∷◌, length, flat_map, ◌==◌, if◌then◌else◌, Option, Some, None, slice_get}
use Rattle.spec_processor.specs.Bytes.{word}
use Rattle.spec_processor.specs.Effects.{plus}
use Rattle.sv_types.specs.ApprovedPages.{numbers_from}
use Rattle.elf64_load.specs.Sections.{section_bytes}
use Rattle.elf64_load.specs.declared.sections.sections.SectionHeader.{SectionHeader}
use Rattle.elf64_reloc.specs.declared.layout.PlacedSection.{PlacedSection}
use Rattle.elf64_reloc.specs.declared.layout.Space.{Space}
use Rattle.elf64_reloc.specs.declared.layout.Space.TheVariants.{Text, Data, Elsewhere}
use Rattle.elf64_reloc.specs.declared.relocations.Relocation.{Relocation}
use Rattle.sv_types.specs.Elf.{sht_rela, relocation_size, r_type, r_sym, r_addend, r_riscv_relax}

-- the i-th relocation of a section of relocations, which belongs to a section of text
unfoldable pub relocation_at : PlacedSection → List ℕ → ℕ → Relocation
relocation_at home bytes i = record {
  offset = word bytes (relocation_size * i) 8;
  size = home.size;
  place = plus home.place (word bytes (relocation_size * i) 8);
  kind = word bytes (relocation_size * i + r_type) 4;
  symbol = word bytes (relocation_size * i + r_sym) 4;
  addend = word bytes (relocation_size * i + r_addend) 8;
}

-- R_RISCV_RELAX only allows a linker to shorten the code, and is passed over
abbrev pub unless_relax : Relocation → List Relocation
unless_relax r = if r.kind == r_riscv_relax then [] else r ∷ []

abbrev pub kept_at : PlacedSection → List ℕ → ℕ → List Relocation
kept_at home bytes i = unless_relax (relocation_at home bytes i)

-- n relocations, from one on
abbrev pub relocations_from : PlacedSection → List ℕ → (first n : ℕ) → List Relocation
relocations_from home bytes first n = flat_map (kept_at home bytes) (numbers_from first n)

unfoldable pub relocations_in : PlacedSection → List ℕ → List Relocation
relocations_in home bytes = relocations_from home bytes 0 (length bytes / relocation_size)

abbrev pub is_text : Space → Bool
is_text Text = true
is_text Data = false
is_text Elsewhere = false

abbrev pub relocations_of_home : List ℕ → Option PlacedSection → List Relocation
relocations_of_home bytes None = []
relocations_of_home bytes (Some home) = if is_text home.space then relocations_in home bytes else []

-- a section of relocations holds those of the section that it names
unfoldable pub relocations_of : List ℕ → List PlacedSection → SectionHeader → List Relocation
relocations_of file placed s = if s.kind == sht_rela then relocations_of_home (section_bytes file s) (slice_get placed s.info) else []

-- all relocations of text, in the file's order
abbrev pub all_relocations : List ℕ → List PlacedSection → List SectionHeader → List Relocation
all_relocations file placed sections = flat_map (relocations_of file placed) sections
