-- Where the sections of an object lie: text and data, each after the one before it. ELF-64 Object File Format, "Sections".
-- Places are counted modulo 2 ^ 64.
use Rattle.std.specs.Prelude.{ℕ, ◌-◌, ◌%◌, Bool, ◌&&◌, ◌||◌, List, [], ◌∷◌, ◌==◌, if◌then◌else◌, nat_le}
use Rattle.spec_processor.specs.Bits.{bit}
use Rattle.spec_processor.specs.Effects.{plus}
use Rattle.elf64_load.specs.declared.sections.sections.SectionHeader.{SectionHeader}
use Rattle.elf64_reloc.specs.declared.layout.Ends.{Ends}
use Rattle.elf64_reloc.specs.declared.layout.PlacedSection.{PlacedSection}
use Rattle.elf64_reloc.specs.declared.layout.Space.{Space}
use Rattle.elf64_reloc.specs.declared.layout.Space.TheVariants.{Text, Data, Elsewhere}
use Rattle.spec_processor.specs.Bytes.{page_size}
use Rattle.sv_types.specs.Elf.{sht_progbits, shf_alloc_bit, shf_execinstr_bit}

-- a power of two up to the size of a page, that is a number up to it that divides it; 0 stands for 1
abbrev pub is_good_alignment : SectionHeader → Bool
is_good_alignment s = s.alignment == 0 || (nat_le s.alignment page_size && page_size % s.alignment == 0)

-- a section with memory is allocated, and text where it is the program's and executable
abbrev pub space_of : SectionHeader → Space
space_of s = if bit s.flags shf_alloc_bit then (if s.kind == sht_progbits && bit s.flags shf_execinstr_bit then Text else Data) else Elsewhere

-- the bytes up to the next multiple of an alignment
abbrev pub padding : ℕ → ℕ → ℕ
padding end alignment = if alignment == 0 then 0 else (alignment - end % alignment) % alignment

abbrev pub align_up : ℕ → ℕ → ℕ
align_up end alignment = plus end (padding end alignment)

abbrev pub place_after : Ends → Space → SectionHeader → ℕ
place_after ends Text s = align_up ends.text s.alignment
place_after ends Data s = align_up ends.data_end s.alignment
place_after ends Elsewhere s = 0

abbrev pub ends_with : Ends → Space → (end : ℕ) → Ends
ends_with ends Text end = record ends { text = end }
ends_with ends Data end = record ends { data_end = end }
ends_with ends Elsewhere end = ends

-- a section after those before it, and the ends after it
unfoldable pub placed_after : Ends → SectionHeader → PlacedSection
placed_after ends s = record { space = space_of s; place = place_after ends (space_of s) s; size = s.size }

unfoldable pub ends_after : Ends → SectionHeader → Ends
ends_after ends s = ends_with ends (space_of s) (plus (place_after ends (space_of s) s) s.size)

abbrev pub placed_from : Ends → List SectionHeader → List PlacedSection
placed_from ends [] = []
placed_from ends (s ∷ ss) = placed_after ends s ∷ placed_from (ends_after ends s) ss

abbrev pub ends_from : Ends → List SectionHeader → Ends
ends_from ends [] = ends
ends_from ends (s ∷ ss) = ends_from (ends_after ends s) ss

abbrev pub no_ends : Ends
no_ends = record { text = 0; data_end = 0 }

-- each section with its place, and the bytes of the text
abbrev pub placed_sections : List SectionHeader → List PlacedSection
placed_sections = placed_from no_ends

abbrev pub text_size : List SectionHeader → ℕ
text_size sections = (ends_from no_ends sections).text
