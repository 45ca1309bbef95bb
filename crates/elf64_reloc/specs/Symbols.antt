-- What a symbol stands for: a base, and a value on top of it. ELF-64 Object File Format, "Symbol Table".
use Rattle.std.specs.Prelude.{ℕ, List, ◌==◌, if◌then◌else◌, nat_le, nat_lt, Option, Some, None, slice_get}
use Rattle.std.specs.List.{position_from}
use Rattle.std.specs.Str.{bytes_eq}
use Rattle.spec_processor.specs.Effects.{plus}
use Rattle.sv_types.specs.declared.policy.Export.{Export}
use Rattle.elf64_load.specs.Sections.{Tables, symbol_count, symbol_at, name_at}
use Rattle.elf64_load.specs.declared.sections.tables.Symbol.{Symbol}
use Rattle.elf64_reloc.specs.declared.layout.PlacedSection.{PlacedSection}
use Rattle.elf64_reloc.specs.declared.layout.Space.{Space}
use Rattle.elf64_reloc.specs.declared.layout.Space.TheVariants.{Text, Data, Elsewhere}
use Rattle.elf64_reloc.specs.declared.symbols.Target.{Target}
use Rattle.sv_types.specs.Elf.{shn_undef, shn_loreserve, shn_abs}
use Rattle.sv_types.specs.Limits.{text_base, data_base, no_base, first_export_base}

-- the base of the first export of a name
abbrev pub export_base : List Export → List ℕ → Option ℕ
export_base exports name = position_from (λ e. bytes_eq e.name name) first_export_base exports

-- what symbols are looked up in: the tables, the sections with their places, and the bases of names
pub record Names : Type 0 where
  pub tables : Tables
  pub placed : List PlacedSection
  pub base_of : List ℕ → Option ℕ

abbrev pub target_at_base : Option ℕ → Option Target
target_at_base None = None
target_at_base (Some base) = Some (record { base = base; value = 0 })

abbrev pub wanted_target : (List ℕ → Option ℕ) → Option (List ℕ) → Option Target
wanted_target base_of None = None
wanted_target base_of (Some name) = target_at_base (base_of name)

abbrev pub space_target : Space → (place value : ℕ) → Option Target
space_target Text place value = Some (record { base = text_base; value = plus value place })
space_target Data place value = Some (record { base = data_base; value = plus value place })
space_target Elsewhere place value = None

abbrev pub section_target : Option PlacedSection → (value : ℕ) → Option Target
section_target None value = None
section_target (Some p) value = space_target p.space p.place value

-- without a section: one that is wanted of the kernel; then an absolute one; the other reserved numbers are none
unfoldable pub target_of : Names → Symbol → Option Target
target_of names s =
    if s.section == shn_undef then wanted_target names.base_of (name_at names.tables.strings s.name)
    else if s.section == shn_abs then Some (record { base = no_base; value = s.value })
    else if nat_le shn_loreserve s.section then None
    else section_target (slice_get names.placed s.section) s.value

-- the target of a symbol by its number
unfoldable pub symbol_target : Names → ℕ → Option Target
symbol_target names i =
    if nat_lt i (symbol_count names.tables.symbols) then target_of names (symbol_at names.tables.symbols i) else None
