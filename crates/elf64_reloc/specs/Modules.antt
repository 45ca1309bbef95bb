-- Modules: which objects are refused and why, which fields their text has, and the text itself.
-- RISC-V ELF psABI, "Relocations"; the limits are this project's own.
use Rattle.std.specs.Prelude.{ℕ, ◌+◌, ◌*◌, ◌/◌, ◌%◌, ◌^◌, Bool, false, ◌&&◌, ◌||◌, List, [], ◌∷◌, ◌++◌, length, map, find, replicate, ◌==◌}
use Rattle.std.specs.Prelude.{if◌then◌else◌, nat_lt, Option, Some, None, Ok, Err}
use Rattle.std.specs.BTreeMap.{insert_entry}
use Rattle.std.specs.BTreeSet.{replace_key}
use Rattle.std.specs.Cmp.Lexicographic.{slice_cmp}
use Rattle.std.specs.List.{list_all}
use Rattle.std.specs.Ordering.{nat_cmp}
use Rattle.spec_processor.specs.Effects.{plus, signed_word}
use Rattle.sv_types.specs.Policies.{is_low_part, field_end, module_pages_within, sites_count_within, sites_within}
use Rattle.sv_types.specs.declared.module.Site.{Site}
use Rattle.sv_types.specs.declared.policy.Export.{Export}
use Rattle.sv_types.specs.declared.relocation_kind.RelocationKind.{RelocationKind}
use Rattle.sv_types.specs.Steps.{◌>>=◌}
use Rattle.elf64_load.specs.Sections.{Tables, section_bytes, symbol_count, symbol_at, name_at}
use Rattle.elf64_load.specs.declared.sections.sections.SectionHeader.{SectionHeader}
use Rattle.elf64_load.specs.declared.sections.tables.Symbol.{Symbol}
use Rattle.elf64_reloc.specs.Asking.{asked_of, asked_bytes, place_alignment, is_high}
use Rattle.elf64_reloc.specs.Layouts.{space_of, is_good_alignment, padding, placed_sections, text_size}
use Rattle.elf64_reloc.specs.Objects.{Object, object_judged}
use Rattle.elf64_reloc.specs.Refusals.{Judged}
use Rattle.elf64_reloc.specs.Relocations.{all_relocations, is_text}
use Rattle.elf64_reloc.specs.Symbols.{Names, symbol_target, export_base}
use Rattle.elf64_reloc.specs.declared.asked.Asked.{Asked}
use Rattle.elf64_reloc.specs.declared.asked.Asked.TheVariants.{Field, Call}
use Rattle.elf64_reloc.specs.declared.fault.ObjectFault.{ObjectFault}
use Rattle.elf64_reloc.specs.declared.relocations.Relocation.{Relocation}
use Rattle.elf64_reloc.specs.declared.sites.Found.{Found}
use Rattle.elf64_reloc.specs.declared.symbols.Target.{Target}
use Rattle.spec_processor.specs.Bytes.{page_size, instruction_size}
use Rattle.sv_types.specs.Elf.{shn_undef}
use Rattle.sv_types.specs.Limits.{max_module_pages, max_module_sites, text_base, no_base}

-- ---- wanted names

-- names in the order of their bytes, each once: a symbol's name joins them, and what is none is refused
abbrev pub name_joined : List (List ℕ) → Option (List ℕ) → Judged (List (List ℕ))
name_joined names None = Err ObjectFault.Name
name_joined names (Some name) = Ok (replace_key (slice_cmp nat_cmp) names name)

-- those of symbols alone that no section of the object defines
unfoldable pub symbol_joined : List ℕ → List (List ℕ) → Symbol → Judged (List (List ℕ))
symbol_joined strings names s = if s.section == shn_undef then name_joined names (name_at strings s.name) else Ok names

-- a relocation without a symbol is passed over
unfoldable pub joined_by : Tables → List (List ℕ) → Relocation → Judged (List (List ℕ))
joined_by tables names r =
    if nat_lt r.symbol (symbol_count tables.symbols) then symbol_joined tables.strings names (symbol_at tables.symbols r.symbol) else Ok names

abbrev pub each_joined : Tables → List (List ℕ) → List Relocation → Judged (List (List ℕ))
each_joined tables names [] = Ok names
each_joined tables names (r ∷ rs) = joined_by tables names r >>= λ joined. each_joined tables joined rs

abbrev pub relocations_of_object : Object → List Relocation
relocations_of_object o = all_relocations o.file (placed_sections o.sections) o.sections

abbrev pub names_of_object : Object → Judged (List (List ℕ))
names_of_object o = each_joined o.tables [] (relocations_of_object o)

unfoldable pub names_judged : List ℕ → Judged (List (List ℕ))
names_judged file = object_judged file >>= names_of_object

-- ---- the fields of one relocation

-- an AUIPC with the high part of an address stands at a place
abbrev pub is_high_at : ℕ → Relocation → Bool
is_high_at place r = is_high (asked_of r.kind) && place == r.place

-- what relocations are judged by: the symbols, and the first high part at a place
pub record Judging : Type 0 where
  pub names : Names
  pub high_at : ℕ → Option Relocation

-- numbers of 32 bits are enough for a text of at most 1,024 pages
abbrev pub site_at : (place : ℕ) → RelocationKind → Target → (addend anchor : ℕ) → Site
site_at place kind t addend anchor = record {
  offset = place % 2 ^ 32;
  kind = kind;
  base = t.base;
  addend = signed_word (plus t.value addend);
  anchor = anchor % 2 ^ 32;
}

abbrev pub one_field : Site → Found
one_field site = record { first = site; second = None }

abbrev pub call_fields : Relocation → Target → Found
call_fields r t = record {
  first = site_at r.place RelocationKind.PcrelHi20 t r.addend r.place;
  second = Some (site_at (plus r.place instruction_size) RelocationKind.PcrelLo12I t r.addend r.place);
}

abbrev pub or_nothing : Option Target → Target
or_nothing None = record { base = no_base; value = 0 }
or_nothing (Some t) = t

-- the low part goes by its high part's symbol, addend and place
abbrev pub low_fields : Judging → Relocation → RelocationKind → Option Relocation → Judged Found
low_fields j r kind None = Err ObjectFault.NoHighPart
low_fields j r kind (Some high) = Ok (one_field (site_at r.place kind (or_nothing (symbol_target j.names high.symbol)) high.addend high.place))

abbrev pub fields_for : Judging → Relocation → Asked → Target → Judged Found
fields_for j r Call t = Ok (call_fields r t)
fields_for j r (Field kind) t =
    if is_low_part kind
    then (if r.addend == 0 && t.base == text_base then low_fields j r kind (j.high_at t.value) else Err ObjectFault.NoHighPart)
    else Ok (one_field (site_at r.place kind t r.addend r.place))

abbrev pub fields_with : Judging → Relocation → Asked → Option Target → Judged Found
fields_with j r asked None = Err ObjectFault.Symbol
fields_with j r asked (Some t) = if nat_lt r.size (r.offset + asked_bytes asked) then Err ObjectFault.OutsideSection else fields_for j r asked t

abbrev pub fields_asked : Judging → Relocation → Option Asked → Judged Found
fields_asked j r None = Err (ObjectFault.Kind r.kind)
fields_asked j r (Some asked) = fields_with j r asked (symbol_target j.names r.symbol)

-- the first fault of a relocation, or its fields
unfoldable pub fields_judged : Judging → Relocation → Judged Found
fields_judged j r =
    if r.place % place_alignment (asked_of r.kind) == 0 then fields_asked j r (asked_of r.kind) else Err ObjectFault.Alignment

-- ---- all fields

abbrev pub second_site : Option Site → List Site
second_site None = []
second_site (Some site) = site ∷ []

abbrev pub found_sites : Found → List Site
found_sites f = f.first ∷ second_site f.second

abbrev pub each_judged : Judging → List Site → List Relocation → Judged (List Site)
each_judged j sites [] = Ok sites
each_judged j sites (r ∷ rs) = fields_judged j r >>= λ f. each_judged j (sites ++ found_sites f) rs

abbrev pub judging_of : Object → List Export → Judging
judging_of o exports = record {
  names = record { tables = o.tables; placed = placed_sections o.sections; base_of = export_base exports };
  high_at = λ place. find (is_high_at place) (relocations_of_object o);
}

-- in the order of their places; of two at one place the later one stays
abbrev pub ordered_from : List (ℕ × Site) → List Site → List (ℕ × Site)
ordered_from entries [] = entries
ordered_from entries (site ∷ sites) = ordered_from (insert_entry nat_cmp entries site.offset site) sites

abbrev pub ordered_sites : List Site → List Site
ordered_sites sites = map (λ e. e.1) (ordered_from [] sites)

-- a field begins in front of the end of the one before it
abbrev pub some_touch : ℕ → List Site → Bool
some_touch end [] = false
some_touch end (site ∷ sites) = nat_lt site.offset end || some_touch (field_end site) sites

abbrev pub fields_overlap : List Site → List Site → Bool
fields_overlap sites ordered = nat_lt (length ordered) (length sites) || some_touch 0 ordered

-- ---- the text

abbrev pub zeros : ℕ → List ℕ
zeros n = replicate n 0

-- the text with a section after it
abbrev pub text_behind : List ℕ → List ℕ → SectionHeader → List ℕ
text_behind file text s =
    if is_text (space_of s) then (text ++ zeros (padding (length text) s.alignment)) ++ section_bytes file s else text

abbrev pub text_from : List ℕ → List ℕ → List SectionHeader → List ℕ
text_from file text [] = text
text_from file text (s ∷ ss) = text_from file (text_behind file text s) ss

-- filled to whole pages
abbrev pub whole_pages : List ℕ → List ℕ
whole_pages text = text ++ zeros (padding (length text) page_size)

unfoldable pub text_of : Object → List ℕ
text_of o = whole_pages (text_from o.file [] o.sections)

-- ---- the whole

pub record Module : Type 0 where
  pub text : List ℕ
  pub sites : List Site

-- the pages of a text
abbrev pub pages_of : List ℕ → ℕ
pages_of text = length text / page_size

-- the limits of a policy with so many exports, for a module by itself
abbrev pub module_fits : (exports : ℕ) → Module → Bool
module_fits exports m =
    module_pages_within (pages_of m.text) && sites_count_within 0 (length m.sites) && sites_within (pages_of m.text) exports m.sites

abbrev pub is_too_large : List SectionHeader → List Site → Bool
is_too_large sections sites = nat_lt max_module_sites (length sites) || nat_lt (page_size * max_module_pages) (text_size sections)

abbrev pub module_with : Object → List Site → Judged Module
module_with o sites =
    if is_too_large o.sections sites then Err ObjectFault.TooLarge
    else if fields_overlap sites (ordered_sites sites) then Err ObjectFault.Overlap
    else if text_size o.sections == 0 then Err ObjectFault.NoText
    else Ok (record { text = text_of o; sites = ordered_sites sites })

abbrev pub sites_of : List Export → Object → Judged (List Site)
sites_of exports o = each_judged (judging_of o exports) [] (relocations_of_object o)

abbrev pub module_of : List Export → Object → Judged Module
module_of exports o = if list_all is_good_alignment o.sections then (sites_of exports o >>= module_with o) else Err ObjectFault.Alignment

unfoldable pub module_judged : List ℕ → List Export → Judged Module
module_judged file exports = object_judged file >>= module_of exports
