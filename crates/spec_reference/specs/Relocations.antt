-- The relocated fields of a module's text: clearing them, and which value each has to have.
-- RISC-V ELF psABI, "Relocations".
use Rattle.std.specs.Prelude.{ℕ, ◌+◌, ◌-◌, ◌*◌, ◌%◌, ◌^◌, Bool, true, false, ◌&&◌, List, fold, ◌==◌, if◌then◌else◌, bit_and, slice_get}
use Rattle.std.specs.Prelude.{Option, Some, None, ℤ, pos, negsuc, int_le}
use Rattle.sv_types.specs.Policies.{site_size}
use Rattle.std.specs.List.{list_all}
use Rattle.std.specs.Int.{w64, cast_unsigned}
use Rattle.spec_processor.specs.Bits.{without}
use Rattle.spec_processor.specs.Bytes.{word, write_word}
use Rattle.spec_processor.specs.Effects.{plus, minus, signed_word}
use Rattle.spec_processor.specs.Instructions.{bits}
use Rattle.sv_types.specs.Limits.{text_base, data_base, no_base, first_export_base}
use Rattle.sv_types.specs.declared.module.Site.{Site}
use Rattle.sv_types.specs.declared.module.Bases.{Bases}
use Rattle.sv_types.specs.declared.policy.Export.{Export}
use Rattle.sv_types.specs.declared.relocation_kind.RelocationKind.{RelocationKind}
use Rattle.sv_types.specs.declared.relocation_kind.RelocationKind.TheVariants.{Word64, Branch, Jal, PcrelHi20, PcrelLo12I, PcrelLo12S, Hi20, Lo12I, Lo12S}

-- where in an instruction a value stands: 8 bytes of data, or the immediate of an instruction format
pub data Field : Type 0 where
  DoubleWord BField JField UField IField SField : Field

abbrev pub field_of : RelocationKind → Field
field_of Word64 = DoubleWord
field_of Branch = BField
field_of Jal = JField
field_of PcrelHi20 = UField
field_of PcrelLo12I = IField
field_of PcrelLo12S = SField
field_of Hi20 = UField
field_of Lo12I = IField
field_of Lo12S = SField

-- the bits of an instruction that the field takes
abbrev pub field_bits : Field → ℕ
field_bits DoubleWord = 2 ^ 64 - 1
field_bits BField = 0xFE000F80
field_bits JField = 0xFFFFF000
field_bits UField = 0xFFFFF000
field_bits IField = 0xFFF00000
field_bits SField = 0xFE000F80

-- a value as it stands in the field
abbrev pub in_field : Field → ℕ → ℕ
in_field DoubleWord v = v
in_field BField v = 2 ^ 7 * bits v 11 12 + 2 ^ 8 * bits v 1 5 + 2 ^ 25 * bits v 5 11 + 2 ^ 31 * bits v 12 13
in_field JField v = 2 ^ 12 * bits v 12 20 + 2 ^ 20 * bits v 11 12 + 2 ^ 21 * bits v 1 11 + 2 ^ 31 * bits v 20 21
in_field UField v = 2 ^ 12 * bits (v + 0x800) 12 32
in_field IField v = 2 ^ 20 * bits v 0 12
in_field SField v = 2 ^ 7 * bits v 0 5 + 2 ^ 25 * bits v 5 12

-- v, read as a signed number, is from low to high
abbrev pub from_to : ℤ → ℤ → ℕ → Bool
from_to low high v = int_le low (signed_word v) && int_le (signed_word v) high

-- 32 signed bits, less what the upper part of two is rounded by: from -2^31 - 2^11 to 2^31 - 2^11 - 1. `negsuc n` is -n - 1
abbrev pub fits_in_parts : ℕ → Bool
fits_in_parts v = from_to (negsuc 2147485695) (pos 2147481599) v

-- a branch has 13 signed bits, from -2^12 to 2^12 - 2, and a jump 21, from -2^20 to 2^20 - 2: they are even
abbrev pub value_fits : Field → ℕ → Bool
value_fits DoubleWord v = true
value_fits BField v = from_to (negsuc 4095) (pos 4094) v && v % 2 == 0
value_fits JField v = from_to (negsuc 1048575) (pos 1048574) v && v % 2 == 0
value_fits UField v = fits_in_parts v
value_fits IField v = fits_in_parts v
value_fits SField v = fits_in_parts v

-- ---- clearing

-- the bytes of a site's field
abbrev pub width_of : Site → ℕ
width_of site = site_size site.kind

abbrev pub field_word : List ℕ → Site → ℕ
field_word text site = word text site.offset (width_of site)

-- the same with the field's bits cleared
abbrev pub cleared_value : List ℕ → Site → ℕ
cleared_value text site = without (field_word text site) (field_bits (field_of site.kind))

unfoldable pub clear_field : List ℕ → Site → List ℕ
clear_field text site = write_word text site.offset (width_of site) (cleared_value text site)

-- a module's text with each field cleared
unfoldable pub masked_text : List ℕ → List Site → List ℕ
masked_text text sites = fold clear_field text sites

-- ---- the value

abbrev pub export_addr : Option Export → ℕ
export_addr None = 0
export_addr (Some e) = e.addr

-- the address that a symbol's base stands for
abbrev pub symbol_base : List Export → Bases → ℕ → ℕ
symbol_base exports bases base =
    if base == text_base then bases.va
    else if base == data_base then bases.data_va
    else if base == no_base then 0
    else export_addr (slice_get exports (base - first_export_base))

-- S + A for these, S + A - P for the others
abbrev pub is_absolute : RelocationKind → Bool
is_absolute Word64 = true
is_absolute Hi20 = true
is_absolute Lo12I = true
is_absolute Lo12S = true
is_absolute _ = false

unfoldable pub site_value : List Export → Bases → Site → ℕ
site_value exports bases site =
    if is_absolute site.kind
    then plus (symbol_base exports bases site.base) (cast_unsigned w64 site.addend)
    else minus (plus (symbol_base exports bases site.base) (cast_unsigned w64 site.addend)) (plus bases.va site.anchor)

-- the field has the value's bits, and the value fits
unfoldable pub field_right : List Export → Bases → List ℕ → Site → Bool
field_right exports bases text site =
    bit_and (field_word text site) (field_bits (field_of site.kind)) == in_field (field_of site.kind) (site_value exports bases site)
    && value_fits (field_of site.kind) (site_value exports bases site)

-- each field is the one for these bases
unfoldable pub fields_right : List Export → Bases → List Site → List ℕ → Bool
fields_right exports bases sites text = list_all (field_right exports bases text) sites
