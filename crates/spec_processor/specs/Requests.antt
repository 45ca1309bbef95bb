-- What a request of the effect table comes to, whichever machine carries it out: loaded words, register operations and
-- reservations. Places are numbers of bytes in one memory.
-- RISC-V Unprivileged manual, "Load and Store Instructions", "Load-Reserved/Store-Conditional Instructions", and the
-- extension "Zicsr".
use Rattle.std.specs.Prelude.{◌≡◌, ◌⊎◌, ℕ, ◌+◌, ◌-◌, ◌%◌, ◌<◌, Bool, true, false, ◌&&◌, ◌==◌, if◌then◌else◌, nat_le, nat_lt, min, max}
use Rattle.std.specs.Prelude.{bit_or, Option, Some, None}
use Rattle.std.specs.Int.{Width, w8, w16, w32, w64, cast_signed}
use Rattle.spec_processor.specs.Bits.{without}
use Rattle.spec_processor.specs.Effects.{machine_word}
use Rattle.spec_processor.specs.IntegerRegisters.{register_count}
use Rattle.spec_processor.specs.Regions.{IsWidth}
use Rattle.spec_processor.specs.declared.effect.Effect.{Effect}
use Rattle.spec_processor.specs.declared.instruction.CsrOp.{CsrOp}
use Rattle.spec_processor.specs.declared.instruction.CsrOp.TheVariants.{Csrrw, Csrrs, Csrrc, Csrrwi, Csrrsi, Csrrci}
use Rattle.spec_processor.specs.Bytes.{instruction_size}

-- ---- loaded words

-- the integers of so many bytes
abbrev pub integers_of : ℕ → Width
integers_of width = if width == 1 then w8 else if width == 2 then w16 else if width == 4 then w32 else w64

-- a word of so many bytes as a register takes it, sign-extended or as it is
unfoldable pub loaded_value : Bool → ℕ → ℕ → ℕ
loaded_value true width value = machine_word (cast_signed (integers_of width) value)
loaded_value false width value = value

-- ---- register operations

-- what an operation makes of the old value and its operand: it writes, sets bits or clears them
unfoldable pub csr_value : CsrOp → ℕ → ℕ → ℕ
csr_value Csrrw old operand = operand
csr_value Csrrs old operand = bit_or old operand
csr_value Csrrc old operand = without old operand
csr_value Csrrwi old operand = operand
csr_value Csrrsi old operand = bit_or old operand
csr_value Csrrci old operand = without old operand

-- ---- reservations, each by the first of its bytes

abbrev pub reserved_bytes : ℕ
reserved_bytes = 8

-- the aligned bytes round a place
abbrev pub reserved_at : ℕ → ℕ
reserved_at place = place - place % reserved_bytes

-- all the bytes lie in the reservation
unfoldable pub covers : Option ℕ → ℕ → ℕ → Bool
covers None place width = false
covers (Some reserved) place width = nat_le reserved place && nat_le (place + width) (reserved + reserved_bytes)

-- some of the bytes are of those that are reserved
unfoldable pub touches : ℕ → ℕ → ℕ → Bool
touches reserved place width = nat_lt (max reserved place) (min (reserved + reserved_bytes) (place + width))

-- what a write of these bytes leaves of a reservation
unfoldable pub after_write : ℕ → ℕ → Option ℕ → Option ℕ
after_write place width None = None
after_write place width (Some reserved) = if touches reserved place width then None else Some reserved

-- ---- what an effect asks

-- the register exists, the next pc is a multiple of 4, and the width is one of memory's
abbrev pub IsRequest : Effect → Type 0
IsRequest (Effect.Set rd value next) = (rd < register_count) × (next % instruction_size ≡ 0)
IsRequest (Effect.Load rd address width signed) = (rd < register_count) × IsWidth width
IsRequest (Effect.Store address width value) = IsWidth width
IsRequest (Effect.LoadReserved rd address width) = (rd < register_count) × IsWidth width
IsRequest (Effect.StoreConditional rd address width value) = (rd < register_count) × IsWidth width
IsRequest (Effect.Amo rd address width op value) = (rd < register_count) × (((width ≡ 4) ⊎ (width ≡ 8)) × IsWidth width)
IsRequest (Effect.Csr rd number op operand writes) = rd < register_count
IsRequest _ = Unit {0}

-- it writes so many bytes at an address
abbrev pub WritesBytes : Effect → (address width : ℕ) → Type 0
WritesBytes (Effect.Store at bytes value) address width = (at ≡ address) × (bytes ≡ width)
WritesBytes (Effect.StoreConditional rd at bytes value) address width = (at ≡ address) × (bytes ≡ width)
WritesBytes (Effect.Amo rd at bytes op value) address width = (at ≡ address) × (bytes ≡ width)
WritesBytes _ address width = ⊥
