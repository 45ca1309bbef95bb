-- What a relocation asks for. RISC-V ELF psABI, "Relocations".
use Rattle.std.specs.Prelude.{ℕ, Bool, true, false, ◌*◌, ◌||◌, ◌==◌, if◌then◌else◌, Option, Some, None, option_map}
use Rattle.spec_processor.specs.Bytes.{instruction_size}
use Rattle.sv_types.specs.Policies.{site_size}
use Rattle.sv_types.specs.RelocationKinds.{kind_of}
use Rattle.sv_types.specs.declared.relocation_kind.RelocationKind.{RelocationKind}
use Rattle.sv_types.specs.declared.relocation_kind.RelocationKind.TheVariants.{PcrelHi20}
use Rattle.elf64_reloc.specs.declared.asked.Asked.{Asked}
use Rattle.elf64_reloc.specs.declared.asked.Asked.TheVariants.{Field, Call}
use Rattle.sv_types.specs.Elf.{r_riscv_call, r_riscv_call_plt}

-- R_RISCV_CALL and R_RISCV_CALL_PLT: the high part of an address by an AUIPC, and its low part by the JALR after it
abbrev pub is_call : ℕ → Bool
is_call number = number == r_riscv_call || number == r_riscv_call_plt

abbrev pub call_size : ℕ
call_size = 2 * instruction_size

-- none, where no module may have the kind
abbrev pub asked_of : ℕ → Option Asked
asked_of number = if is_call number then Some Call else option_map Field (kind_of number)

-- the bytes of the fields
abbrev pub asked_bytes : Asked → ℕ
asked_bytes (Field kind) = site_size kind
asked_bytes Call = call_size

-- the place is a multiple of the field's bytes, and an instruction's address
abbrev pub place_alignment : Option Asked → ℕ
place_alignment (Some (Field kind)) = site_size kind
place_alignment (Some Call) = instruction_size
place_alignment None = instruction_size

abbrev pub is_high_kind : RelocationKind → Bool
is_high_kind PcrelHi20 = true
is_high_kind _ = false

-- an AUIPC with the high part of a relative address stands at the place
abbrev pub is_high : Option Asked → Bool
is_high (Some (Field kind)) = is_high_kind kind
is_high (Some Call) = true
is_high None = false
