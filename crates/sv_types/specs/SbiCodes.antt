-- The numbers of the codes that calls from kernel mode are answered with. RISC-V SBI, "Binary Encoding" and, for no input,
-- "Console Getchar"; those of modules are this project's own.
use Rattle.std.specs.Prelude.{ℕ, ℤ, pos, negsuc}
use Rattle.std.specs.Int.{w64, cast_unsigned}
use Rattle.sv_types.specs.declared.sbi.SbiCode.{SbiCode}

abbrev pub code_number : SbiCode → ℤ
code_number SbiCode.Success = pos 0
code_number SbiCode.NoInput = negsuc 0
code_number SbiCode.NotSupported = negsuc 1
code_number SbiCode.InvalidParameter = negsuc 2
code_number SbiCode.RefusedByMeasure = negsuc 3
code_number SbiCode.InvalidAddress = negsuc 4
code_number SbiCode.Already = negsuc 5
code_number SbiCode.PendingLoad = negsuc 6

-- as a register holds it
abbrev pub code_word : SbiCode → ℕ
code_word code = cast_unsigned w64 (code_number code)

-- SecVisor's number, as an implementation of the SBI and as a maker of devices: the letters SEC, the first one highest
abbrev pub implementation_number : ℕ
implementation_number = 0x00534543
