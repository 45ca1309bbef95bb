-- What a debugger is told of a hart. This project's own; registers in the order of GDB's `org.gnu.gdb.riscv.cpu`.
use Rattle.std.specs.Prelude.{ℕ, ◌+◌, ◌-◌, ◌*◌, ◌%◌, ◌^◌, nat_lt, if◌then◌else◌, List, [], ◌∷◌, ◌++◌, flat_map, slice_get, Option, Some, None, codes}
use Rattle.std.specs.Fmt.{decimal}
use Rattle.std.specs.Int.{w64, to_le_bytes}
use Rattle.spec_processor.specs.Bits.{flag}
use Rattle.spec_processor.specs.Registers.{external_bit, timer_bit, uxl}
use Rattle.spec_processor.specs.declared.lines.Lines.{Lines}
use Rattle.spec_processor.specs.declared.mode.Mode.{Mode}
use Rattle.spec_processor.specs.declared.mode.Mode.TheVariants.{Kernel, User}
use Rattle.spec_reference.specs.declared.saved_machine.harts.SavedHart.{SavedHart}
use Rattle.gdb_protocol.specs.Digits.{byte_digits}

-- the answer to what can't be done
abbrev pub error_text : List ℕ
error_text = codes "E01"

-- ---- registers

abbrev pub integer_registers : ℕ
integer_registers = 32

-- the pending interrupts that are wires'
unfoldable pub wired : Lines → ℕ
wired lines = timer_bit * flag lines.timer + external_bit * flag lines.external

-- the registers after the integer ones, as the guest reads them: of the status, UXL reads as 2
unfoldable pub other_registers : SavedHart → Lines → List ℕ
other_registers h lines =
    h.pc ∷ ((h.sstatus + uxl) % 2 ^ 64) ∷ h.sie ∷ h.stvec ∷ h.scounteren ∷ h.sscratch ∷ h.sepc ∷ h.scause ∷ h.stval ∷ h.satp ∷ ((h.sip + wired lines) % 2 ^ 64)
    ∷ lines.time ∷ []

-- eight bytes, the lowest first
unfoldable pub word_text : ℕ → List ℕ
word_text number = byte_digits (to_le_bytes w64 number)

unfoldable pub registers_text : SavedHart → Lines → List ℕ
registers_text h lines = flat_map word_text h.registers ++ flat_map word_text (other_registers h lines)

abbrev pub register_at : SavedHart → Lines → ℕ → Option ℕ
register_at h lines n = if nat_lt n integer_registers then slice_get h.registers n else slice_get (other_registers h lines) (n - integer_registers)

abbrev pub text_or_error : Option ℕ → List ℕ
text_or_error None = error_text
text_or_error (Some number) = word_text number

unfoldable pub register_text : SavedHart → Lines → ℕ → List ℕ
register_text h lines n = text_or_error (register_at h lines n)

-- ---- a text about a hart

abbrev pub entry_words : Option ℕ → List ℕ
entry_words None = []
entry_words (Some i) = codes ", entry " ++ decimal i

abbrev pub mode_words : Mode → Option ℕ → List ℕ
mode_words Kernel entry = codes "kernel mode" ++ entry_words entry
mode_words User entry = codes "user mode"

unfoldable pub hart_words : SavedHart → List ℕ
hart_words h = if h.started then mode_words h.mode h.entry else codes "stopped"
