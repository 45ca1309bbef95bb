-- Why an object is refused: its first fault, or out of memory.
use Rattle.std.specs.Prelude.{◌≡◌, ◌≢◌, Result, Ok, Err}
use Rattle.elf64_reloc.specs.declared.fault.ObjectFault.{ObjectFault}
use Rattle.elf64_reloc.specs.declared.refusal.RelocRefusal.{RelocRefusal}
use Rattle.elf64_reloc.specs.declared.refusal.RelocRefusal.TheVariants.{Fault, Memory}

-- a value, or the fault of an object
abbrev pub Judged : Type 0 → Type 0
Judged A = Result A ObjectFault

-- what was judged, as it is answered
abbrev pub as_answer : {A : Type 0} → Judged A → Result A RelocRefusal
as_answer (Ok a) = Ok a
as_answer (Err fault) = Err (Fault fault)

-- this is why, unless it is out of memory
abbrev pub Refuses : {A : Type 0} → Judged A → RelocRefusal → Type 0
Refuses judged refusal = refusal ≢ Memory → as_answer judged ≡ Err refusal
