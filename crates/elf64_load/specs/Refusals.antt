-- What refusals say.
use Rattle.std.specs.Prelude.{◌≡◌, ◌≢◌, ℕ, List, Some, None, Result, Ok, Err}
use Rattle.sv_types.specs.Kernel.{first_refusal, header_checks, kernel_refusal}
use Rattle.sv_types.specs.declared.image_fault.ImageFault.{ImageFault}
use Rattle.elf64_load.specs.declared.read.ElfRefusal.{ElfRefusal}
use Rattle.elf64_load.specs.declared.read.ElfRefusal.TheVariants.{Fault, Memory}

-- a fault is the first of the file; out of memory comes only where no check of the header refuses
abbrev pub IsRefusalOf : List ℕ → ℕ → ElfRefusal → Type 0
IsRefusalOf file ram_pages (Fault fault) = kernel_refusal file ram_pages ≡ Some fault
IsRefusalOf file ram_pages Memory = first_refusal (header_checks file) ≡ None

-- a value, or the fault of an image
abbrev pub Judged : Type 0 → Type 0
Judged A = Result A ImageFault

-- what was judged, as it is answered
abbrev pub as_answer : {A : Type 0} → Judged A → Result A ElfRefusal
as_answer (Ok a) = Ok a
as_answer (Err fault) = Err (Fault fault)

-- this is why, unless it is out of memory
abbrev pub Refuses : {A : Type 0} → Judged A → ElfRefusal → Type 0
Refuses judged refusal = refusal ≢ Memory → as_answer judged ≡ Err refusal
