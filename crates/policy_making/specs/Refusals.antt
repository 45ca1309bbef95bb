-- Why no policy is made: the first fault of the kernel, of an object or of the policy, or out of memory.
use Rattle.std.specs.Prelude.{◌≡◌, ◌≢◌, Result, Ok, Err}
use Rattle.sv_types.specs.declared.image_fault.ImageFault.{ImageFault}
use Rattle.elf64_load.specs.declared.read.ElfRefusal.{ElfRefusal}
use Rattle.elf64_load.specs.declared.read.ElfRefusal.TheVariants as OfElf
use Rattle.elf64_reloc.specs.declared.fault.ObjectFault.{ObjectFault}
use Rattle.elf64_reloc.specs.declared.refusal.RelocRefusal.{RelocRefusal}
use Rattle.elf64_reloc.specs.declared.refusal.RelocRefusal.TheVariants as OfReloc
use Rattle.policy_making.specs.declared.refusal.MakingFault.{MakingFault}
use Rattle.policy_making.specs.declared.refusal.MakingFault.TheVariants.{Image, Module}
use Rattle.policy_making.specs.declared.refusal.MakingRefusal.{MakingRefusal}
use Rattle.policy_making.specs.declared.refusal.MakingRefusal.TheVariants.{Fault, Memory}

-- a value, or the fault for which no policy is made
abbrev pub Judged : Type 0 → Type 0
Judged A = Result A MakingFault

-- what was judged of an image, and of an object
abbrev pub in_image : {A : Type 0} → Result A ImageFault → Judged A
in_image (Ok a) = Ok a
in_image (Err fault) = Err (Image fault)

abbrev pub in_module : {A : Type 0} → Result A ObjectFault → Judged A
in_module (Ok a) = Ok a
in_module (Err fault) = Err (Module fault)

-- a refusal that is passed on
abbrev pub of_image : ElfRefusal → MakingRefusal
of_image (OfElf.Fault fault) = Fault (Image fault)
of_image OfElf.Memory = Memory

abbrev pub of_module : RelocRefusal → MakingRefusal
of_module (OfReloc.Fault fault) = Fault (Module fault)
of_module OfReloc.Memory = Memory

-- what was judged, as it is answered
abbrev pub as_answer : {A : Type 0} → Judged A → Result A MakingRefusal
as_answer (Ok a) = Ok a
as_answer (Err fault) = Err (Fault fault)

-- this is why, unless it is out of memory
abbrev pub Refuses : {A : Type 0} → Judged A → MakingRefusal → Type 0
Refuses judged refusal = refusal ≢ Memory → as_answer judged ≡ Err refusal
