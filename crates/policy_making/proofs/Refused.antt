-- Refusals that are passed on.
use Rattle.std.proofs.Common.{◌≡◌, refl, ap}
use Rattle.std.specs.Prelude.{Result, Ok, Err}
use Rattle.sv_types.specs.declared.image_fault.ImageFault.{ImageFault}
use Rattle.elf64_load.specs.declared.read.ElfRefusal.{ElfRefusal}
use Rattle.elf64_load.specs.declared.read.ElfRefusal.TheVariants as OfElf
use Rattle.elf64_load.specs.Refusals as images
use Rattle.elf64_reloc.specs.declared.fault.ObjectFault.{ObjectFault}
use Rattle.elf64_reloc.specs.declared.refusal.RelocRefusal.{RelocRefusal}
use Rattle.elf64_reloc.specs.declared.refusal.RelocRefusal.TheVariants as OfReloc
use Rattle.elf64_reloc.specs.Refusals as objects
use Rattle.sv_types.specs.Steps.{◌>>=◌}
use Rattle.policy_making.specs.Refusals.{Judged, Refuses, as_answer, in_image, in_module, of_image, of_module}
use Rattle.policy_making.specs.declared.refusal.MakingFault.TheVariants.{Image, Module}
use Rattle.policy_making.specs.declared.refusal.MakingRefusal.{MakingRefusal}
use Rattle.policy_making.specs.declared.refusal.MakingRefusal.TheVariants.{Fault}

image_same : {A : Type 0} (judged : Result A ImageFault) (fault : ImageFault) → images.as_answer judged ≡ Err (OfElf.Fault fault) → as_answer (in_image judged) ≡ Err (Fault (Image fault))
image_same (Ok a) fault is = absurd (cc is)
image_same (Err found) fault is =
    let same : found ≡ fault = cc is in ap (λ (f : ImageFault). Err (Fault (Image f))) same

object_same : {A : Type 0} (judged : Result A ObjectFault) (fault : ObjectFault) → objects.as_answer judged ≡ Err (OfReloc.Fault fault) → as_answer (in_module judged) ≡ Err (Fault (Module fault))
object_same (Ok a) fault is = absurd (cc is)
object_same (Err found) fault is =
    let same : found ≡ fault = cc is in ap (λ (f : ObjectFault). Err (Fault (Module f))) same

-- why an image was refused
pub image_refused : {A : Type 0} (judged : Result A ImageFault) (e : ElfRefusal) → images.Refuses judged e → Refuses (in_image judged) (of_image e)
image_refused judged (OfElf.Fault fault) why not_memory = image_same judged fault (why (λ same. cc same))
image_refused judged OfElf.Memory why not_memory = absurd (not_memory refl)

-- why an object was refused
pub object_refused : {A : Type 0} (judged : Result A ObjectFault) (e : RelocRefusal) → objects.Refuses judged e → Refuses (in_module judged) (of_module e)
object_refused judged (OfReloc.Fault fault) why not_memory = object_same judged fault (why (λ same. cc same))
object_refused judged OfReloc.Memory why not_memory = absurd (not_memory refl)

-- why the first step refused is why the two do
pub refused_on : {A B : Type 0} (judged : Judged A) (f : A → Judged B) (e : MakingRefusal) → as_answer judged ≡ Err e → as_answer (judged >>= f) ≡ Err e
refused_on (Ok a) f e is = absurd (cc is)
refused_on (Err fault) f e is =
    let same : Fault fault ≡ e = cc is in ap (λ (x : MakingRefusal). Err x) same
