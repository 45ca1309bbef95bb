-- Steps of which the first refuses.
use Rattle.std.proofs.Common.{◌≡◌, ap}
use Rattle.std.specs.Prelude.{Ok, Err}
use Rattle.sv_types.specs.Steps.{◌>>=◌}
use Rattle.elf64_reloc.specs.Refusals.{Judged, as_answer}
use Rattle.elf64_reloc.specs.declared.refusal.RelocRefusal.{RelocRefusal}
use Rattle.elf64_reloc.specs.declared.refusal.RelocRefusal.TheVariants.{Fault}

-- why the first step refused is why the two do
pub refused_on : {A B : Type 0} (judged : Judged A) (f : A → Judged B) (e : RelocRefusal) → as_answer judged ≡ Err e → as_answer (judged >>= f) ≡ Err e
refused_on (Ok a) f e is = absurd (cc is)
refused_on (Err fault) f e is =
    let same : Fault fault ≡ e = cc is in ap (λ (x : RelocRefusal). Err x) same
