-- Where a hart strays: its pc leads into RAM, in a page that isn't approved.
use Rattle.std.proofs.Common.{◌≡◌, ℕ, List, refl, ap, subst, Bool, true, false}
use Rattle.std.specs.Prelude.{Option, Some, None, if◌then◌else◌, is_some}
use Rattle.sv_types.specs.ApprovedPages.{approved_bytes}
use Rattle.spec_processor.specs.Bytes.{in_ram, page_of, instruction_size}
use Rattle.spec_processor.specs.Translation.{Destination, At, PageFault, Unreadable}
use Rattle.spec_processor.specs.declared.cause.Cause.{Cause}
use Rattle.spec_processor.specs.declared.mode.Mode.{Mode}
use Rattle.spec_processor.specs.declared.mode.Mode.TheVariants.{Kernel, User}
use Rattle.spec_reference.specs.States.{State, Hart}
use Rattle.spec_reference.specs.Turn.{NoWord, Stray, fetched_in, fetched_at, fetch, fetch_of, place_of_pc}
use Rattle.laws_guarantee.specs.Guarantee.{Strays}

stray_in : (q : State) (hart : Hart) (at gpa : ℕ) (mode : Mode) (inside : Bool) (x : Option (List ℕ)) → place_of_pc q hart ≡ At gpa
    → in_ram q.ram gpa instruction_size ≡ inside → approved_bytes q.approved (page_of gpa) ≡ x
    → (if inside then fetched_in q.ram mode gpa x else NoWord Cause.InstrAccess) ≡ Stray at → Strays q hart at
unfolding fetched_in
stray_in q hart at gpa mode false x leads inside found e = absurd (cc)
stray_in q hart at gpa Kernel true (Some bytes) leads inside found e = absurd (cc)
stray_in q hart at gpa User true (Some bytes) leads inside found e = absurd (cc)
stray_in q hart at gpa User true None leads inside found e = absurd (cc)
stray_in q hart at gpa Kernel true None leads inside found e =
    let same : gpa ≡ at = cc in
    subst (Strays q hart) same (record { leads = leads; inside = inside; unapproved = ap (λ (o : Option (List ℕ)). is_some o) found })

stray_at : (q : State) (hart : Hart) (at : ℕ) (d : Destination) → place_of_pc q hart ≡ d → fetched_at q.ram q.approved hart.mode d ≡ Stray at → Strays q hart at
unfolding fetched_at
stray_at q hart at PageFault leads e = absurd (cc)
stray_at q hart at (Unreadable entry) leads e = absurd (cc)
stray_at q hart at (At gpa) leads e =
    stray_in q hart at gpa hart.mode (in_ram q.ram gpa instruction_size) (approved_bytes q.approved (page_of gpa)) leads refl refl e

pub strays : (q : State) (hart : Hart) (at : ℕ) → fetch_of q hart ≡ Stray at → Strays q hart at
unfolding fetch
strays q hart at e = stray_at q hart at (place_of_pc q hart) refl e
