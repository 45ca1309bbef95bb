-- Pages that are approved one after the other. This project's own.
use Rattle.std.specs.Prelude.{◌≡◌, ℕ, List, true, Some, is_some}
use Rattle.sv_types.specs.declared.protection.Protection.{Protection}
use Rattle.sv_types.specs.declared.protection.Protection.TheVariants.{Approved}
use Rattle.snapshot_format.specs.Judgements.{take_pages}

-- each is free when its turn comes
abbrev pub CanTake : Protection → List Protection → List ℕ → Type 0
CanTake protection guard pages = is_some (take_pages protection guard pages) ≡ true

abbrev pub CanApprove : List Protection → List ℕ → Type 0
CanApprove guard pages = CanTake Approved guard pages

-- the protections after all of them
abbrev pub Approves : (old new : List Protection) → List ℕ → Type 0
Approves old new pages = take_pages Approved old pages ≡ Some new
