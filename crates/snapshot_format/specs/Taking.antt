-- Whether pages could be taken. This project's own.
use Rattle.std.specs.Prelude.{◌≡◌, ℕ, List, filter, Bool, true, false, not, Option, Some, None}
use Rattle.sv_types.specs.Policies.{Rules}
use Rattle.sv_types.specs.declared.protection.Protection.{Protection}
use Rattle.sv_types.specs.declared.protection.Protection.TheVariants.{Approved}
use Rattle.snapshot_format.specs.Snapshots.{Contents}
use Rattle.snapshot_format.specs.declared.whole.TextPage.{TextPage}
use Rattle.snapshot_format.specs.Judgements.{approved_of, is_retired, load_pages, page_numbers, take_pages, then_held}

-- all pages are taken, and these are the protections then; or one of them wasn't free
abbrev pub IsTaken : Option (List Protection) → (new : List Protection) → (done : Bool) → Type 0
IsTaken due new true = due ≡ Some new
IsTaken due new false = due ≡ None

-- pages that are taken one after the other
abbrev pub Takes : Protection → (old new : List Protection) → List ℕ → (done : Bool) → Type 0
Takes protection old new pages done = IsTaken (take_pages protection old pages) new done

-- the protections after all parties of a snapshot
abbrev pub taken_from : List Protection → Rules → Contents → Option (List Protection)
taken_from guard rules s = then_held (take_pages Approved guard (approved_of rules s)) (load_pages rules s.loading)

-- the pages of some text but for the retired ones
abbrev pub left_of : Rules → (retired : Bool) → List TextPage → List ℕ
left_of rules retired text = filter (λ page. not (is_retired rules retired page)) (page_numbers text)
