-- What a saved hart has in a snapshot that can go on. This project's own.
use Rattle.std.specs.Prelude.{◌≡◌, ℕ, ◌+◌, ◌*◌, ◌^◌, ◌<◌, ◌≤◌, List, [], ◌∷◌, true, Option, Some, None, slice_get}
use Rattle.spec_processor.specs.Bytes.{page_size, ram_base, ram_offset}
use Rattle.spec_processor.specs.declared.mode.Mode.{Mode}
use Rattle.spec_processor.specs.declared.mode.Mode.TheVariants.{Kernel, User}
use Rattle.sv_types.specs.declared.view.View.{View}
use Rattle.spec_hardware.specs.StandsFor.{kernel_view}
use Rattle.spec_reference.specs.States.{Binding, binding_of, place_of_entry}
use Rattle.spec_reference.specs.declared.saved_machine.harts.SavedHart.{SavedHart}
use Rattle.snapshot_format.specs.HartForms.{hart}
use Rattle.page_guard.specs.Permitted.{Permitted}

-- an entry is bound at the place, and is the first with its address
pub record IsEntered (entries : Permitted) (place : ℕ) : Type 0 where
  pub entry : Binding
  pub bound : binding_of (slice_get entries.entries place) (slice_get entries.bound place) ≡ Some entry
  pub first : place_of_entry entries.entries entries.bound entry.va ≡ Some place

abbrev pub MayBeIn : Permitted → (entry : Option ℕ) → Type 0
MayBeIn entries None = Unit {0}
MayBeIn entries (Some place) = IsEntered entries place

-- what a hart in a mode looks through; in kernel mode it may be in an entry
abbrev pub view_in : Mode → (entry : Option ℕ) → View
view_in Kernel entry = kernel_view entry
view_in User entry = View.User

-- an address of RAM, whose host place after so many bytes of tables is a number of 64 bits
abbrev pub IsReservable : (tables address : ℕ) → Type 0
IsReservable tables address = (ram_base ≤ address) × (tables + ram_offset address < 2 ^ 64)

-- its values are in their ranges, in RAM of some number of pages which ends below 2^63 where it lies after so many bytes of
-- tables, and it may be in its entry
pub record CanSit (tables : ℕ) (entries : Permitted) (h : SavedHart) : Type 0 where
  pub ram_pages : ℕ
  pub room : tables + page_size * ram_pages < 2 ^ 63
  pub form : (hart ram_pages).has h ≡ true
  pub entry : MayBeIn entries h.entry

abbrev pub CanAllSit : ℕ → Permitted → List SavedHart → Type 0
CanAllSit tables entries [] = Unit {0}
CanAllSit tables entries (h ∷ harts) = CanSit tables entries h × CanAllSit tables entries harts
