-- A first stage keeps an address's place in its page, for every virtual address, of 64 bits or not.
use Rattle.std.proofs.Common.{◌≡◌, ℕ, ◌%◌, ◌/◌, ◌^◌, refl, Bool, true, false, lit≤}
use Rattle.spec_processor.specs.Bytes.{page_size}
use Rattle.std.specs.Prelude.{Option, if◌then◌else◌, ◌==◌}
use Rattle.spec_processor.specs.Translation.{Destination, At, PageFault, Unreadable, first_stage, Settings, walk, permits_access, sv39_indices, root_of, is_canonical}
use Rattle.spec_processor.specs.declared.access.Access.{Access}
use Rattle.spec_processor.specs.declared.mode.Mode.{Mode}
use Rattle.laws_processor.proofs.Walks.{Fits, walk_fits}

abbrev pub Keeps : ℕ → Destination → Type 0
Keeps a (At found) = found % page_size ≡ a % page_size
Keeps a PageFault = Unit {0}
Keeps a (Unreadable entry) = Unit {0}

kept_by : (a : ℕ) (d : Destination) → Fits a d → Keeps a d
kept_by a (At found) fits = fits.0
kept_by a PageFault fits = tt
kept_by a (Unreadable entry) fits = tt

choose_keeps : (a : ℕ) (b : Bool) (x y : Destination) → Keeps a x → Keeps a y → Keeps a (if b then x else y)
choose_keeps a true x y h k = h
choose_keeps a false x y h k = k

-- a first stage keeps an address's place in its page
pub first_stage_keeps : (read : ℕ → Option ℕ) (s : Settings) (mode : Mode) (va : ℕ) (access : Access) → Keeps va (first_stage read s mode va access)
unfolding first_stage
first_stage_keeps read s mode va access =
    choose_keeps va (s.satp / 2 ^ 60 == 0) (At va) (if is_canonical va then walk read (permits_access s mode access) (sv39_indices va) (root_of s.satp) va else PageFault) refl
    (choose_keeps va (is_canonical va) (walk read (permits_access s mode access) (sv39_indices va) (root_of s.satp) va) PageFault
    (kept_by va (walk read (permits_access s mode access) (sv39_indices va) (root_of s.satp) va)
    (walk_fits read (permits_access s mode access) (sv39_indices va) (root_of s.satp) va (lit≤ tt))) tt)
