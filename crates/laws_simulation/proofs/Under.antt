-- Where an access of the hardware goes under the view of its mode: the plain translation, and the page's protection.
use Rattle.std.proofs.Common.{◌≡◌, ℕ, ◌+◌, ◌*◌, ◌%◌, ◌/◌, inl, inr, length, refl, ◌∙◌, ap, Bool, true, false, ◌&&◌, ◌||◌, arith, slice_get}
use Rattle.std.specs.Prelude.{Option, Some, None, option_map, Result, nat_le, nat_lt, not, ◌==◌}
use Rattle.std.proofs.lemmas.Bool.Decides.{nat_tests}
use Rattle.std.proofs.lemmas.Option.{slice_get-map}
use Rattle.spec_processor.specs.Bytes.{ram_base, ram_offset, page_of, in_ram, page_size}
use Rattle.spec_processor.specs.HardwareMemory.{translation_result, place_or_exception}
use Rattle.spec_processor.specs.HypervisorRegisters.{HypervisorRegisters}
use Rattle.spec_processor.specs.Regions.{IsWidth}
use Rattle.sv_types.specs.Views.{Sight, OfKernel, OfUser, OfEntry, sight_of, under_view, page_in_ram, view_permits}
use Rattle.spec_processor.specs.GStage.{two_stages}
use Rattle.spec_processor.specs.Translation.{Destination, Settings, place}
use Rattle.spec_processor.specs.declared.translation.Place.{Place}
use Rattle.spec_processor.specs.declared.translation.Fault.{Fault}
use Rattle.spec_processor.specs.declared.access.Access.{Access}
use Rattle.spec_processor.specs.declared.mode.Mode.{Mode}
use Rattle.spec_processor.specs.declared.mode.Mode.TheVariants.{Kernel, User}
use Rattle.sv_types.specs.declared.view.View.TheVariants as View
use Rattle.sv_types.specs.Policies.{Rules}
use Rattle.laws_simulation.proofs.Views.{two_stages_under_view}
use Rattle.spec_reference.specs.States.{State, Hart, Binding, binding_of, binding_at, protection_in, protection_by, is_approved_in, is_protected, has_number}
use Rattle.spec_reference.specs.Requests.{settings_of}
use Rattle.spec_hardware.specs.StandsFor.{Unseen, IsRightFor, hregs_in, bound_pages}
use Rattle.spec_reference.specs.Soundness.{IsSound, IsSoundEntry}
use Rattle.spec_reference.specs.Turn.{bound_entry}
use Rattle.laws_simulation.specs.Agree.{IsAt, region_at, core_at}
use Rattle.spec_hardware.proofs.Privileges.{same_mode}

-- what a hart in a mode and an entry sees
abbrev pub sight_by : Mode → Option Binding → Sight
sight_by Kernel None = OfKernel
sight_by Kernel (Some entry) = OfEntry (page_of entry.gpa)
sight_by User entry = OfUser

-- where an access leads, by the plain translation and what the hart sees
abbrev pub under : Unseen → State → Sight → Access → Destination → Result Place Fault
under o r sight access d = under_view (length o.tables) r.rules.ram_pages sight (protection_in r.approved r.held) access d

abbrev pub sight_of_hart : State → Hart → Sight
sight_of_hart r hart = sight_by hart.mode (bound_entry r.rules hart.entry)

binds_to : (va gpa : Option ℕ) (entry : Binding) → binding_of va gpa ≡ Some entry → gpa ≡ Some entry.gpa
binds_to None gpa entry e = absurd (cc)
binds_to (Some va) None entry e = absurd (cc)
binds_to (Some va) (Some gpa) entry e = ap (option_map (λ (b : Binding). b.gpa)) e

-- the page that the entry at a place is bound to
pub bound_page : (rules : Rules) (i : ℕ) (entry : Binding) → binding_at rules i ≡ Some entry → sight_of (bound_pages rules) (View.Entry i) ≡ Some (OfEntry (page_of entry.gpa))
unfolding binding_at
bound_page rules i entry e =
    ap (option_map OfEntry) (slice_get-map page_of rules.bound i
    ∙ ap (option_map page_of) (binds_to (slice_get rules.entries i) (slice_get rules.bound i) entry e))

stages_in : (o : Unseen) (r : State) (root : Mode) (entry : Option ℕ) (s : Settings) (mode : Mode) (va : ℕ) (access : Access) → IsRightFor o r → IsSound r
    → IsSoundEntry r.rules root entry
    → two_stages (region_at o r) (hregs_in root entry).hgatp s mode va access ≡ under o r (sight_by root (bound_entry r.rules entry)) access (place r.ram s mode va access)
unfolding bound_entry
stages_in o r Kernel None s mode va access is_open sound known =
    two_stages_under_view o.tables r.ram r.rules.ram_pages _ (protection_in r.approved r.held) OfKernel (is_open.views.each View.Kernel OfKernel refl) sound.size s mode va access
stages_in o r Kernel (Some i) s mode va access is_open sound known =
    rw known.1
    (two_stages_under_view o.tables r.ram r.rules.ram_pages _ (protection_in r.approved r.held) (OfEntry (page_of known.0.gpa))
    (is_open.views.each (View.Entry i) (OfEntry (page_of known.0.gpa)) (bound_page r.rules i known.0 known.1)) sound.size s mode va access)
stages_in o r User entry s mode va access is_open sound known =
    two_stages_under_view o.tables r.ram r.rules.ram_pages _ (protection_in r.approved r.held) OfUser (is_open.views.each View.User OfUser refl) sound.size s mode va access

pub translated_under : (o : Unseen) (r : State) (h : ℕ) (hart : Hart) (c : HypervisorRegisters) (access : Access) (va htinst : ℕ) → IsAt o r h hart c
    → translation_result (region_at o r) (core_at o c hart) access va htinst
    ≡ place_or_exception access va htinst (under o r (sight_of_hart r hart) access (place r.ram (settings_of hart.supervisor) hart.mode va access))
unfolding translation_result
translated_under o r h hart c access va htinst at =
    ap (λ (m : Mode). place_or_exception access va htinst (two_stages (region_at o r) (hregs_in hart.mode hart.entry).hgatp (settings_of hart.supervisor) m va access)) (same_mode hart.mode hart.entry)
    ∙ ap (place_or_exception access va htinst) (stages_in o r hart.mode hart.entry (settings_of hart.supervisor) hart.mode va access at.right at.sound (at.sound.harts h hart at.found).entry)

-- ---- aligned accesses stay in their page

pub whole_access : (width p n : ℕ) → IsWidth width → p % width ≡ 0 → nat_le (p + width) (page_size * n) ≡ nat_lt (p / page_size) n
whole_access width p n (inl one) aligned = rw one (grind (arith, nat_tests))
whole_access width p n (inr (inl two)) aligned = let e : p % 2 ≡ 0 = rw two at aligned in rw two (grind (arith, nat_tests))
whole_access width p n (inr (inr (inl four))) aligned = let e : p % 4 ≡ 0 = rw four at aligned in rw four (grind (arith, nat_tests))
whole_access width p n (inr (inr (inr eight))) aligned = let e : p % 8 ≡ 0 = rw eight at aligned in rw eight (grind (arith, nat_tests))

pub moved : (width gpa va : ℕ) → IsWidth width → gpa % page_size ≡ va % page_size → va % width ≡ 0 → ram_offset gpa % width ≡ 0
moved width gpa va (inl one) same aligned = rw one (grind arith)
moved width gpa va (inr (inl two)) same aligned = let e : va % 2 ≡ 0 = rw two at aligned in rw two (grind arith)
moved width gpa va (inr (inr (inl four))) same aligned = let e : va % 4 ≡ 0 = rw four at aligned in rw four (grind arith)
moved width gpa va (inr (inr (inr eight))) same aligned = let e : va % 8 ≡ 0 = rw eight at aligned in rw eight (grind arith)

-- an aligned access lies in RAM exactly where its page does
pub access_in_ram : (r : State) (gpa va width : ℕ) → IsSound r → IsWidth width → gpa % page_size ≡ va % page_size → va % width ≡ 0
    → in_ram r.ram gpa width ≡ page_in_ram r.rules.ram_pages gpa
access_in_ram r gpa va width sound whole same aligned =
    ap (λ (n : ℕ). nat_le ram_base gpa && nat_le (ram_offset gpa + width) n) sound.size
    ∙ ap (λ (b : Bool). nat_le ram_base gpa && b) (whole_access width (ram_offset gpa) r.rules.ram_pages whole (moved width gpa va whole same aligned))

-- ---- what the views permit

stores_by : (sight : Sight) (page : ℕ) (a b : Bool) → view_permits sight page (protection_by a b) Access.Store ≡ not (a || b)
unfolding protection_by
stores_by sight page true b = refl
stores_by sight page false true = refl
stores_by sight page false false = refl

pub stores_permitted : (sight : Sight) (r : State) (page : ℕ) → view_permits sight page (protection_in r.approved r.held page) Access.Store ≡ not (is_protected r page)
unfolding protection_in is_protected
stores_permitted sight r page = stores_by sight page (is_approved_in r.approved page) (has_number r.held page)

-- kernel mode fetches where the page is approved, user mode elsewhere, and an entry from its own page if that is approved
abbrev pub fetches : Sight → ℕ → Bool → Bool
fetches OfKernel page approved = approved
fetches OfUser page approved = not approved
fetches (OfEntry bound) page approved = approved && page == bound

fetches_by : (sight : Sight) (page : ℕ) (a b : Bool) → view_permits sight page (protection_by a b) Access.Fetch ≡ fetches sight page a
unfolding protection_by
fetches_by OfKernel page true b = refl
fetches_by OfKernel page false true = refl
fetches_by OfKernel page false false = refl
fetches_by OfUser page true b = refl
fetches_by OfUser page false true = refl
fetches_by OfUser page false false = refl
fetches_by (OfEntry bound) page true b = refl
fetches_by (OfEntry bound) page false true = refl
fetches_by (OfEntry bound) page false false = refl

pub fetches_permitted : (sight : Sight) (r : State) (page : ℕ)
    → view_permits sight page (protection_in r.approved r.held page) Access.Fetch ≡ fetches sight page (is_approved_in r.approved page)
unfolding protection_in
fetches_permitted sight r page = fetches_by sight page (is_approved_in r.approved page) (has_number r.held page)
