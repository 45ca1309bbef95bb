-- Where approved pages come from, and which pages are whose. This project's own.
use Rattle.std.specs.Prelude.{◌≡◌, ℕ, ◌%◌, ◌<◌, ◌≤◌, ◌⊎◌, Bool, true, false, not, ◌&&◌, List, [], ◌∷◌, Option, Some, None, slice_get, length}
use Rattle.spec_processor.specs.Bytes.{page_size, ram_offset, ram_base}
use Rattle.sv_types.specs.Policies.{Rules}
use Rattle.sv_types.specs.ApprovedPages.{ApprovedPage, approved_bytes}
use Rattle.sv_types.specs.declared.module.Span.{Span}
use Rattle.sv_types.specs.declared.saved.ModulePlacement.{ModulePlacement}
use Rattle.spec_reference.specs.Loads.{is_good_load}
use Rattle.spec_reference.specs.Answers.{span_pages}
use Rattle.spec_reference.specs.States.{State, has_number, is_approved_in, find_module, module_pages}

-- what page belongs to whom: the part of a state that says so
pub record Ownership : Type 0 where
  pub rules : Rules
  pub approved : List ApprovedPage
  pub loaded : List ModulePlacement
  pub text : List ℕ
  pub retired : Bool

abbrev pub ownership : State → Ownership
ownership r = record { rules = r.rules; approved = r.approved; loaded = r.loaded; text = r.text; retired = r.retired }

-- a page of the kernel's init text
abbrev pub is_init : Option Span → ℕ → Bool
is_init None page = false
is_init (Some span) page = has_number (span_pages span) page

-- a page that was approved at boot and wasn't retired
abbrev pub is_kernel_text : Ownership → ℕ → Bool
is_kernel_text r page = has_number r.text page && not (r.retired && is_init r.rules.init page)

-- a module that is loaded has a page
pub record IsPageOf (rules : Rules) (loaded : List ModulePlacement) (m : ModulePlacement) (page : ℕ) : Type 0 where
  pub loaded_is : find_module loaded m.id ≡ Some m
  pub inside : has_number (module_pages rules m) page ≡ true

abbrev pub IsOwned : Ownership → ℕ → Type 0
IsOwned r page = (is_kernel_text r page ≡ true) ⊎ ((m : ModulePlacement) × IsPageOf r.rules r.loaded m page)

-- the kernel's text and the pages of each loaded module share no page, all lie in RAM, and these are the approved ones
pub record OwnsPages (r : Ownership) : Type 0 where
  pub owned : (page : ℕ) → is_approved_in r.approved page ≡ true → IsOwned r page
  pub text : (page : ℕ) → is_kernel_text r page ≡ true → is_approved_in r.approved page ≡ true
  pub modules : (m : ModulePlacement) (page : ℕ) → IsPageOf r.rules r.loaded m page → is_approved_in r.approved page ≡ true
  pub no_text : (m : ModulePlacement) (page : ℕ) → IsPageOf r.rules r.loaded m page → is_kernel_text r page ≡ false
  pub one_module : (m n : ModulePlacement) (page : ℕ) → IsPageOf r.rules r.loaded m page → IsPageOf r.rules r.loaded n page → m.id ≡ n.id
  pub inside : (page : ℕ) → is_approved_in r.approved page ≡ true → page < r.rules.ram_pages
  pub ids : (m : ModulePlacement) → find_module r.loaded m.id ≡ Some m → m.id < length r.rules.modules

-- a loaded module is as it was measured: RAM has the text whose digest the policy has, and its fields are right for its
-- bases. It begins with a page of RAM
pub record IsMeasured (rules : Rules) (ram : List ℕ) (m : ModulePlacement) : Type 0 where
  pub good : is_good_load rules ram m (slice_get rules.modules m.id) ≡ true
  pub base : ram_base ≤ m.gpa
  pub aligned : ram_offset m.gpa % page_size ≡ 0

-- the list of loaded modules ascends by id
abbrev pub AllAbove : ℕ → List ModulePlacement → Type 0
AllAbove id [] = Unit {0}
AllAbove id (m ∷ modules) = (id < m.id) × AllAbove id modules

abbrev pub Ascends : List ModulePlacement → Type 0
Ascends [] = Unit {0}
Ascends (m ∷ modules) = AllAbove m.id modules × Ascends modules

-- the kernel's text after a step was so before it, with the same bytes
pub record TextStays (before after : Ownership) : Type 0 where
  pub rules : after.rules ≡ before.rules
  pub text : after.text ≡ before.text
  pub was : (page : ℕ) → is_kernel_text after page ≡ true → is_kernel_text before page ≡ true
  pub bytes : (page : ℕ) → is_kernel_text after page ≡ true → approved_bytes after.approved page ≡ approved_bytes before.approved page
