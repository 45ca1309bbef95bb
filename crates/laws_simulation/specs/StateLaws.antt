-- Two laws of the reference machine alone, for each state that a run reaches from a start. This project's own.
use Rattle.std.specs.Prelude.{◌≡◌, ℕ, ◌-◌, ◌*◌, ◌<◌, ◌⊎◌, true, false, List, [], length, Option, Some, None, slice_get}
use Rattle.spec_processor.specs.Bytes.{part, page_bytes, page_of, page_size}
use Rattle.sv_types.specs.ApprovedPages.{approved_bytes}
use Rattle.sv_types.specs.declared.event.Event.{Event}
use Rattle.sv_types.specs.declared.saved.ModulePlacement.{ModulePlacement}
use Rattle.spec_reference.specs.Loads.{module_text}
use Rattle.spec_reference.specs.Origins.{IsPageOf, IsMeasured, Ascends, is_kernel_text, ownership}
use Rattle.spec_reference.specs.States.{State, Loading, has_number, is_approved_in, find_module, module_pages, pages_in_rule}
use Rattle.spec_reference.specs.Run.{run}
use Rattle.spec_reference.specs.Start.{IsStart}
use Rattle.spec_reference.specs.Soundness.{IsSound, KeepsText}

-- ---- bytes

-- RAM has in each approved page its bytes
abbrev pub BytesLaw : Type 0
BytesLaw = (s : State) (events : List Event) → IsStart s → KeepsText (run s events).approved (run s events).ram

-- every state that a run reaches from a start is sound
abbrev pub SoundLaw : Type 0
SoundLaw = (s : State) (events : List Event) → IsStart s → IsSound (run s events)

-- ---- modules

-- a page of the kernel's text that wasn't retired, with the bytes that it had at the start
pub record IsText (s r : State) (page : ℕ) : Type 0 where
  pub unretired : is_kernel_text (ownership r) page ≡ true
  pub bytes : approved_bytes r.approved page ≡ Some (page_bytes s.ram page)

-- a page of a loaded module, all of whose pages are approved. Its text in RAM, each field cleared, measures to the policy's
-- digest, and the fields are right for its bases; and the page is a part of that text
pub record IsModulePage (r : State) (m : ModulePlacement) (page : ℕ) : Type 0 where
  pub its_page : IsPageOf r.rules r.loaded m page
  pub approved : (q : ℕ) → has_number (module_pages r.rules m) q ≡ true → is_approved_in r.approved q ≡ true
  pub measured : IsMeasured r.rules r.ram m
  pub text : page_bytes r.ram page ≡
      part (module_text r.ram m (pages_in_rule (slice_get r.rules.modules m.id))) (page_size * (page - page_of m.gpa)) page_size

-- where an approved page comes from
abbrev pub HasOrigin : (s r : State) → (page : ℕ) → Type 0
HasOrigin s r page = IsText s r page ⊎ ((m : ModulePlacement) × IsModulePage r m page)

-- the pages that are held are those of the load under way
abbrev pub HoldsLoad : State → Option Loading → Type 0
HoldsLoad r None = r.held ≡ []
HoldsLoad r (Some load) = r.held ≡ module_pages r.rules load.about

-- what is said of a state that a run reaches from a start
pub record HasOrigins (s r : State) : Type 0 where
  -- the policy and the pages that were approved at boot are those of the start
  pub rules : r.rules ≡ s.rules
  pub text : r.text ≡ s.text
  -- where approved pages come from
  pub origin : (page : ℕ) → is_approved_in r.approved page ≡ true → HasOrigin s r page
  pub held : HoldsLoad r r.loading
  -- the kernel's text, the pages of each module and those that are held share none
  pub text_and_module : (m : ModulePlacement) (page : ℕ) → IsPageOf r.rules r.loaded m page → is_kernel_text (ownership r) page ≡ false
  pub text_and_held : (page : ℕ) → has_number r.held page ≡ true → is_kernel_text (ownership r) page ≡ false
  pub module_and_held : (m : ModulePlacement) (page : ℕ) → IsPageOf r.rules r.loaded m page → has_number r.held page ≡ false
  pub two_modules : (m n : ModulePlacement) (page : ℕ) → IsPageOf r.rules r.loaded m page → IsPageOf r.rules r.loaded n page → m ≡ n
  -- the list of loaded modules ascends by id, so each of them is found by its id
  pub ascends : Ascends r.loaded
  pub listed : (i : ℕ) (m : ModulePlacement) → slice_get r.loaded i ≡ Some m → find_module r.loaded m.id ≡ Some m
  -- each module that is loaded or under way is one of the policy's, and none is both
  pub ids : (m : ModulePlacement) → find_module r.loaded m.id ≡ Some m → m.id < length r.rules.modules
  pub id_under_way : (load : Loading) → r.loading ≡ Some load → load.about.id < length r.rules.modules
  pub not_both : (load : Loading) → r.loading ≡ Some load → find_module r.loaded load.about.id ≡ None

abbrev pub ModulesLaw : Type 0
ModulesLaw = (s : State) (events : List Event) → IsStart s → HasOrigins s (run s events)
