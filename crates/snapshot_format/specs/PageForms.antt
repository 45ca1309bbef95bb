-- The forms of what pages are, and of the modules in them. This project's own.
use Rattle.std.specs.Prelude.{ℕ, ◌-◌, List, [], length, Bool, true, false, not, ◌&&◌, Option, Some, None, option_map, is_some, slice_get}
use Rattle.std.specs.Prelude.{nat_lt, nat_le, ◌==◌, if◌then◌else◌}
use Rattle.spec_reference.specs.declared.saved_machine.harts.SavedHart.{SavedHart}
use Rattle.spec_reference.specs.declared.saved_machine.whole.SavedLoad.{SavedLoad}
use Rattle.snapshot_format.specs.Forms.{Form, number, byte, plain, nothing, within, and_then, ◌⨾◌, map_form, always, list_form, counted_list}
use Rattle.snapshot_format.specs.HartForms.{flag, is_user, multiple_of}
use Rattle.snapshot_format.specs.declared.whole.TextPage.{TextPage}
use Rattle.spec_processor.specs.Bytes.{page_size}
use Rattle.sv_types.specs.Limits.{max_module_pages}
use Rattle.sv_types.specs.Measure.{digest_size}
use Rattle.sv_types.specs.Policies.{modules_count_within}
use Rattle.sv_types.specs.declared.saved.ModulePlacement.{ModulePlacement}
use Rattle.sv_types.specs.declared.protection.Protection.TheVariants.{Free, Held, Approved}
use Rattle.sv_types.specs.declared.protection.Protection.{Protection}

-- ---- protections

abbrev pub protection_number : Protection → ℕ
protection_number Free = 0
protection_number Held = 1
protection_number Approved = 2

abbrev pub protection_of : ℕ → Protection
protection_of n = if n == protection_number Free then Free else if n == protection_number Held then Held else Approved

-- one byte, its number
unfoldable pub protection_form : Form Protection
protection_form = map_form protection_of protection_number always (within (λ n. nat_le n (protection_number Approved)) byte)

unfoldable pub protections : ℕ → Form (List Protection)
protections ram_pages = list_form (λ before. protection_form) [] ram_pages

-- ---- text

-- above the last of those before it
abbrev pub is_above : Option ℕ → ℕ → Bool
is_above None n = true
is_above (Some last) n = nat_lt last n

abbrev pub last_page : List TextPage → Option ℕ
last_page before = option_map (λ (t : TextPage). t.page) (slice_get before (length before - 1))

abbrev pub text_page_of : ℕ × List ℕ → TextPage
text_page_of x = record { page = x.0; digest = x.1 }

abbrev pub text_page_parts : TextPage → ℕ × List ℕ
text_page_parts t = (t.page, t.digest)

-- a page in RAM, and its digest
unfoldable pub text_page : ℕ → List TextPage → Form TextPage
text_page ram_pages before =
    map_form text_page_of text_page_parts always
    (within (λ n. nat_lt n ram_pages && is_above (last_page before) n) number ⨾ plain digest_size)

-- ascending; there are no more than pages of RAM
unfoldable pub text : ℕ → Form (List TextPage)
text ram_pages = counted_list (λ n. nat_le n ram_pages) (text_page ram_pages)

abbrev pub Pages : Type 0
Pages = List Protection × List TextPage

unfoldable pub pages : ℕ → Form Pages
pages ram_pages = protections ram_pages ⨾ text ram_pages

-- ---- modules

abbrev pub ModuleParts : Type 0
ModuleParts = ℕ × (ℕ × (ℕ × ℕ))

abbrev pub module_of : ModuleParts → ModulePlacement
module_of x = record { id = x.0; gpa = x.1.0; va = x.1.1.0; data_va = x.1.1.1 }

abbrev pub module_parts : ModulePlacement → ModuleParts
module_parts m = (m.id, (m.gpa, (m.va, m.data_va)))

unfoldable pub module_within : (ℕ → Bool) → Form ModulePlacement
module_within good = map_form module_of module_parts always (within good number ⨾ (multiple_of page_size ⨾ (multiple_of page_size ⨾ number)))

abbrev pub last_id : List ModulePlacement → Option ℕ
last_id before = option_map (λ (m : ModulePlacement). m.id) (slice_get before (length before - 1))

abbrev pub next_module : List ModulePlacement → Form ModulePlacement
next_module before = module_within (is_above (last_id before))

-- ascending by id, as many as a policy may name
unfoldable pub modules : Form (List ModulePlacement)
modules = counted_list modules_count_within next_module

-- ---- the load under way

abbrev pub load_of : ℕ × (ModulePlacement × ℕ) → SavedLoad
load_of x = record { hart = x.0; «module» = x.1.0; left = x.1.1 }

abbrev pub load_parts : SavedLoad → ℕ × (ModulePlacement × ℕ)
load_parts load = (load.hart, (load.«module», load.left))

-- it is there, started and in kernel mode
abbrev pub may_load : Option SavedHart → Bool
may_load None = false
may_load (Some hart) = hart.started && not (is_user hart.mode)

-- no more pages are left than a module may have
unfoldable pub load : List SavedHart → Form SavedLoad
load harts =
    map_form load_of load_parts always
    (within (λ h. may_load (slice_get harts h)) number ⨾ (module_within (is_above None) ⨾ within (λ n. nat_le n max_module_pages) number))

abbrev pub some_or : {A : Type 0} → A → Option A → A
some_or past None = past
some_or past (Some a) = a

abbrev pub nowhere : SavedLoad
nowhere = record { hart = 0; «module» = record { id = 0; gpa = 0; va = 0; data_va = 0 }; left = 0 }

-- a load where the flag before it is 1
unfoldable pub load_after : List SavedHart → Bool → Form (Option SavedLoad)
load_after harts true = map_form Some (some_or nowhere) is_some (load harts)
load_after harts false = nothing None (λ o. not (is_some o))

unfoldable pub load_under_way : List SavedHart → Form (Option SavedLoad)
load_under_way harts = map_form (λ x. x.1) (λ o. (is_some o, o)) always (and_then flag (load_after harts))

-- loaded modules, whether init pages are retired, and the load under way
abbrev pub Gate : Type 0
Gate = List ModulePlacement × (Bool × Option SavedLoad)

unfoldable pub gate : List SavedHart → Form Gate
gate harts = modules ⨾ (flag ⨾ load_under_way harts)
