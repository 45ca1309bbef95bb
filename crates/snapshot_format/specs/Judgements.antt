-- Whether a machine can go on from a snapshot under a policy. Each judgement is one question; the first that is answered no
-- refuses. This project's own.
use Rattle.std.specs.Prelude.{ℕ, ◌*◌, List, [], ◌∷◌, ◌++◌, length, map, filter, replicate, Bool, true, false, not, ◌&&◌, ◌||◌, Option, Some}
use Rattle.std.specs.Prelude.{None, slice_get, slice_set, is_some, nat_lt, nat_le, ◌==◌, if◌then◌else◌}
use Rattle.std.specs.List.{list_all, list_any}
use Rattle.std.specs.Str.{bytes_eq}
use Rattle.spec_processor.specs.Bytes.{page_size, page_bytes, is_in_ram}
use Rattle.sv_types.specs.Measure.{page_digest, joined_digests}
use Rattle.sv_types.specs.Policies.{Rules}
use Rattle.sv_types.specs.declared.protection.Protection.{Protection}
use Rattle.sv_types.specs.declared.protection.Protection.TheVariants.{Free, Held, Approved}
use Rattle.sv_types.specs.declared.saved.ModulePlacement.{ModulePlacement}
use Rattle.spec_reference.specs.Loads.{is_good_load}
use Rattle.spec_reference.specs.Origins.{is_init}
use Rattle.sv_types.specs.Protections.{is_free, is_same}
use Rattle.spec_reference.specs.Protections.{protection_at}
use Rattle.spec_reference.specs.States.{binding_at, module_pages, pages_in_rule}
use Rattle.spec_reference.specs.declared.saved_machine.harts.SavedHart.{SavedHart}
use Rattle.spec_reference.specs.declared.saved_machine.whole.SavedLoad.{SavedLoad}
use Rattle.snapshot_format.specs.Snapshots.{Contents}
use Rattle.snapshot_format.specs.declared.whole.TextPage.{TextPage}
use Rattle.snapshot_format.specs.declared.resume.refusal.ResumeRefusal.{ResumeRefusal}
use Rattle.snapshot_format.specs.declared.resume.refusal.ResumeRefusal.TheVariants.{OtherPolicy, OtherPages, OtherKernel, OtherText, OtherModule}

-- ---- whose pages

abbrev pub page_numbers : List TextPage → List ℕ
page_numbers text = map (λ (t : TextPage). t.page) text

abbrev pub is_retired : Rules → (retired : Bool) → ℕ → Bool
is_retired rules retired page = retired && is_init rules.init page

-- the kernel's text but for what is retired
abbrev pub text_left : Rules → Contents → List ℕ
text_left rules s = filter (λ page. not (is_retired rules s.retired page)) (page_numbers s.text)

abbrev pub loaded_pages : Rules → List ModulePlacement → List ℕ
loaded_pages rules [] = []
loaded_pages rules (m ∷ modules) = module_pages rules m ++ loaded_pages rules modules

abbrev pub load_pages : Rules → Option SavedLoad → List ℕ
load_pages rules None = []
load_pages rules (Some load) = module_pages rules load.«module»

abbrev pub approved_of : Rules → Contents → List ℕ
approved_of rules s = text_left rules s ++ loaded_pages rules s.modules

-- ---- the snapshot is one of the policy's

-- the entry that a hart is in is bound
abbrev pub is_bound : Rules → Option ℕ → Bool
is_bound rules None = true
is_bound rules (Some i) = is_some (binding_at rules i)

-- a module of the policy, whose pages lie in RAM
abbrev pub fits : Rules → ModulePlacement → Bool
fits rules m =
    nat_lt m.id (length rules.modules) &&
    is_in_ram m.gpa (page_size * pages_in_rule (slice_get rules.modules m.id)) (page_size * rules.ram_pages)

-- a module of an id is loaded
abbrev pub is_loaded : List ModulePlacement → ℕ → Bool
is_loaded modules id = list_any (λ (m : ModulePlacement). m.id == id) modules

-- the module isn't loaded, and no more pages are left than it has
abbrev pub load_fits : Rules → List ModulePlacement → Option SavedLoad → Bool
load_fits rules modules None = true
load_fits rules modules (Some load) =
    fits rules load.«module» && not (is_loaded modules load.«module».id) &&
    nat_le load.left (pages_in_rule (slice_get rules.modules load.«module».id))

unfoldable pub is_of_policy : Rules → Contents → Bool
is_of_policy rules s =
    length s.harts == rules.harts && length s.protection == rules.ram_pages &&
    list_all (λ (h : SavedHart). is_bound rules h.entry) s.harts && list_all (fits rules) s.modules && load_fits rules s.modules s.loading

-- ---- no page is two parties', and each has the protection that follows

-- a party takes pages one after the other, and each gets its protection; none where one of them isn't free by then
abbrev pub take_pages : Protection → List Protection → List ℕ → Option (List Protection)
take_pages protection guard [] = Some guard
take_pages protection guard (page ∷ pages) =
    if is_free (protection_at guard page) then take_pages protection (slice_set guard page protection) pages else None

abbrev pub then_held : Option (List Protection) → List ℕ → Option (List Protection)
then_held None pages = None
then_held (Some guard) pages = take_pages Held guard pages

abbrev pub all_free : Rules → List Protection
all_free rules = replicate rules.ram_pages Free

-- of pages that are all free, the text and the loaded modules take theirs first
abbrev pub with_approved : Rules → Contents → Option (List Protection)
with_approved rules s = take_pages Approved (all_free rules) (approved_of rules s)

-- and then the load its own, which are held; none where a page would be two parties'
unfoldable pub guard_due : Rules → Contents → Option (List Protection)
guard_due rules s = then_held (with_approved rules s) (load_pages rules s.loading)

abbrev pub are_same : List Protection → List Protection → Bool
are_same [] [] = true
are_same [] (q ∷ qs) = false
are_same (p ∷ ps) [] = false
are_same (p ∷ ps) (q ∷ qs) = is_same p q && are_same ps qs

abbrev pub protections_are_due : Option (List Protection) → List Protection → Bool
protections_are_due None protections = false
protections_are_due (Some guard) protections = are_same guard protections

unfoldable pub is_guarded_right : Rules → Contents → Bool
is_guarded_right rules s = protections_are_due (guard_due rules s) s.protection

-- ---- the text is the policy's, and is there

unfoldable pub joins : Rules → Contents → Bool
joins rules s = bytes_eq (joined_digests (map (λ (t : TextPage). t.digest) s.text)) rules.kernel

abbrev pub is_there : List ℕ → TextPage → Bool
is_there ram t = bytes_eq (page_digest (page_bytes ram t.page)) t.digest

unfoldable pub has_text : Rules → Contents → Bool
has_text rules s = list_all (λ (t : TextPage). is_retired rules s.retired t.page || is_there s.ram t) s.text

-- ---- loaded modules are as they were measured

unfoldable pub has_modules : Rules → Contents → Bool
has_modules rules s = list_all (λ (m : ModulePlacement). is_good_load rules s.ram m (slice_get rules.modules m.id)) s.modules

-- ---- in this order

unfoldable pub resume_refusal : Rules → Contents → Option ResumeRefusal
resume_refusal rules s =
    if not (is_of_policy rules s) then Some OtherPolicy
    else if not (is_guarded_right rules s) then Some OtherPages
    else if not (joins rules s) then Some OtherKernel
    else if not (has_text rules s) then Some OtherText
    else if not (has_modules rules s) then Some OtherModule
    else None

-- the numbers by which they are printed, after those of a snapshot's bytes
abbrev pub refusal_number : ResumeRefusal → ℕ
refusal_number OtherPolicy = 4
refusal_number OtherPages = 5
refusal_number OtherKernel = 6
refusal_number OtherText = 7
refusal_number OtherModule = 8
