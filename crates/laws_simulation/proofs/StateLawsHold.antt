-- The laws of bytes and of modules.
use Rattle.std.proofs.Common.{◌≡◌, ℕ, ◌+◌, ◌-◌, ◌*◌, ◌/◌, ◌%◌, ◌<◌, ◌≤◌, inl, inr, List, [], length, refl, sym, ◌∙◌, ap, subst, arith, true, false, slice_get}
use Rattle.std.specs.Prelude.{Option, Some, None, is_some}
use Rattle.std.proofs.lemmas.Bool.{false_from_ne_true}
use Rattle.sv_types.specs.Boot.{flat_ram_pages}
use Rattle.spec_processor.specs.Bytes.{with_padding, part, page_bytes, page_size, ram_base, ram_offset}
use Rattle.sv_types.specs.Kernel.{header_entry, kernel_segments, segments_ram, text_pages}
use Rattle.sv_types.specs.Policies.{Rules}
use Rattle.sv_types.specs.ApprovedPages.{approved_bytes, numbers_from}
use Rattle.sv_types.specs.declared.event.Event.{Event}
use Rattle.sv_types.specs.declared.saved.ModulePlacement.{ModulePlacement}
use Rattle.spec_reference.specs.Origins.{IsPageOf, IsOwned, TextStays, is_kernel_text, ownership}
use Rattle.spec_reference.specs.States.{State, Disk, Loading, has_number, is_approved_in, find_module, pages_in_rule}
use Rattle.spec_reference.specs.Run.{run}
use Rattle.spec_reference.specs.Start.{IsStart, StartsFlat, StartsBy, flat_rules, flat_start, image_start, boot_start, virtio_start, block_disk, virtio_disk}
use Rattle.spec_reference.specs.Soundness.{IsSound, IsSoundDisk, IsSoundLoad, HoldsModule}
use Rattle.laws_simulation.specs.StateLaws.{BytesLaw, SoundLaw, IsText, IsModulePage, HasOrigin, HoldsLoad, HasOrigins, ModulesLaw}
use Rattle.laws_simulation.proofs.Lookups.{both, all_found, numbers_bounds}
use Rattle.laws_simulation.proofs.ModulesSound.{same_module}
use Rattle.laws_simulation.proofs.Sounds.{Goes}
use Rattle.laws_simulation.proofs.StartsSound.{start_sound, block_quiet, virtio_quiet, flat_can, image_can}
use Rattle.laws_simulation.proofs.StepsSound.{run_goes}
use Rattle.laws_processor.proofs.ByteLemmas.{part_of_part}

-- ---- starts

flat_sound : (s : State) → StartsFlat s → IsSound s
unfolding flat_start
flat_sound s k = subst IsSound (sym k.same)
    (start_sound (flat_rules k.digest) (with_padding k.pages (page_size * flat_ram_pages)) (numbers_from 0 (length k.pages / page_size)) ram_base (block_disk [])
    (flat_can k.pages k.digest k.fits) (block_quiet []))

image_sound : {boot : Rules → (file disk : List ℕ) → State} (s : State) (disk : Disk) (k : StartsBy boot s) → boot k.rules k.file k.disk ≡ image_start k.rules k.file disk →
    IsSoundDisk disk → IsSound s
image_sound s disk k same quiet = subst IsSound (sym (k.same ∙ same))
    (start_sound k.rules (segments_ram (kernel_segments k.file) k.rules.ram_pages) (text_pages (kernel_segments k.file)) (header_entry k.file) disk
    (image_can k.rules k.file k.bootable.within k.bootable.words k.bootable.accepted k.bootable.entry) quiet)

-- a start is sound
begins_sound : (s : State) → IsStart s → IsSound s
unfolding boot_start virtio_start
begins_sound s (inl flat) = flat_sound s flat
begins_sound s (inr (inl k)) = image_sound s (block_disk k.disk) k refl (block_quiet k.disk)
begins_sound s (inr (inr k)) = image_sound s (virtio_disk k.disk) k refl (virtio_quiet k.disk)

-- every state that a run reaches from a start is sound
pub reached_sound : (s : State) (events : List Event) → IsStart s → IsSound (run s events)
reached_sound s events is_start = (run_goes s events (begins_sound s is_start)).sound

-- ---- bytes

pub bytes_law : BytesLaw
bytes_law s events is_start = (reached_sound s events is_start).text

pub sound_law : SoundLaw
sound_law s events is_start = reached_sound s events is_start

-- ---- the kernel's text

some_bytes : (x : Option (List ℕ)) → is_some x ≡ true → (bytes : List ℕ) × (x ≡ Some bytes)
some_bytes None e = absurd cc
some_bytes (Some bytes) e = (bytes, refl)

-- in a sound state it has the bytes that RAM has
pub text_bytes : (s : State) (page : ℕ) → IsSound s → is_kernel_text (ownership s) page ≡ true → approved_bytes s.approved page ≡ Some (page_bytes s.ram page)
text_bytes s page sound e =
    let there = some_bytes (approved_bytes s.approved page) (sound.pages.text page e) in
    there.1 ∙ ap (λ (bytes : List ℕ). Some bytes) (sym (sound.text.same page there.0 there.1))

text_of : (s r : State) (page : ℕ) → IsSound s → TextStays (ownership s) (ownership r) → is_kernel_text (ownership r) page ≡ true → IsText s r page
text_of s r page sound stays e = record { unretired = e; bytes = stays.bytes page e ∙ text_bytes s page sound (stays.was page e) }

-- ---- modules

page_place : (at page : ℕ) → at % page_size ≡ 0 → at / page_size ≤ page → at + page_size * (page - at / page_size) ≡ page_size * page
page_place at page aligned behind = omega arith

page_fits : (first n page : ℕ) → first ≤ page → page < first + n → page_size * (page - first) + page_size ≤ page_size * n
page_fits first n page behind before = omega arith

-- a module's page is a part of its text, since the module begins with a page
page_in_text : (ram : List ℕ) (place n page : ℕ) → place % page_size ≡ 0 → has_number (numbers_from (place / page_size) n) page ≡ true
    → page_bytes ram page ≡ part (part ram place (page_size * n)) (page_size * (page - place / page_size)) page_size
page_in_text ram place n page aligned inside =
    let bounds = numbers_bounds (place / page_size) n page inside in
    sym (part_of_part ram place (page_size * n) (page_size * (page - place / page_size)) page_size (page_fits (place / page_size) n page bounds.0 bounds.1)
    ∙ ap (λ (at : ℕ). part ram at page_size) (page_place place page aligned bounds.0))

module_page : (r : State) (m : ModulePlacement) (page : ℕ) → IsSound r → IsPageOf r.rules r.loaded m page → IsModulePage r m page
module_page r m page sound p = record {
  its_page = p;
  approved = λ q there. sound.pages.modules m q (record { loaded_is = p.loaded_is; inside = there });
  measured = sound.modules m p.loaded_is;
  text = page_in_text r.ram (ram_offset m.gpa) (pages_in_rule (slice_get r.rules.modules m.id)) page (sound.modules m p.loaded_is).aligned p.inside;
}

origin_of : (s r : State) (page : ℕ) → IsSound s → Goes s r → IsOwned (ownership r) page → HasOrigin s r page
origin_of s r page sound goes (inl text) = inl (text_of s r page sound goes.text text)
origin_of s r page sound goes (inr of) = inr (of.0, module_page r of.0 page goes.sound of.1)

held_by : (r : State) (x : Option Loading) → IsSoundLoad r.rules r.approved r.loaded r.held x → HoldsLoad r x
held_by r None load = load
held_by r (Some load) k = k.pages

no_held : (held : List ℕ) (page : ℕ) → held ≡ [] → has_number held page ≡ true → ⊥
no_held held page none e = let k : has_number [] page ≡ true = subst (λ (list : List ℕ). has_number list page ≡ true) none e in cc

pub held_free : (r : State) (x : Option Loading) (page : ℕ) → IsSoundLoad r.rules r.approved r.loaded r.held x → has_number r.held page ≡ true → is_approved_in r.approved page ≡ false
held_free r None page load e = absurd (no_held r.held page load e)
held_free r (Some load) page k e = k.free page e

known_load : (r : State) (load : Loading) → IsSound r → r.loading ≡ Some load → load.about.id < length r.rules.modules
known_load r load sound under =
    let k : HoldsModule r.rules r.approved r.loaded r.held load = subst (IsSoundLoad r.rules r.approved r.loaded r.held) under sound.load in k.known

not_loaded : (r : State) (load : Loading) → IsSound r → r.loading ≡ Some load → find_module r.loaded load.about.id ≡ None
not_loaded r load sound under =
    let k : HoldsModule r.rules r.approved r.loaded r.held load = subst (IsSoundLoad r.rules r.approved r.loaded r.held) under sound.load in k.other

-- whose pages are, in a run from a sound state
pub has_origins : (s r : State) → IsSound s → Goes s r → HasOrigins s r
has_origins s r sound goes = record {
  rules = goes.text.rules;
  text = goes.text.text;
  origin = λ page e. origin_of s r page sound goes (goes.sound.pages.owned page e);
  held = held_by r r.loading goes.sound.load;
  text_and_module = λ m page p. goes.sound.pages.no_text m page p;
  text_and_held = λ page e. false_from_ne_true (is_kernel_text (ownership r) page)
      (λ t. both (is_approved_in r.approved page) (goes.sound.pages.text page t) (held_free r r.loading page goes.sound.load e));
  module_and_held = λ m page p. false_from_ne_true (has_number r.held page)
      (λ t. both (is_approved_in r.approved page) (goes.sound.pages.modules m page p) (held_free r r.loading page goes.sound.load t));
  two_modules = λ m n page p q. same_module r m n (goes.sound.pages.one_module m n page p q) p.loaded_is q.loaded_is;
  ascends = goes.sound.ascends;
  listed = λ i m e. all_found r.loaded i m goes.sound.ascends e;
  ids = goes.sound.pages.ids;
  id_under_way = λ load under. known_load r load goes.sound under;
  not_both = λ load under. not_loaded r load goes.sound under;
}

pub modules_law : ModulesLaw
modules_law s events is_start = let sound = begins_sound s is_start in has_origins s (run s events) sound (run_goes s events sound)
