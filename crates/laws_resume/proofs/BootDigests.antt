-- The digests of a machine's text after its boot are those that the run keeps.
use Rattle.std.proofs.Common.{◌≡◌, ℕ, inl, inr, zero, suc, ◌+◌, ◌*◌, ◌/◌, ◌<◌, ◌≤◌, List, [], ◌∷◌, flat_map, length, map, refl, sym, ◌∙◌, ap, subst, Bool, true, ◌||◌, arith, slice_get, length-append}
use Rattle.std.specs.Prelude.{Some, None, ◌==◌}
use Rattle.std.proofs.lemmas.List.{take_at, drop_at}
use Rattle.std.proofs.lemmas.Option.{same_Some}
use Rattle.spec_processor.specs.Bytes.{page_bytes, page_size}
use Rattle.sv_types.specs.ApprovedPages.{approved_pages}
use Rattle.sv_types.specs.Kernel.{kernel_refusal, kernel_segments, header_entry, segments_ram, text_of, text_pages}
use Rattle.sv_types.specs.Measure.{digests_of, joined_digests, measure, page_digest, page_digests}
use Rattle.sv_types.specs.Policies.{Rules}
use Rattle.spec_reference.specs.Protections.{protection_at}
use Rattle.spec_reference.specs.Soundness.{IsSound}
use Rattle.spec_reference.specs.Start.{IsStart, block_disk, boot_start, image_start, start, virtio_disk, virtio_start}
use Rattle.spec_reference.specs.States.{State, Disk, has_number, is_approved_in, protection_in, protections_of}
use Rattle.snapshot_format.specs.declared.whole.TextPage.{TextPage}
use Rattle.laws_processor.proofs.ByteLemmas.{length_part}
use Rattle.elf64_load.proofs.LoadedText.{text_in_ram}
use Rattle.laws_simulation.proofs.ProtectionsChange.{at_page}
use Rattle.laws_resume.specs.Keepable.{AscendFrom}
use Rattle.laws_resume.specs.Resumed.{KeepsDigests}
use Rattle.laws_resume.proofs.KeepableStarts.{text_pages_ascend}
use Rattle.laws_resume.proofs.ResumedPages.{approved_is}
use Rattle.laws_resume.proofs.TakenPages.{AllBelow}
use Rattle.laws_resume.proofs.WholePages.{AreWhole, digest_at, digests_after, joined_after, listed_after, whole_in}
use Rattle.laws_simulation.proofs.StateLawsHold.{reached_sound}
use Rattle.laws_simulation.proofs.Lookups.{same_number, length_pages}
use Rattle.laws_resume.specs.SnapLaws.{Boot, BootDigestsLaw, IsMeasuredBoot}
use Rattle.sv_types.specs.Protections.{is_approved}
use Rattle.laws_resume.specs.TextPages.{approved_among, digest_in, digested_text, text_in}
use Rattle.laws_resume.proofs.Ascending.{picked, picked_same}
use Rattle.laws_simulation.proofs.ModulesMirrored.{approved_by}

-- ---- the list of a machine's text

numbers_back : (ram pages : List ℕ) → map (λ (t : TextPage). t.page) (map (digest_in ram) pages) ≡ pages
numbers_back ram [] = refl
numbers_back ram (page ∷ pages) = ap (◌∷◌ page) (numbers_back ram pages)

digests_back : (ram pages : List ℕ) → map (λ (t : TextPage). t.digest) (map (digest_in ram) pages) ≡ map (digest_at ram) pages
digests_back ram [] = refl
digests_back ram (page ∷ pages) = ap (◌∷◌ (digest_at ram page)) (digests_back ram pages)

digest_is : (ram pages : List ℕ) (i : ℕ) (t : TextPage) → slice_get (map (digest_in ram) pages) i ≡ Some t → digest_at ram t.page ≡ t.digest
digest_is ram [] i t at = cc
digest_is ram (page ∷ pages) zero t at = subst (λ (x : TextPage). digest_at ram x.page ≡ x.digest) (same_Some (digest_in ram page) t at) refl
digest_is ram (page ∷ pages) (suc i) t at = digest_is ram pages i t at

-- ---- a start with its text approved

picks_text : (rules : Rules) (ram text : List ℕ) (entry : ℕ) (disk : Disk) (page : ℕ) → page < rules.ram_pages
    → is_approved (protection_at (protections_of (start rules ram text entry disk)) page) ≡ has_number text page
unfolding start protection_in
picks_text rules ram text entry disk page below =
    ap is_approved (at_page (start rules ram text entry disk) page below)
    ∙ approved_by (is_approved_in (approved_pages ram text) page) (has_number [] page)
    ∙ approved_is ram text page

text_is : (rules : Rules) (ram text : List ℕ) (entry : ℕ) (disk : Disk) → AscendFrom 0 text → AllBelow rules.ram_pages text
    → approved_among (protections_of (start rules ram text entry disk)) (length (protections_of (start rules ram text entry disk))) ≡ text
unfolding start
text_is rules ram text entry disk up inside =
    let r : State = start rules ram text entry disk in
    ap (approved_among (protections_of r)) (length_pages (protection_in r.approved r.held) 0 rules.ram_pages)
    ∙ picked_same (λ page. is_approved (protection_at (protections_of r) page)) (has_number text) 0 rules.ram_pages
    (λ page low high. picks_text rules ram text entry disk page (plain page rules.ram_pages high))
    ∙ picked 0 rules.ram_pages text up (λ page there. from_none page rules.ram_pages (inside page there))
  where
    plain : (page pages : ℕ) → page < 0 + pages → page < pages
    plain page pages less = omega (arith, less)

    from_none : (page pages : ℕ) → page < pages → page < 0 + pages
    from_none page pages less = omega (arith, less)

text_inside : (rules : Rules) (ram text : List ℕ) (entry : ℕ) (disk : Disk) → IsSound (start rules ram text entry disk) → AllBelow rules.ram_pages text
unfolding start
text_inside rules ram text entry disk sound page there = sound.pages.inside page (approved_is ram text page ∙ there)

ram_size : (rules : Rules) (ram text : List ℕ) (entry : ℕ) (disk : Disk) → IsSound (start rules ram text entry disk) → length ram ≡ page_size * rules.ram_pages
unfolding start
ram_size rules ram text entry disk sound = sound.size

digested_is : (rules : Rules) (ram text : List ℕ) (entry : ℕ) (disk : Disk) → AscendFrom 0 text → AllBelow rules.ram_pages text
    → digested_text (start rules ram text entry disk) ≡ map (digest_in ram) text
unfolding text_in start
digested_is rules ram text entry disk up inside = ap (map (digest_in ram)) (text_is rules ram text entry disk up inside)

start_digests : (rules : Rules) (ram text : List ℕ) (entry : ℕ) (disk : Disk) → AscendFrom 0 text
    → measure (flat_map (page_bytes ram) text) ≡ rules.kernel → IsSound (start rules ram text entry disk)
    → KeepsDigests (start rules ram text entry disk) (map (digest_in ram) text)
unfolding start
start_digests rules ram text entry disk up kernel sound = record {
  pages = numbers_back ram text;
  each = λ i t at kept. digest_is ram text i t at;
  joined = ap joined_digests (digests_back ram text)
      ∙ sym (joined_after ram text (λ page there. whole_in ram page rules.ram_pages (ram_size rules ram text entry disk sound) (text_inside rules ram text entry disk sound page there)))
      ∙ kernel;
}

of_start : (rules : Rules) (ram text : List ℕ) (entry : ℕ) (disk : Disk) → AscendFrom 0 text
    → measure (flat_map (page_bytes ram) text) ≡ rules.kernel → IsSound (start rules ram text entry disk)
    → KeepsDigests (start rules ram text entry disk) (digested_text (start rules ram text entry disk))
of_start rules ram text entry disk up kernel sound =
    subst (KeepsDigests (start rules ram text entry disk)) (sym (digested_is rules ram text entry disk up (text_inside rules ram text entry disk sound)))
    (start_digests rules ram text entry disk up kernel sound)

-- ---- the laws

digests_of_image : (rules : Rules) (file : List ℕ) (disk : Disk) → IsMeasuredBoot rules file → IsSound (image_start rules file disk)
    → KeepsDigests (image_start rules file disk) (digested_text (image_start rules file disk))
digests_of_image rules file disk k sound =
    of_start rules (segments_ram (kernel_segments file) rules.ram_pages) (text_pages (kernel_segments file)) (header_entry file) disk
    (text_pages_ascend (kernel_segments file)) (ap measure (sym (text_in_ram file rules.ram_pages k.bootable.accepted)) ∙ k.measured) sound

rules_of_image : (rules : Rules) (file : List ℕ) (disk : Disk) → (image_start rules file disk).rules ≡ rules
unfolding start
rules_of_image rules file disk = refl

-- those of a boot's measure are those of the text of its start
pub image_digests : (rules : Rules) (file : List ℕ) (disk : Disk) → kernel_refusal file rules.ram_pages ≡ None → IsSound (image_start rules file disk)
    → digests_of (text_of (kernel_segments file)) ≡ map (λ (t : TextPage). t.digest) (digested_text (image_start rules file disk))
image_digests rules file disk accepted sound =
    let ram = segments_ram (kernel_segments file) rules.ram_pages in
    let text = text_pages (kernel_segments file) in
    let inside = text_inside rules ram text (header_entry file) disk sound in
    ap digests_of (text_in_ram file rules.ram_pages accepted)
    ∙ listed_after ram text (λ page there. whole_in ram page rules.ram_pages (ram_size rules ram text (header_entry file) disk sound) (inside page there))
    ∙ sym (digests_back ram text)
    ∙ ap (map (λ (t : TextPage). t.digest)) (sym (digested_is rules ram text (header_entry file) disk (text_pages_ascend (kernel_segments file)) inside))

-- a run begins with it
pub record IsBoot (boot : Boot) : Type 0 where
  pub starts : (rules : Rules) (file disk : List ℕ) → IsMeasuredBoot rules file → IsStart (boot rules file disk)
  pub rules : (rules : Rules) (file disk : List ℕ) → (boot rules file disk).rules ≡ rules
  pub digests : BootDigestsLaw boot

block_starts : (rules : Rules) (file disk : List ℕ) → IsMeasuredBoot rules file → IsStart (boot_start rules file disk)
block_starts rules file disk k = inr (inl (record {
  rules = rules;
  file = file;
  disk = disk;
  bootable = k.bootable;
  same = refl;
}))

virtio_starts : (rules : Rules) (file disk : List ℕ) → IsMeasuredBoot rules file → IsStart (virtio_start rules file disk)
virtio_starts rules file disk k = inr (inr (record {
  rules = rules;
  file = file;
  disk = disk;
  bootable = k.bootable;
  same = refl;
}))

block_rules : (rules : Rules) (file disk : List ℕ) → (boot_start rules file disk).rules ≡ rules
unfolding boot_start
block_rules rules file disk = rules_of_image rules file (block_disk disk)

virtio_rules : (rules : Rules) (file disk : List ℕ) → (virtio_start rules file disk).rules ≡ rules
unfolding virtio_start
virtio_rules rules file disk = rules_of_image rules file (virtio_disk disk)

block_digests : (rules : Rules) (file disk : List ℕ) → IsMeasuredBoot rules file → IsSound (boot_start rules file disk)
    → KeepsDigests (boot_start rules file disk) (digested_text (boot_start rules file disk))
unfolding boot_start
block_digests rules file disk k sound = digests_of_image rules file (block_disk disk) k sound

virtio_digests : (rules : Rules) (file disk : List ℕ) → IsMeasuredBoot rules file → IsSound (virtio_start rules file disk)
    → KeepsDigests (virtio_start rules file disk) (digested_text (virtio_start rules file disk))
unfolding virtio_start
virtio_digests rules file disk k sound = digests_of_image rules file (virtio_disk disk) k sound

pub block_boot : IsBoot boot_start
block_boot = record {
  starts = block_starts;
  rules = block_rules;
  digests = λ rules file disk k. block_digests rules file disk k (reached_sound (boot_start rules file disk) [] (block_starts rules file disk k));
}

pub virtio_boot : IsBoot virtio_start
virtio_boot = record {
  starts = virtio_starts;
  rules = virtio_rules;
  digests = λ rules file disk k. virtio_digests rules file disk k (reached_sound (virtio_start rules file disk) [] (virtio_starts rules file disk k));
}
