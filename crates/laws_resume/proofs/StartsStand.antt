-- A machine before its first event stands for its start.
use Rattle.std.proofs.Common.{◌≡◌, ℕ, zero, suc, ◌+◌, ◌-◌, ◌*◌, ◌/◌, ◌≤◌, List, [], ◌∷◌, length, replicate, map, refl, sym, ◌∙◌, ap, subst, Bool, true, false, arith}
use Rattle.std.specs.Prelude.{Option, Some, None, if◌then◌else◌, is_some, IsTrue}
use Rattle.std.proofs.lemmas.List.{length-map, length-replicate}
use Rattle.sv_types.specs.Boot.{flat_ram_pages}
use Rattle.spec_processor.specs.Bytes.{with_padding, page_bytes, page_size, ram_base}
use Rattle.sv_types.specs.ApprovedPages.{approved_pages, numbers_from}
use Rattle.spec_processor.specs.HypervisorRegisters.{registers_at_boot}
use Rattle.sv_types.specs.Kernel.{header_entry, kernel_segments, segments_ram, text_pages}
use Rattle.sv_types.specs.Policies.{Rules}
use Rattle.sv_types.specs.Views.{AreViews, with_ram}
use Rattle.sv_types.specs.declared.protection.Protection.{Protection}
use Rattle.sv_types.specs.declared.protection.Protection.TheVariants.{Free, Held, Approved}
use Rattle.spec_reference.specs.Calls.{hart_at, stopped_hart}
use Rattle.spec_reference.specs.Protections.{protection_at, with_pages, with_each}
use Rattle.spec_reference.specs.Start.{IsBootable, start, flat_start, image_start, boot_start, virtio_start, block_disk, virtio_disk, flat_rules, harts_at_boot}
use Rattle.spec_reference.specs.States.{State, Disk, protection_in, protection_by, has_number, protections_of}
use Rattle.spec_reference.specs.Soundness.{IsSoundDisk}
use Rattle.spec_hardware.specs.Machine.{Machine}
use Rattle.spec_hardware.specs.Reaches.{IsNew}
use Rattle.spec_hardware.specs.StandsFor.{bound_pages, Unseen, IsRightFor, machine_of, hw_harts}
use Rattle.laws_simulation.proofs.Lookups.{approved_alone}
use Rattle.laws_simulation.proofs.StartsSound.{CanStart, start_sound, block_quiet, virtio_quiet, flat_can, image_can}
use Rattle.laws_simulation.proofs.ProtectionsChange.{each_changed, span_changed, views_from}
use Rattle.laws_resume.specs.Starts.{IsGuarded, FlatStartLaw, ImageStartLaw, VirtioStartLaw, machine_at_boot, flat_machine, image_machine}
use Rattle.laws_resume.specs.Starts.{hw_at_boot, hw_harts_at_boot, flat_protections, image_protections}
use Rattle.sv_types.proofs.PageNumbers.{numbers_length}

-- ---- harts

abbrev unseen_at_boot : List ℕ → Rules → Unseen
unseen_at_boot tables rules = record {
  tables = tables;
  exits = registers_at_boot ∷ replicate (rules.harts - 1) registers_at_boot;
  cleared = 0;
  attempts = 0;
}

stopped_hw_harts : (tables n : ℕ) → replicate n (hw_at_boot 0 false) ≡ hw_harts tables (replicate n registers_at_boot) (replicate n stopped_hart)
unfolding hw_harts stopped_hart hart_at registers_at_boot
stopped_hw_harts tables zero = refl
stopped_hw_harts tables (suc n) = ap (◌∷◌ (hw_at_boot 0 false)) (stopped_hw_harts tables n)

boot_hw_harts : (tables harts entry : ℕ)
    → hw_harts_at_boot harts entry ≡ hw_harts tables (registers_at_boot ∷ replicate (harts - 1) registers_at_boot) (harts_at_boot harts entry)
unfolding hw_harts hart_at registers_at_boot
boot_hw_harts tables harts entry = ap (◌∷◌ (hw_at_boot entry true)) (stopped_hw_harts tables (harts - 1))

-- ---- the machine of any start

boot_same : (tables : List ℕ) (rules : Rules) (ram text : List ℕ) (entry : ℕ) (disk : Disk)
    → machine_at_boot rules (with_ram tables ram) entry (protections_of (start rules ram text entry disk)) disk ≡ machine_of (unseen_at_boot tables rules) (start rules ram text entry disk)
unfolding machine_at_boot machine_of start
boot_same tables rules ram text entry disk = rw (boot_hw_harts (length tables) rules.harts entry) refl

all_pages : (r : State) → length (protections_of r) ≡ r.rules.ram_pages
all_pages r = length-map (numbers_from 0 r.rules.ram_pages) (protection_in r.approved r.held) ∙ numbers_length 0 r.rules.ram_pages

boot_views : (tables : List ℕ) (r : State) → AreViews tables (length (protections_of r)) (bound_pages r.rules) (protection_at (protections_of r)) →
    AreViews tables r.rules.ram_pages (bound_pages r.rules) (protection_in r.approved r.held)
boot_views tables r views = views_from tables r (subst (λ (n : ℕ). AreViews tables n (bound_pages r.rules) (protection_at (protections_of r))) (all_pages r) views)

boot_right : (tables : List ℕ) (rules : Rules) (ram text : List ℕ) (entry : ℕ) (disk : Disk)
    → IsGuarded (machine_at_boot rules (with_ram tables ram) entry (protections_of (start rules ram text entry disk)) disk)
    → IsRightFor (unseen_at_boot tables rules) (start rules ram text entry disk)
unfolding machine_at_boot start
boot_right tables rules ram text entry disk guarded = record {
  views = boot_views tables (start rules ram text entry disk) guarded.views;
  region = guarded.region;
  exits = ap suc (length-replicate (rules.harts - 1) registers_at_boot ∙ sym (length-replicate (rules.harts - 1) stopped_hart));
  cleared = omega arith;
}

boot_new : (tables : List ℕ) (rules : Rules) (ram text : List ℕ) (entry : ℕ) (disk : Disk) → CanStart rules ram text entry → IsSoundDisk disk
    → IsGuarded (machine_at_boot rules (with_ram tables ram) entry (protections_of (start rules ram text entry disk)) disk)
    → IsNew (machine_at_boot rules (with_ram tables ram) entry (protections_of (start rules ram text entry disk)) disk) (start rules ram text entry disk)
unfolding machine_at_boot
boot_new tables rules ram text entry disk can quiet guarded = record {
  stands = record {
    unseen = unseen_at_boot tables rules;
    same = boot_same tables rules ram text entry disk;
    unseen_is_right = boot_right tables rules ram text entry disk guarded;
    sound = start_sound rules ram text entry disk can quiet;
  };
  attempts = refl;
  cleared = refl;
}

-- with another list that is the state's
given_new : (tables : List ℕ) (rules : Rules) (ram text : List ℕ) (entry : ℕ) (disk : Disk) (protections : List Protection) → CanStart rules ram text entry → IsSoundDisk disk
    → protections_of (start rules ram text entry disk) ≡ protections → IsGuarded (machine_at_boot rules (with_ram tables ram) entry protections disk)
    → IsNew (machine_at_boot rules (with_ram tables ram) entry protections disk) (start rules ram text entry disk)
given_new tables rules ram text entry disk protections can quiet same =
    subst (λ (guard : List Protection). IsGuarded (machine_at_boot rules (with_ram tables ram) entry guard disk)
    → IsNew (machine_at_boot rules (with_ram tables ram) entry guard disk) (start rules ram text entry disk)) same
    (λ guarded. boot_new tables rules ram text entry disk can quiet guarded)

-- ---- protections

free_everywhere : (first n : ℕ) → replicate n Free ≡ map (λ (page : ℕ). Free) (numbers_from first n)
free_everywhere first zero = refl
free_everywhere first (suc n) = ap (◌∷◌ Free) (free_everywhere (first + 1) n)

each_same : (f g : ℕ → Protection) (pages : List ℕ) → ((page : ℕ) → f page ≡ g page) → map f pages ≡ map g pages
each_same f g [] same = refl
each_same f g (page ∷ pages) same = rw (same page, each_same f g pages same) refl

abbrev of_text : List ℕ → ℕ → Protection
of_text text page = if has_number text page then Approved else Free

-- the pages that are approved at boot are the text
text_protection : (ram text : List ℕ) (page : ℕ) → protection_in (approved_pages ram text) [] page ≡ of_text text page
unfolding protection_in protection_by
text_protection ram text page =
    ap (λ (found : Option (List ℕ)). protection_by (is_some found) false) (approved_alone ram text page) ∙ by_text (has_number text page) (page_bytes ram page)
  where
    by_text : (there : Bool) (bytes : List ℕ) → protection_by (is_some (if there then Some bytes else None)) false ≡ (if there then Approved else Free)
    by_text true bytes = refl
    by_text false bytes = refl

start_protections : (rules : Rules) (ram text : List ℕ) (entry : ℕ) (disk : Disk)
    → protections_of (start rules ram text entry disk) ≡ map (of_text text) (numbers_from 0 rules.ram_pages)
unfolding start
start_protections rules ram text entry disk =
    each_same (protection_in (approved_pages ram text) []) (of_text text) (numbers_from 0 rules.ram_pages) (λ page. text_protection ram text page)

-- the first pages, held and then approved
held_and_approved : (n count : ℕ) → with_pages (with_pages (replicate n Free) 0 count Held) 0 count Approved ≡ map (of_text (numbers_from 0 count)) (numbers_from 0 n)
held_and_approved n count =
    ap (λ (guard : List Protection). with_pages (with_pages guard 0 count Held) 0 count Approved) (free_everywhere 0 n)
    ∙ ap (λ (guard : List Protection). with_pages guard 0 count Approved) (span_changed (λ page. Free) Held n 0 count)
    ∙ span_changed (λ page. if has_number (numbers_from 0 count) page then Held else Free) Approved n 0 count
    ∙ each_same (λ page. if has_number (numbers_from 0 count) page then Approved else (if has_number (numbers_from 0 count) page then Held else Free))
    (of_text (numbers_from 0 count)) (numbers_from 0 n) (λ page. approved_last (has_number (numbers_from 0 count) page))
  where
    approved_last : (there : Bool) → (if there then Approved else (if there then Held else Free)) ≡ (if there then Approved else Free)
    approved_last true = refl
    approved_last false = refl

-- each page of the text
each_approved : (n : ℕ) (text : List ℕ) → with_each (replicate n Free) text Approved ≡ map (of_text text) (numbers_from 0 n)
each_approved n text =
    ap (λ (guard : List Protection). with_each guard text Approved) (free_everywhere 0 n) ∙ each_changed (λ page. Free) Approved n text

-- ---- the laws

flat_new : (tables pages digest : List ℕ) → length pages ≤ page_size * flat_ram_pages → IsGuarded (flat_machine tables pages digest)
    → IsNew (flat_machine tables pages digest) (flat_start pages digest)
unfolding flat_machine flat_start
flat_new tables pages digest fits guarded =
    given_new tables (flat_rules digest) (with_padding pages (page_size * flat_ram_pages)) (numbers_from 0 (length pages / page_size)) ram_base (block_disk []) (flat_protections pages)
    (flat_can pages digest fits) (block_quiet [])
    (start_protections (flat_rules digest) (with_padding pages (page_size * flat_ram_pages)) (numbers_from 0 (length pages / page_size)) ram_base (block_disk [])
    ∙ sym (held_and_approved flat_ram_pages (length pages / page_size))) guarded

image_new : (tables : List ℕ) (rules : Rules) (file : List ℕ) (disk : Disk)
    → CanStart rules (segments_ram (kernel_segments file) rules.ram_pages) (text_pages (kernel_segments file)) (header_entry file) → IsSoundDisk disk
    → IsGuarded (image_machine tables rules (header_entry file) (kernel_segments file) disk)
    → IsNew (image_machine tables rules (header_entry file) (kernel_segments file) disk) (image_start rules file disk)
unfolding image_machine
image_new tables rules file disk can quiet guarded =
    given_new tables rules (segments_ram (kernel_segments file) rules.ram_pages) (text_pages (kernel_segments file)) (header_entry file) disk
    (image_protections rules.ram_pages (kernel_segments file)) can quiet
    (start_protections rules (segments_ram (kernel_segments file) rules.ram_pages) (text_pages (kernel_segments file)) (header_entry file) disk
    ∙ sym (each_approved rules.ram_pages (text_pages (kernel_segments file)))) guarded

pub flat_start_law : FlatStartLaw
flat_start_law m pages digest fits guarded same =
    subst (λ (k : Machine). IsNew k (flat_start pages digest)) (sym same) (flat_new m.region.tables pages digest fits (subst IsGuarded same guarded))

-- whatever device the disk is behind
pub any_start : (m : Machine) (rules : Rules) (file : List ℕ) (disk : Disk)
    → IsBootable rules file → IsGuarded m → IsSoundDisk disk
    → m ≡ image_machine m.region.tables rules (header_entry file) (kernel_segments file) disk
    → IsNew m (image_start rules file disk)
any_start m rules file disk boots guarded quiet same =
    subst (λ (k : Machine). IsNew k (image_start rules file disk)) (sym same)
    (image_new m.region.tables rules file disk (image_can rules file boots.within boots.words boots.accepted boots.entry) quiet (subst IsGuarded same guarded))

pub image_start_law : ImageStartLaw
unfolding boot_start
image_start_law m rules file disk boots guarded same =
    any_start m rules file (block_disk disk) boots guarded (block_quiet disk) same

pub virtio_start_law : VirtioStartLaw
unfolding virtio_start
virtio_start_law m rules file disk boots guarded same =
    any_start m rules file (virtio_disk disk) boots guarded (virtio_quiet disk) same
