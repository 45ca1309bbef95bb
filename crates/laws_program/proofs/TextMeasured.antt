-- The text of a measured start has the digest that was asked for.
use Rattle.std.proofs.Common.{◌≡◌, ℕ, zero, suc, inl, inr, ◌+◌, ◌-◌, ◌*◌, ◌/◌, ◌<◌, ◌≤◌, List, [], ◌∷◌, ◌++◌, flat_map, length, map}
use Rattle.std.proofs.Common.{replicate, drop, refl, sym, ◌∙◌, ap, subst, Bool, true, false, ◌||◌, arith, drop-drop, length-append}
use Rattle.std.specs.Prelude.{◌==◌}
use Rattle.std.proofs.lemmas.List.{take_at, drop_at}
use Rattle.spec_processor.specs.Bytes.{page_bytes, page_size}
use Rattle.laws_processor.proofs.ByteLemmas.{length_part, part_in_front}
use Rattle.sv_types.specs.ApprovedPages.{numbers_from}
use Rattle.sv_types.specs.Boot.{flat_ram_pages}
use Rattle.sv_types.specs.Kernel.{kernel_segments, header_entry, segments_ram, text_pages}
use Rattle.sv_types.specs.Measure.{joined_digests, measure, page_digest, page_digests}
use Rattle.sv_types.specs.Policies.{Rules}
use Rattle.spec_reference.specs.Start.{IsStart, block_disk, virtio_disk, boot_start, virtio_start, image_start, start, flat_start}
use Rattle.spec_reference.specs.States.{State, Disk, has_number}
use Rattle.elf64_load.proofs.LoadedText.{text_in_ram}
use Rattle.laws_simulation.proofs.Lookups.{same_number}
use Rattle.laws_simulation.proofs.StartsSound.{CanStart, image_can}
use Rattle.laws_resume.proofs.WholePages.{digest_at, joined_after, whole_in}
use Rattle.laws_guarantee.specs.Reached.{HasMeasuredText}
use Rattle.laws_program.specs.Starts.{IsMeasuredImage, IsMeasuredStart, MeasuredLaw}

-- ---- an image

image_text : (rules : Rules) (file : List ℕ) (disk : Disk) → CanStart rules (segments_ram (kernel_segments file) rules.ram_pages) (text_pages (kernel_segments file)) (header_entry file)
    → measure (flat_map (page_bytes (segments_ram (kernel_segments file) rules.ram_pages)) (text_pages (kernel_segments file))) ≡ rules.kernel
    → HasMeasuredText (image_start rules file disk)
unfolding start
image_text rules file disk can measured =
    sym (joined_after (segments_ram (kernel_segments file) rules.ram_pages) (text_pages (kernel_segments file))
    (λ page there. whole_in (segments_ram (kernel_segments file) rules.ram_pages) page rules.ram_pages can.size (can.below page there)))
    ∙ measured

image_measured : {boot : Rules → (file disk : List ℕ) → State} (s : State) (disk : Disk) (k : IsMeasuredImage boot s)
    → boot k.starts.rules k.starts.file k.starts.disk ≡ image_start k.starts.rules k.starts.file disk → HasMeasuredText s
image_measured s disk k same = subst HasMeasuredText (sym (k.starts.same ∙ same))
    (image_text k.starts.rules k.starts.file disk
    (image_can k.starts.rules k.starts.file k.starts.bootable.within k.starts.bootable.words k.starts.bootable.accepted k.starts.bootable.entry)
    (ap measure (sym (text_in_ram k.starts.file k.starts.rules.ram_pages k.starts.bootable.accepted)) ∙ k.measured))

-- ---- plain pages

page_in_front : (pages more : List ℕ) (k : ℕ) → page_size * k + page_size ≤ length pages → page_bytes (pages ++ more) k ≡ page_bytes pages k
page_in_front pages more k fits = part_in_front pages more (page_size * k) page_size fits

next_page : (pages : List ℕ) (k : ℕ) → drop page_size (drop (page_size * k) pages) ≡ drop (page_size * (k + 1)) pages
next_page pages k = drop_twice (page_size * k) page_size pages ∙ ap (λ (n : ℕ). drop n pages) (step k)
  where
    drop_twice : (m n : ℕ) (xs : List ℕ) → drop n (drop m xs) ≡ drop (m + n) xs
    drop_twice m n xs = drop-drop n m xs

    step : (k : ℕ) → page_size * k + page_size ≡ page_size * (k + 1)
    step k = omega arith

front_digests : (pages more : List ℕ) (k n : ℕ) → page_size * (k + n) ≤ length pages
    → map (digest_at (pages ++ more)) (numbers_from k n) ≡ page_digests n (drop (page_size * k) pages)
front_digests pages more k zero fits = refl
front_digests pages more k (suc n) fits =
    let rest = front_digests pages more (k + 1) n (omega (arith, fits)) in
    ap (λ (d : List ℕ). d ∷ map (digest_at (pages ++ more)) (numbers_from (k + 1) n)) (ap page_digest (page_in_front pages more k (omega (arith, fits))))
    ∙ ap (◌∷◌ (digest_at pages k)) (rest ∙ ap (page_digests n) (sym (next_page pages k)))

fitting : (size : ℕ) → page_size * (0 + size / page_size) ≤ size
fitting size = omega arith

flat_text : (pages digest : List ℕ) → measure pages ≡ digest → HasMeasuredText (flat_start pages digest)
unfolding flat_start start measure
flat_text pages digest measured =
    ap joined_digests (front_digests pages (replicate (page_size * flat_ram_pages - length pages) 0) 0 (length pages / page_size) (fitting (length pages)))
    ∙ measured

-- ---- the law

text_measured : (s : State) → IsMeasuredStart s → HasMeasuredText s
unfolding boot_start virtio_start
text_measured s (inl k) = subst HasMeasuredText (sym k.starts.same) (flat_text k.starts.pages k.starts.digest k.measured)
text_measured s (inr (inl k)) = image_measured s (block_disk k.starts.disk) k refl
text_measured s (inr (inr k)) = image_measured s (virtio_disk k.starts.disk) k refl

is_start : (s : State) → IsMeasuredStart s → IsStart s
is_start s (inl k) = inl k.starts
is_start s (inr (inl k)) = inr (inl k.starts)
is_start s (inr (inr k)) = inr (inr k.starts)

pub measured_law : MeasuredLaw
measured_law = record { starts = is_start; text = text_measured }
