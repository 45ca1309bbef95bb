-- Each start can be saved.
use Rattle.std.proofs.Common.{◌≡◌, ℕ, zero, suc, ◌+◌, ◌-◌, ◌*◌, ◌/◌, ◌<◌, ◌≤◌, inl, inr, List, [], ◌∷◌, filter, length, refl, sym, ◌∙◌, subst, Bool, true, false, arith, replicate}
use Rattle.std.specs.Prelude.{if◌then◌else◌, slice_index}
use Rattle.std.specs.List.{list_any}
use Rattle.spec_processor.specs.Bytes.{with_padding, page_size, ram_base}
use Rattle.spec_processor.specs.Regions.{max_ram_pages}
use Rattle.sv_types.specs.ApprovedPages.{numbers_from}
use Rattle.sv_types.specs.Boot.{flat_ram_pages}
use Rattle.sv_types.specs.Clock.{latest}
use Rattle.sv_types.specs.Kernel.{LoadedSegment, header_entry, is_text_of, kernel_segments, segments_ram, text_pages}
use Rattle.sv_types.specs.Policies.{Rules}
use Rattle.spec_reference.specs.Calls.{hart_at, stopped_hart}
use Rattle.spec_reference.specs.Start.{IsStart, StartsFlat, StartsBy, start, flat_rules, flat_start, image_start, boot_start, virtio_start, block_disk, virtio_disk, harts_at_boot}
use Rattle.spec_reference.specs.States.{State, Disk}
use Rattle.laws_simulation.proofs.StartsSound.{CanStart, flat_can, image_can}
use Rattle.laws_simulation.proofs.StateLawsHold.{reached_sound}
use Rattle.laws_resume.specs.Keepable.{ram_size, AreKeepable, AscendFrom, IsKeepable, KeepableLaw}
use Rattle.laws_resume.proofs.KeepableSteps.{keeps_law}

stopped_kept : (size n : ℕ) → AreKeepable size (replicate n stopped_hart)
unfolding stopped_hart hart_at
stopped_kept size zero = tt
stopped_kept size (suc n) = (record { zero = refl; reservation = tt }, stopped_kept size n)

harts_kept : (size harts entry : ℕ) → AreKeepable size (harts_at_boot harts entry)
unfolding hart_at
harts_kept size harts entry = (record { zero = refl; reservation = tt }, stopped_kept size (harts - 1))

pub never : (n h : ℕ) → h < n → slice_index (replicate n latest) h ≡ latest
never zero h few = absurd (omega (arith, few))
never (suc n) zero few = refl
never (suc n) (suc h) few = never n h (omega (arith, few))

start_keeps : (rules : Rules) (ram text : List ℕ) (entry : ℕ) (disk : Disk) → CanStart rules ram text entry → AscendFrom 0 text → IsKeepable (start rules ram text entry disk)
unfolding start
start_keeps rules ram text entry disk can up = record {
  harts = harts_kept (ram_size rules) rules.harts entry;
  journal = record { number = refl; each = tt; last = tt };
  clock = record { four = refl; unset = λ h past few. never 4 h few };
  console = omega arith;
  modules = tt;
  load = tt;
  text = record { ascends = up; inside = can.below };
}

-- ---- text

ascend_on : (first next : ℕ) (pages : List ℕ) → first ≤ next → AscendFrom next pages → AscendFrom first pages
ascend_on first next [] less up = tt
ascend_on first next (page ∷ pages) less up = (omega (arith, less, up.0), up.1)

pub numbers_ascend : (first n : ℕ) → AscendFrom first (numbers_from first n)
numbers_ascend first zero = tt
numbers_ascend first (suc n) = (omega arith, numbers_ascend (first + 1) n)

one_ascends : (first page : ℕ) (b : Bool) (pages : List ℕ) → first ≤ page → AscendFrom (page + 1) pages → AscendFrom first (if b then page ∷ pages else pages)
one_ascends first page true pages less up = (less, up)
one_ascends first page false pages less up = ascend_on first (page + 1) pages (omega (arith, less)) up

pub filter_ascends : (f : ℕ → Bool) (first : ℕ) (pages : List ℕ) → AscendFrom first pages → AscendFrom first (filter f pages)
filter_ascends f first [] up = tt
filter_ascends f first (page ∷ pages) up = one_ascends first page (f page) (filter f pages) up.0 (filter_ascends f (page + 1) pages up.1)

pub text_pages_ascend : (segments : List LoadedSegment) → AscendFrom 0 (text_pages segments)
unfolding text_pages
text_pages_ascend segments = filter_ascends (λ page. list_any (is_text_of page) segments) 0 (numbers_from 0 max_ram_pages) (numbers_ascend 0 max_ram_pages)

-- ---- each start

flat_keeps : (s : State) → StartsFlat s → IsKeepable s
unfolding flat_start
flat_keeps s k = subst IsKeepable (sym k.same)
    (start_keeps (flat_rules k.digest) (with_padding k.pages (page_size * flat_ram_pages)) (numbers_from 0 (length k.pages / page_size)) ram_base (block_disk [])
    (flat_can k.pages k.digest k.fits) (numbers_ascend 0 (length k.pages / page_size)))

image_keeps : {boot : Rules → (file disk : List ℕ) → State} (s : State) (disk : Disk) (k : StartsBy boot s) → boot k.rules k.file k.disk ≡ image_start k.rules k.file disk → IsKeepable s
image_keeps s disk k same = subst IsKeepable (sym (k.same ∙ same))
    (start_keeps k.rules (segments_ram (kernel_segments k.file) k.rules.ram_pages) (text_pages (kernel_segments k.file)) (header_entry k.file) disk
    (image_can k.rules k.file k.bootable.within k.bootable.words k.bootable.accepted k.bootable.entry) (text_pages_ascend (kernel_segments k.file)))

begins : (s : State) → IsStart s → IsKeepable s
unfolding boot_start virtio_start
begins s (inl flat) = flat_keeps s flat
begins s (inr (inl k)) = image_keeps s (block_disk k.disk) k refl
begins s (inr (inr k)) = image_keeps s (virtio_disk k.disk) k refl

pub keepable_law : KeepableLaw
keepable_law s events is_start = keeps_law s events (reached_sound s [] is_start) (begins s is_start)
