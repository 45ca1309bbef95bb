-- A kernel's image before the first event.
use Rattle.std.proofs.Common.{get_or, ◌==◌, ◌^◌, ◌<◌, inl, inr, ◌≡◌, ℕ, suc, ◌%◌, ◌≤◌, true, IsTrue, List, [], ◌∷◌, length, take, refl, sym, ◌∙◌, ap, arith, subst, length-append, length-take}
use Rattle.spec_processor.specs.Bytes.{page_size}
use Rattle.std.specs.Prelude.{Option, Some, None, find, flat_map}
use Rattle.std.proofs.lemmas.Bool.Decides.{nat_tests}
use Rattle.std.proofs.lemmas.Bool.{cases_Bool}
use Rattle.elf64_load.specs.Images.{segments_of}
use Rattle.elf64_load.specs.declared.image.KernelImage.{KernelImage}
use Rattle.spec_hardware.specs.Machine.{Machine}
use Rattle.spec_hardware.specs.Reaches.{IsNew}
use Rattle.spec_reference.specs.Start.{AreWords, image_start}
use Rattle.spec_reference.specs.Soundness.{IsSoundDisk}
use Rattle.spec_reference.specs.States.{Disk, has_number}
use Rattle.sv_types.specs.ApprovedPages.{numbers_from}
use Rattle.sv_types.specs.Kernel.{LoadedSegment, filled_part, header_entry, is_text_of, segments_ram, text_page, text_page_in, text_of}
use Rattle.sv_types.specs.Policies.{Rules, rules_within}
use Rattle.spec_processor.specs.Regions.{Region, max_ram_pages}
use Rattle.laws_processor.proofs.ByteLemmas.{length_padded}
use Rattle.sv_types.specs.Views.{with_ram}
use Rattle.sv_types.specs.declared.protection.Protection.{Protection}
use Rattle.laws_resume.proofs.StartsStand.{any_start}
use Rattle.laws_resume.specs.Starts.{machine_at_boot, image_machine, image_protections, IsGuarded}
use Rattle.machine.specs.Boot.{IsImageOf, RefusesFlat, RefusesImage}
use Rattle.machine.specs.declared.boot.BootRefusal.{BootRefusal}
use Rattle.machine.specs.declared.boot.BootRefusal.TheVariants.{Measure, Entry, Memory}

-- ---- the text is of whole pages

short_take : (n : ℕ) (bytes : List ℕ) → length (take n bytes) ≤ n
short_take n bytes = simp length-take (omega arith)

page_whole : (page : ℕ) (o : Option LoadedSegment) → length (text_page_in page o) % page_size ≡ 0
page_whole page None = refl
page_whole page (Some s) = ap (λ (n : ℕ). n % page_size) (length_padded (filled_part page s) page_size (short_take page_size _))

pages_whole : (ss : List LoadedSegment) (pages : List ℕ) → length (flat_map (text_page ss) pages) % page_size ≡ 0
pages_whole ss [] = refl
pages_whole ss (page ∷ pages) =
    let both = length-append (text_page ss page) (flat_map (text_page ss) pages) in
    let first = page_whole page (find (is_text_of page) ss) in
    let rest = pages_whole ss pages in
    omega (arith, both, first, rest)

pub text_whole : (image : KernelImage) (text : List ℕ) → text ≡ text_of (segments_of image) → length text % page_size ≡ 0
unfolding text_of
text_whole image text is = ap (λ (text : List ℕ). length text % page_size) is ∙ pages_whole (segments_of image) (numbers_from 0 max_ram_pages)

-- ---- refusals

pub image_refused : (image : KernelImage) (rules : Rules) (text : List ℕ) (e : BootRefusal) → text ≡ text_of (segments_of image) → RefusesFlat text rules.kernel e → RefusesImage image rules e
image_refused image rules text (Measure found asked) is refused = subst (λ (text : List ℕ). RefusesFlat text rules.kernel (Measure found asked)) is refused
image_refused image rules text (Entry entry) is refused = absurd refused
image_refused image rules text Memory is refused = refused

-- ---- limits

word_at : (entries : List ℕ) (entry : ℕ) → ((i : ℕ) → get_or entries i 0 < 2 ^ 64) → has_number entries entry ≡ true → entry < 2 ^ 64
word_at [] entry fits there = absurd (cc there)
word_at (x ∷ entries) entry fits there = elim (cases_Bool (x == entry)) [
  | inl same ↦ let first = fits 0 in grind (arith, nat_tests)
  | inr other ↦ word_at entries entry (λ i. fits (suc i)) (grind (arith, nat_tests))
]

-- numbers of 64 bits
pub are_words : (entries : List ℕ) → ((i : ℕ) → get_or entries i 0 < 2 ^ 64) → AreWords entries
are_words entries fits = λ entry there. word_at entries entry fits there

-- ---- the machine

pub image_made : (m : Machine) (rules : Rules) (entry : ℕ) (segments : List LoadedSegment) (region : Region) (guard : List Protection) (disk : Disk)
    → m ≡ machine_at_boot rules region entry guard disk → region.ram ≡ segments_ram segments rules.ram_pages
    → guard ≡ image_protections rules.ram_pages segments → m ≡ image_machine m.region.tables rules entry segments disk
unfolding machine_at_boot image_machine
image_made m rules entry segments region guard disk made ram approved =
    made
    ∙ ap (λ (ram : List ℕ). machine_at_boot rules (with_ram region.tables ram) entry guard disk) ram
    ∙ ap (λ (guard : List Protection). machine_at_boot rules (with_ram region.tables (segments_ram segments rules.ram_pages)) entry guard disk) approved
    ∙ ap (λ (tables : List ℕ). image_machine tables rules entry segments disk) (sym (ap (λ (m : Machine). m.region.tables) made))

-- it stands for the start of the image's file
pub image_new : (m : Machine) (rules : Rules) (image : KernelImage) (file : List ℕ) (disk : Disk) → IsTrue (rules_within rules) → AreWords rules.entries
    → has_number rules.entries image.entry ≡ true → IsGuarded m → IsSoundDisk disk → m ≡ image_machine m.region.tables rules image.entry (segments_of image) disk
    → IsImageOf file rules.ram_pages image → IsNew m (image_start rules file disk)
image_new m rules image file disk within words permitted guarded quiet made is =
    any_start m rules file disk
    (record { within = within; words = words; accepted = is.accepted; entry = ap (has_number rules.entries) (sym is.entry) ∙ permitted }) guarded quiet
    (made
    ∙ ap (λ (entry : ℕ). image_machine m.region.tables rules entry (segments_of image) disk) is.entry
    ∙ ap (λ (segments : List LoadedSegment). image_machine m.region.tables rules (header_entry file) segments disk) is.segments)
