-- A start is sound.
use Rattle.std.proofs.Common.{◌≡◌, ℕ, zero, suc, ◌+◌, ◌-◌, ◌*◌, ◌/◌, ◌%◌, ◌^◌, ◌<◌, ◌≤◌, inl, inr, List, [], ◌∷◌, length, replicate, map}
use Rattle.std.proofs.Common.{flat_map, fold, refl, sym, ◌∙◌, ap, subst, Bool, true, false, ◌&&◌, ◌||◌, arith, lit<, slice_get}
use Rattle.std.specs.Prelude.{Some, None, if◌then◌else◌, is_some, ◌==◌, nat_le, nat_lt, IsTrue}
use Rattle.std.specs.List.{list_any}
use Rattle.std.proofs.lemmas.Bool.{eqb-true, and_from, cases_Bool}
use Rattle.std.proofs.lemmas.Bool.Decides.{nat_tests}
use Rattle.std.proofs.lemmas.List.{length-replicate}
use Rattle.sv_types.specs.Boot.{flat_ram_pages}
use Rattle.spec_processor.specs.Bytes.{part, with_padding, page_bytes, page_size, page_of, ram_base, ram_offset}
use Rattle.sv_types.specs.Kernel.{first_refusal, header_entry, segment_checks, kernel_refusal, kernel_segments, loaded_headers}
use Rattle.sv_types.specs.Kernel.{loaded_segment, is_executable, is_text_of, segments_ram, text_pages, with_segment}
use Rattle.sv_types.specs.Policies.{Rules, rules_within}
use Rattle.sv_types.specs.ApprovedPages.{approved_bytes, approved_pages, numbers_from}
use Rattle.spec_processor.specs.Regions.{max_ram_pages}
use Rattle.sv_types.specs.declared.kernel.ProgramHeader.{ProgramHeader}
use Rattle.laws_processor.proofs.ByteLemmas.{length_overwrite, length_padded}
use Rattle.sv_types.specs.declared.saved.ModulePlacement.{ModulePlacement}
use Rattle.spec_reference.specs.States.{Disk, has_number, is_approved_in, find_module}
use Rattle.spec_reference.specs.Calls.{hart_at, stopped_hart, integer_registers_at_boot}
use Rattle.spec_reference.specs.Start.{start, harts_at_boot, flat_rules, block_disk, virtio_disk, AreWords}
use Rattle.spec_reference.specs.VirtioStores.{reset}
use Rattle.spec_reference.specs.Soundness.{IsSound, IsSoundHart, IsSoundDisk}
use Rattle.laws_simulation.proofs.HartsSound.{begin_sound, stopped_sound, entry_aligned}
use Rattle.laws_simulation.proofs.Lookups.{numbers_bounds, number_filtered, approved_alone, part_short}
use Rattle.laws_simulation.proofs.Sounds.{AreSound}
use Rattle.sv_types.proofs.TruthValues.{and_first, and_second}
use Rattle.sv_types.proofs.FileChecks.{first_passed, rest_passed, accepted_headers, Passed, segment_passed}
use Rattle.sv_types.proofs.PolicyLimits.{some_hart}

-- what is known of a start
pub record CanStart (rules : Rules) (ram text : List ℕ) (entry : ℕ) : Type 0 where
  pub within : IsTrue (rules_within rules)
  pub words : AreWords rules.entries
  pub size : length ram ≡ page_size * rules.ram_pages
  pub below : (page : ℕ) → has_number text page ≡ true → page < rules.ram_pages
  pub aligned : entry % 4 ≡ 0
  pub small : entry < 2 ^ 64

-- ---- harts

get_same : {A : Type 0} (x y : A) (n k : ℕ) → slice_get (replicate n x) k ≡ Some y → x ≡ y
get_same x y zero k e = cc
get_same x y (suc n) zero e = cc
get_same x y (suc n) (suc k) e = get_same x y n k e

boot_harts : {rules : Rules} (harts entry : ℕ) → entry % 4 ≡ 0 → entry < 2 ^ 64 → AreSound rules (harts_at_boot harts entry)
boot_harts harts entry aligned small zero hart e =
    let same : hart_at entry integer_registers_at_boot ≡ hart = cc in subst (IsSoundHart _) same (begin_sound entry integer_registers_at_boot aligned small)
boot_harts harts entry aligned small (suc k) hart e = subst (IsSoundHart _) (get_same stopped_hart hart (harts - 1) k e) stopped_sound

count_harts : (harts entry : ℕ) → 1 ≤ harts → length (harts_at_boot harts entry) ≡ harts
count_harts harts entry some =
    let e : length (replicate (harts - 1) stopped_hart) ≡ harts - 1 = length-replicate (harts - 1) stopped_hart in rw e (omega arith)

-- ---- pages

text_case : (ram text : List ℕ) (page : ℕ) (b : Bool) → has_number text page ≡ b → approved_bytes (approved_pages ram text) page ≡ (if b then Some (page_bytes ram page) else None)
text_case ram text page b e = approved_alone ram text page ∙ ap (λ (c : Bool). if c then Some (page_bytes ram page) else None) e

was_approved : (ram text : List ℕ) (page : ℕ) → is_approved_in (approved_pages ram text) page ≡ true → has_number text page ≡ true
was_approved ram text page e = elim (cases_Bool (has_number text page)) [
  | inl there ↦ there
  | inr gone ↦ let none : false ≡ true = sym (ap is_some (text_case ram text page false gone)) ∙ e in absurd (cc)
]

text_kept : (ram text : List ℕ) (page : ℕ) (bytes : List ℕ) → approved_bytes (approved_pages ram text) page ≡ Some bytes → page_bytes ram page ≡ bytes
text_kept ram text page bytes e = elim (cases_Bool (has_number text page)) [
  | inl there ↦ let now : Some (page_bytes ram page) ≡ Some bytes = sym (text_case ram text page true there) ∙ e in cc
  | inr gone ↦ let now : None ≡ Some bytes = sym (text_case ram text page false gone) ∙ e in absurd (cc)
]

none_found : (id : ℕ) (m : ModulePlacement) → find_module [] id ≡ Some m → ⊥
unfolding find_module
none_found id m e = cc

pub start_sound : (rules : Rules) (ram text : List ℕ) (entry : ℕ) (disk : Disk) → CanStart rules ram text entry → IsSoundDisk disk → IsSound (start rules ram text entry disk)
unfolding start
start_sound rules ram text entry disk can quiet = record {
  within = can.within;
  words = can.words;
  number = count_harts rules.harts entry (some_hart rules can.within);
  harts = λ k hart e. boot_harts rules.harts entry can.aligned can.small k hart e;
  size = can.size;
  text = record { same = λ page bytes e. text_kept ram text page bytes e };
  ascends = tt;
  modules = λ m e. absurd (none_found m.id m e);
  load = refl;
  pages = record {
    owned = λ page e. inl (and_from (has_number text page) true (was_approved ram text page e) refl);
    text = λ page e. ap is_some (text_case ram text page true (and_first (has_number text page) true e));
    modules = λ m page p. absurd (none_found m.id m p.loaded_is);
    no_text = λ m page p. absurd (none_found m.id m p.loaded_is);
    one_module = λ m n page p q. absurd (none_found m.id m p.loaded_is);
    inside = λ page e. can.below page (was_approved ram text page e);
    ids = λ m e. absurd (none_found m.id m e);
  };
  disk = quiet;
}

-- the disk of a start is sound, whatever its device
pub block_quiet : (bytes : List ℕ) → IsSoundDisk (block_disk bytes)
block_quiet bytes busy = refl

pub virtio_quiet : (bytes : List ℕ) → IsSoundDisk (virtio_disk bytes)
unfolding reset
virtio_quiet bytes = record { aligned = λ ready. cc; moves = tt }

-- ---- plain pages

flat_words : (digest : List ℕ) → AreWords (flat_rules digest).entries
flat_words digest entry e = words_by entry (ram_base == entry) (0x80000100 == entry) refl refl e
  where
    words_by : (entry : ℕ) (a b : Bool) → (ram_base == entry) ≡ a → (0x80000100 == entry) ≡ b → (a || (b || false)) ≡ true → entry < 2 ^ 64
    words_by entry true b first second e = let same : ram_base ≡ entry = eqb-true ram_base entry first in omega arith
    words_by entry false true first second e = let same : 0x80000100 ≡ entry = eqb-true 0x80000100 entry second in omega arith
    words_by entry false false first second e = cc

pub flat_can : (pages digest : List ℕ) → length pages ≤ page_size * flat_ram_pages
    → CanStart (flat_rules digest) (with_padding pages (page_size * flat_ram_pages)) (numbers_from 0 (length pages / page_size)) ram_base
flat_can pages digest fits = record {
  within = refl;
  words = flat_words digest;
  size = length_padded pages (page_size * flat_ram_pages) fits;
  below = λ page e. page_below (length pages) page fits (numbers_bounds 0 (length pages / page_size) page e).1;
  aligned = refl;
  small = lit< tt;
}
  where
    page_below : (n page : ℕ) → n ≤ page_size * flat_ram_pages → page < 0 + n / page_size → page < flat_ram_pages
    page_below n page fits e = omega arith

-- ---- images

segment_fits : (file ram : List ℕ) (ram_pages : ℕ) (h : ProgramHeader) → Passed (length file) ram_pages h → length ram ≡ page_size * ram_pages
    → length (with_segment ram (loaded_segment file h)) ≡ page_size * ram_pages
segment_fits file ram ram_pages h good size =
    let small : length (part file h.offset h.file_size) ≤ h.memory_size = grind (arith, nat_tests, part_short file h.offset h.file_size, good.short) in
    let whole : length (with_padding (part file h.offset h.file_size) h.memory_size) ≡ h.memory_size = length_padded (part file h.offset h.file_size) h.memory_size small in
    let inside : ram_offset h.gpa + h.memory_size ≤ length ram = grind (arith, nat_tests, good.in_ram) in
    length_overwrite ram (with_padding (part file h.offset h.file_size) h.memory_size) (ram_offset h.gpa) (rw whole inside) ∙ size

segments_fit : (file ram : List ℕ) (ram_pages : ℕ) (hs : List ProgramHeader) → first_refusal (flat_map (segment_checks (length file) ram_pages) hs) ≡ None
    → length ram ≡ page_size * ram_pages → length (fold with_segment ram (map (loaded_segment file) hs)) ≡ page_size * ram_pages
segments_fit file ram ram_pages [] none size = size
segments_fit file ram ram_pages (h ∷ hs) none size =
    segments_fit file (with_segment ram (loaded_segment file h)) ram_pages hs (rest_passed (segment_checks (length file) ram_pages h) _ none)
    (segment_fits file ram ram_pages h (segment_passed (length file) ram_pages h (first_passed (segment_checks (length file) ram_pages h) _ none)) size)

image_size : (file : List ℕ) (ram_pages : ℕ) → kernel_refusal file ram_pages ≡ None → length (segments_ram (kernel_segments file) ram_pages) ≡ page_size * ram_pages
unfolding segments_ram kernel_segments
image_size file ram_pages none =
    segments_fit file (replicate (page_size * ram_pages) 0) ram_pages (loaded_headers file) (accepted_headers file ram_pages none) (length-replicate (page_size * ram_pages) 0)

text_page_below : (ram_pages page : ℕ) (file : List ℕ) (h : ProgramHeader) → Passed (length file) ram_pages h → is_text_of page (loaded_segment file h) ≡ true → page < ram_pages
text_page_below ram_pages page file h good e =
    let there : (nat_le (page_of h.gpa) page && nat_lt (page_size * page) (ram_offset h.gpa + h.memory_size)) ≡ true =
    and_second (is_executable h) (nat_le (page_of h.gpa) page && nat_lt (page_size * page) (ram_offset h.gpa + h.memory_size)) e in
    let inside : (nat_le ram_base h.gpa && nat_le (ram_offset h.gpa + h.memory_size) (page_size * ram_pages)) ≡ true = good.in_ram in
    grind (arith, nat_tests)

some_text : (file : List ℕ) (ram_pages page : ℕ) (hs : List ProgramHeader) → first_refusal (flat_map (segment_checks (length file) ram_pages) hs) ≡ None
    → list_any (is_text_of page) (map (loaded_segment file) hs) ≡ true → page < ram_pages
some_text file ram_pages page [] none e = cc
some_text file ram_pages page (h ∷ hs) none e =
    text_by ram_pages page file h (segment_passed (length file) ram_pages h (first_passed (segment_checks (length file) ram_pages h) _ none))
    (is_text_of page (loaded_segment file h)) (list_any (is_text_of page) (map (loaded_segment file) hs)) refl e
    (some_text file ram_pages page hs (rest_passed (segment_checks (length file) ram_pages h) _ none))
  where
    text_by : (ram_pages page : ℕ) (file : List ℕ) (h : ProgramHeader) → Passed (length file) ram_pages h → (b rest : Bool) → is_text_of page (loaded_segment file h) ≡ b → (b || rest) ≡ true
        → (rest ≡ true → page < ram_pages) → page < ram_pages
    text_by ram_pages page file h good true rest at e more = text_page_below ram_pages page file h good at
    text_by ram_pages page file h good false rest at e more = more e

image_text : (file : List ℕ) (ram_pages page : ℕ) → kernel_refusal file ram_pages ≡ None → has_number (text_pages (kernel_segments file)) page ≡ true → page < ram_pages
unfolding text_pages kernel_segments
image_text file ram_pages page none e =
    let ss = map (loaded_segment file) (loaded_headers file) in
    some_text file ram_pages page (loaded_headers file) (accepted_headers file ram_pages none)
    (and_second (has_number (numbers_from 0 max_ram_pages) page) (list_any (is_text_of page) ss)
    (sym (number_filtered (λ (q : ℕ). list_any (is_text_of q) ss) (numbers_from 0 max_ram_pages) page) ∙ e))

pub image_can : (rules : Rules) (file : List ℕ) → IsTrue (rules_within rules) → AreWords rules.entries → kernel_refusal file rules.ram_pages ≡ None
    → has_number rules.entries (header_entry file) ≡ true
    → CanStart rules (segments_ram (kernel_segments file) rules.ram_pages) (text_pages (kernel_segments file)) (header_entry file)
image_can rules file within words accepted entry = record {
  within = within;
  words = words;
  size = image_size file rules.ram_pages accepted;
  below = λ page e. image_text file rules.ram_pages page accepted e;
  aligned = entry_aligned rules (header_entry file) within entry;
  small = words (header_entry file) entry;
}
