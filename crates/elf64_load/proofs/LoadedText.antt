-- The text of a good image is what RAM holds in the pages of its text once its segments are loaded.
use Rattle.std.proofs.Common.{◌≡◌, ℕ, ◌+◌, ◌-◌, ◌*◌, ◌/◌, ◌%◌, ◌<◌, ◌≤◌, inl, inr, Bool, true, false, List, [], ◌∷◌, length, get_or, map}
use Rattle.std.proofs.Common.{flat_map, filter, Option, Some, None, refl, ap, sym, ◌∙◌, arith, replicate, fold, All}
use Rattle.std.specs.Prelude.{nat_le, nat_lt, ◌&&◌, ◌||◌, find, is_some, if◌then◌else◌}
use Rattle.std.specs.List.{list_any}
use Rattle.std.proofs.lemmas.Bool.{cases_Bool, and_parts, leb-true, or_parts}
use Rattle.std.proofs.lemmas.Bool.Decides.{nat_tests}
use Rattle.std.proofs.lemmas.List.{length-replicate}
use Rattle.std.proofs.lemmas.List.Elements.{All-head, All-tail}
use Rattle.std.proofs.Math.Bool.{or-true}
use Rattle.spec_processor.specs.Bytes.{with_padding, page_bytes, page_size, page_of, ram_base, ram_offset}
use Rattle.sv_types.specs.Kernel.{LoadedSegment, with_segment, segments_ram, loaded_segment, kernel_segments, kernel_refusal}
use Rattle.sv_types.specs.Kernel.{loaded_headers, table_count, segment_checks, is_executable, may_clash, text_is_shared, first_page}
use Rattle.sv_types.specs.Kernel.{last_page, is_text_of, filled_part, text_page, text_page_in, text_pages, text_of}
use Rattle.sv_types.specs.ApprovedPages.{numbers_from}
use Rattle.spec_processor.specs.Regions.{max_ram_pages}
use Rattle.sv_types.specs.declared.kernel.ProgramHeader.{ProgramHeader}
use Rattle.elf64_load.proofs.LoadedBytes.{length_with_segment, byte_elsewhere, byte_there, same_page, zero_at}
use Rattle.elf64_load.specs.Headers.{HasMemory}
use Rattle.elf64_load.proofs.FirstRefusals.{accepted_image, each_passed}
use Rattle.elf64_load.proofs.Pages.{memory_of_loaded}
use Rattle.laws_processor.proofs.ByteLemmas.{length_part}
use Rattle.sv_types.proofs.FileChecks.{Passed, segment_passed, accepted_headers}
use Rattle.elf64_load.specs.Images.{IsPlaced}

-- a header whose segment is good, in a file, for RAM of a size
pub record Sound (file : List ℕ) (size : ℕ) (h : ProgramHeader) : Type 0 where
  pub lies : IsPlaced size (loaded_segment file h)
  pub in_ram : ram_base ≤ h.gpa
  pub memory : 0 < h.memory_size
  pub whole : is_executable h ≡ true → ram_offset h.gpa % page_size ≡ 0

-- a segment touches a page
abbrev pub touches : ℕ → ProgramHeader → Bool
touches page h = nat_le (first_page h) page && nat_le page (last_page h)

pub text_touches : (file : List ℕ) (size page : ℕ) (h : ProgramHeader) → Sound file size h
    → is_text_of page (loaded_segment file h) ≡ (is_executable h && touches page h)
text_touches file size page h sound =
    let in_ram = sound.in_ram in
    let memory = sound.memory in
    let last : nat_lt (page_size * page) (ram_offset h.gpa + h.memory_size) ≡ nat_le page (last_page h) = grind (arith, nat_tests) in
    ap (λ (b : Bool). is_executable h && (nat_le (page_of h.gpa) page && b)) last

-- ---- a byte of a page

byte_apart : (place memory page j : ℕ) → j < page_size → nat_le (place / page_size) page && nat_le page ((place + memory - 1) / page_size) ≡ false
    → nat_le place (page_size * page + j) && nat_lt (page_size * page + j) (place + memory) ≡ false
byte_apart place memory page j inside apart = grind (arith, nat_tests)

-- a segment leaves the pages that it doesn't touch
byte_stays : (file ram : List ℕ) (page j : ℕ) (h : ProgramHeader) → j < page_size → Sound file (length ram) h → touches page h ≡ false
    → get_or (with_segment ram (loaded_segment file h)) (page_size * page + j) 0 ≡ get_or ram (page_size * page + j) 0
byte_stays file ram page j h inside sound apart =
    let in_ram = sound.in_ram in
    let memory = sound.memory in
    let same : h.gpa + h.memory_size - 1 - ram_base ≡ ram_offset h.gpa + h.memory_size - 1 = omega arith in
    let apart_here = apart in
    byte_elsewhere ram (loaded_segment file h) (page_size * page + j) sound.lies
    (byte_apart (ram_offset h.gpa) h.memory_size page j inside (rw same at apart_here))

-- segments one after the other
abbrev with_segments : List ℕ → List ℕ → List ProgramHeader → List ℕ
with_segments file ram hs = fold with_segment ram (map (loaded_segment file) hs)

sound_still : (file ram : List ℕ) (h : ProgramHeader) (hs : List ProgramHeader) → All (Sound file (length ram)) (h ∷ hs)
    → All (Sound file (length (with_segment ram (loaded_segment file h)))) hs
sound_still file ram h hs sound =
    let len = length_with_segment ram (loaded_segment file h) (All-head (Sound file (length ram)) h hs sound).lies in
    rw len (All-tail (Sound file (length ram)) h hs sound)

byte_stays_after : (file ram : List ℕ) (page j : ℕ) (hs : List ProgramHeader) → j < page_size → All (Sound file (length ram)) hs
    → list_any (touches page) hs ≡ false
    → get_or (with_segments file ram hs) (page_size * page + j) 0 ≡ get_or ram (page_size * page + j) 0
byte_stays_after file ram page j [] inside sound apart = refl
byte_stays_after file ram page j (h ∷ hs) inside sound apart =
    let here = or_parts (touches page h) (list_any (touches page) hs) apart in
    byte_stays_after file (with_segment ram (loaded_segment file h)) page j hs inside (sound_still file ram h hs sound) here.1
    ∙ byte_stays file ram page j h inside (All-head (Sound file (length ram)) h hs sound) here.0

-- ---- the segment of a page of text

clash_parts : (e f b : Bool) → e ≡ true → ((e || f) && b) ≡ false → b ≡ false
clash_parts true f b executable apart = apart
clash_parts false f b executable apart = cc

other_apart : (h k : ProgramHeader) (page : ℕ) → touches page h ≡ true → (nat_le (first_page h) (last_page k) && nat_le (first_page k) (last_page h)) ≡ false
    → touches page k ≡ false
other_apart h k page here apart = grind (arith, nat_tests)

-- the segments that don't clash with it don't touch the page
clear_after : (h : ProgramHeader) (page : ℕ) (hs : List ProgramHeader) → is_executable h ≡ true → touches page h ≡ true
    → list_any (may_clash h) hs ≡ false → list_any (touches page) hs ≡ false
clear_after h page [] executable here apart = refl
clear_after h page (k ∷ hs) executable here apart =
    let parts = or_parts (may_clash h k) (list_any (may_clash h) hs) apart in
    let clear = other_apart h k page here (clash_parts (is_executable h) (is_executable k) _ executable parts.0) in
    rw clear (clear_after h page hs executable here parts.1)

both_touch : (h k : ProgramHeader) (page : ℕ) → touches page h ≡ true → touches page k ≡ true
    → (nat_le (first_page h) (last_page k) && nat_le (first_page k) (last_page h)) ≡ true
both_touch h k page here there = grind (arith, nat_tests)

-- and a segment that touches it in front clashes with it
clash_ahead : (file : List ℕ) (size page : ℕ) (h : ProgramHeader) (hs : List ProgramHeader) (s : LoadedSegment) → All (Sound file size) hs
    → touches page h ≡ true → find (is_text_of page) (map (loaded_segment file) hs) ≡ Some s → list_any (may_clash h) hs ≡ true
clash_ahead file size page h [] s sound here found = cc
clash_ahead file size page h (k ∷ hs) s sound here found = elim (cases_Bool (is_text_of page (loaded_segment file k))) [
  | inl text ↦
      let parts = and_parts (is_executable k) (touches page k) (sym (text_touches file size page k (All-head (Sound file size) k hs sound)) ∙ text) in
      let both = both_touch h k page here parts.1 in
      rw (parts.0, both, or-true (is_executable h)) refl
  | inr other ↦
      let rest = rw other at found in
      rw (clash_ahead file size page h hs s (All-tail (Sound file size) k hs sound) here rest) (or-true (may_clash h k))
]

-- ---- a byte of a page of text

place_in_segment : (place page j : ℕ) → place % page_size ≡ 0 → place / page_size ≤ page
    → page_size * page + j - place ≡ page_size * (page - place / page_size) + j
place_in_segment place page j whole from = grind arith

text_byte : (file ram : List ℕ) (page j : ℕ) (hs : List ProgramHeader) (s : LoadedSegment) → j < page_size → All (Sound file (length ram)) hs
    → text_is_shared hs ≡ false → find (is_text_of page) (map (loaded_segment file) hs) ≡ Some s → get_or ram (page_size * page + j) 0 ≡ 0
    → get_or (with_segments file ram hs) (page_size * page + j) 0 ≡ get_or s.bytes (page_size * (page - page_of s.gpa) + j) 0
text_byte file ram page j [] s inside sound apart found zeros = cc
text_byte file ram page j (h ∷ hs) s inside sound apart found zeros =
    let here = All-head (Sound file (length ram)) h hs sound in
    let parts = or_parts (list_any (may_clash h) hs) (text_is_shared hs) apart in
    elim (cases_Bool (is_text_of page (loaded_segment file h))) [
      | inl text ↦
          let same : s ≡ loaded_segment file h = let some = rw text at found in cc in
          let mine = and_parts (is_executable h) (touches page h) (sym (text_touches file (length ram) page h here) ∙ text) in
          let from : ram_offset h.gpa / page_size ≤ page = let t = mine.1 in grind (arith, nat_tests) in
          let whole = here.whole mine.0 in
          byte_stays_after file (with_segment ram (loaded_segment file h)) page j hs inside (sound_still file ram h hs sound)
          (clear_after h page hs mine.0 mine.1 parts.0)
          ∙ byte_there ram (loaded_segment file h) (page_size * page + j) here.lies (omega arith) zeros
          ∙ ap (λ (i : ℕ). get_or (loaded_segment file h).bytes i 0) (place_in_segment (ram_offset h.gpa) page j whole from)
          ∙ sym (ap (λ (t : LoadedSegment). get_or t.bytes (page_size * (page - page_of t.gpa) + j) 0) same)
      | inr other ↦
          let rest = rw other at found in
          let untouched : touches page h ≡ false = elim (cases_Bool (touches page h)) [
            | inl touched ↦
                let clash = clash_ahead file (length ram) page h hs s (All-tail (Sound file (length ram)) h hs sound) touched rest in
                let none = parts.0 in
                cc
            | inr not_touched ↦ not_touched
          ] in
          text_byte file (with_segment ram (loaded_segment file h)) page j hs s inside (sound_still file ram h hs sound) parts.1 rest
          (byte_stays file ram page j h inside here untouched ∙ zeros)
    ]

-- ---- a page of text

length_loaded : (file ram : List ℕ) (hs : List ProgramHeader) → All (Sound file (length ram)) hs → length (with_segments file ram hs) ≡ length ram
length_loaded file ram [] sound = refl
length_loaded file ram (h ∷ hs) sound =
    length_loaded file (with_segment ram (loaded_segment file h)) hs (sound_still file ram h hs sound)
    ∙ length_with_segment ram (loaded_segment file h) (All-head (Sound file (length ram)) h hs sound).lies

text_inside : (file : List ℕ) (size page : ℕ) (hs : List ProgramHeader) (s : LoadedSegment) → All (Sound file size) hs
    → find (is_text_of page) (map (loaded_segment file) hs) ≡ Some s → page_size * page < size
text_inside file size page [] s sound found = cc
text_inside file size page (h ∷ hs) s sound found = elim (cases_Bool (is_text_of page (loaded_segment file h))) [
  | inl text ↦
      let inside = (All-head (Sound file size) h hs sound).lies.inside in
      let test = (and_parts (is_executable h) _ text).1 in
      grind (arith, nat_tests)
  | inr other ↦ text_inside file size page hs s (All-tail (Sound file size) h hs sound) (rw other at found)
]

text_page_loaded : (file ram : List ℕ) (ram_pages page : ℕ) (hs : List ProgramHeader) (s : LoadedSegment) → length ram ≡ page_size * ram_pages
    → ((i : ℕ) → get_or ram i 0 ≡ 0) → All (Sound file (length ram)) hs → text_is_shared hs ≡ false
    → find (is_text_of page) (map (loaded_segment file) hs) ≡ Some s
    → with_padding (filled_part page s) page_size ≡ page_bytes (with_segments file ram hs) page
text_page_loaded file ram ram_pages page hs s size zeros sound apart found =
    let len = length_loaded file ram hs sound in
    let inside = text_inside file (length ram) page hs s sound found in
    same_page (with_segments file ram hs) s.bytes page (page_size * (page - page_of s.gpa)) (omega arith)
    (λ j below. text_byte file ram page j hs s below sound apart found (zeros (page_size * page + j)))

found_first : (b : Bool) (s : LoadedSegment) (c : Bool) (o : Option LoadedSegment) → c ≡ is_some o → (b || c) ≡ is_some (if b then Some s else o)
found_first true s c o same = refl
found_first false s c o same = same

found_or_none : (q : LoadedSegment → Bool) (ss : List LoadedSegment) → list_any q ss ≡ is_some (find q ss)
found_or_none q [] = refl
found_or_none q (s ∷ ss) = found_first (q s) s (list_any q ss) (find q ss) (found_or_none q ss)

page_none : (page : ℕ) (o : Option LoadedSegment) → is_some o ≡ false → text_page_in page o ≡ []
page_none page None none = refl
page_none page (Some s) none = cc

page_found : (file ram : List ℕ) (ram_pages page : ℕ) (hs : List ProgramHeader) → length ram ≡ page_size * ram_pages
    → ((i : ℕ) → get_or ram i 0 ≡ 0) → All (Sound file (length ram)) hs → text_is_shared hs ≡ false
    → (o : Option LoadedSegment) → find (is_text_of page) (map (loaded_segment file) hs) ≡ o → is_some o ≡ true
    → text_page_in page o ≡ page_bytes (with_segments file ram hs) page
page_found file ram ram_pages page hs size zeros sound apart None found some = cc
page_found file ram ram_pages page hs size zeros sound apart (Some s) found some = text_page_loaded file ram ram_pages page hs s size zeros sound apart found

-- ---- all pages

-- where g is f at the numbers that pass, and f is nothing at the others
passing : (f g : ℕ → List ℕ) (q : ℕ → Bool) → ((n : ℕ) → q n ≡ true → f n ≡ g n) → ((n : ℕ) → q n ≡ false → f n ≡ []) → (ns : List ℕ)
    → flat_map f ns ≡ flat_map g (filter q ns)
passing f g q same none [] = refl
passing f g q same none (n ∷ ns) = elim (cases_Bool (q n)) [
  | inl passes ↦ rw (passes, same n passes, passing f g q same none ns) refl
  | inr fails ↦ rw (fails, none n fails, passing f g q same none ns) refl
]

-- the pages of text of sound segments that don't clash
text_loaded : (file : List ℕ) (ram_pages : ℕ) (hs : List ProgramHeader) → All (Sound file (page_size * ram_pages)) hs → text_is_shared hs ≡ false
    → text_of (map (loaded_segment file) hs)
    ≡ flat_map (page_bytes (segments_ram (map (loaded_segment file) hs) ram_pages)) (text_pages (map (loaded_segment file) hs))
unfolding text_of text_pages segments_ram
text_loaded file ram_pages hs sound apart =
    let ss : List LoadedSegment = map (loaded_segment file) hs in
    let ram : List ℕ = replicate (page_size * ram_pages) 0 in
    let size : length ram ≡ page_size * ram_pages = length-replicate (page_size * ram_pages) 0 in
    let sound_here : All (Sound file (length ram)) hs = rw size sound in
    passing (text_page ss) (page_bytes (with_segments file ram hs)) (λ page. list_any (is_text_of page) ss)
    (λ page text. page_found file ram ram_pages page hs size (λ i. zero_at (page_size * ram_pages) i) sound_here apart (find (is_text_of page) ss) refl
    (sym (found_or_none (is_text_of page) ss) ∙ text))
    (λ page none. page_none page (find (is_text_of page) ss) (sym (found_or_none (is_text_of page) ss) ∙ none))
    (numbers_from 0 max_ram_pages)

-- ---- a good file

sound_header : (file : List ℕ) (ram_pages : ℕ) (h : ProgramHeader) → Passed (length file) ram_pages h → HasMemory h → Sound file (page_size * ram_pages) h
sound_header file ram_pages h passed memory =
    let in_file = passed.in_file in
    let short = passed.short in
    let tests = and_parts (nat_le ram_base h.gpa) (nat_le (ram_offset h.gpa + h.memory_size) (page_size * ram_pages)) passed.in_ram in
    let in_ram = leb-true ram_base h.gpa tests.0 in
    let bytes = length_part file h.offset h.file_size in_file in
    record {
      lies = record {
        inside = leb-true (ram_offset h.gpa + h.memory_size) (page_size * ram_pages) tests.1;
        short = omega arith;
      };
      in_ram = in_ram;
      memory = memory;
      whole = λ executable. let whole = passed.whole executable in omega arith;
    }

sound_headers : (file : List ℕ) (ram_pages : ℕ) → kernel_refusal file ram_pages ≡ None → All (Sound file (page_size * ram_pages)) (loaded_headers file)
sound_headers file ram_pages none = λ i h below.
    let passes = each_passed (segment_checks (length file) ram_pages) (loaded_headers file) i h below (accepted_headers file ram_pages none) in
    sound_header file ram_pages (get_or (loaded_headers file) i h) (segment_passed (length file) ram_pages (get_or (loaded_headers file) i h) passes)
    (memory_of_loaded file (table_count file) i h below)

pub text_in_ram : (file : List ℕ) (ram_pages : ℕ) → kernel_refusal file ram_pages ≡ None
    → text_of (kernel_segments file) ≡ flat_map (page_bytes (segments_ram (kernel_segments file) ram_pages)) (text_pages (kernel_segments file))
unfolding kernel_segments
text_in_ram file ram_pages none =
    text_loaded file ram_pages (loaded_headers file) (sound_headers file ram_pages none) (accepted_image file ram_pages none)
