-- The bytes of RAM in which segments lie, page by page.
use Rattle.std.proofs.Common.{◌≡◌, ℕ, zero, suc, ◌+◌, ◌-◌, ◌*◌, ◌<◌, ◌≤◌, inl, inr, false, List, length, drop, get_or, refl, sym, ◌∙◌, arith, rules, replicate, length-take}
use Rattle.std.specs.Prelude.{nat_le, nat_lt, ◌&&◌}
use Rattle.std.proofs.lemmas.Bool.Decides.{nat_tests}
use Rattle.std.proofs.lemmas.List.{places, get_or-append_right, ext_get_or, get_or_past}
use Rattle.spec_processor.specs.Bytes.{overwrite, with_padding, part, page_bytes, page_size, ram_offset}
use Rattle.sv_types.specs.Kernel.{LoadedSegment, with_segment}
use Rattle.laws_processor.proofs.ByteLemmas.{lt_or_le, length_overwrite, length_padded, length_part}
use Rattle.elf64_load.specs.Images.{IsPlaced}

-- ---- bytes, and zeros after them

pub zero_at : (n i : ℕ) → get_or {A = ℕ} (replicate n 0) i 0 ≡ 0
zero_at zero i = refl
zero_at (suc n) zero = refl
zero_at (suc n) (suc i) = zero_at n i

pub at_padded : (bytes : List ℕ) (n i : ℕ) → get_or (with_padding bytes n) i 0 ≡ get_or bytes i 0
at_padded bytes n i = elim (lt_or_le i (length bytes)) [
  | inl inside ↦ search (rules, places)
  | inr behind ↦
      get_or-append_right bytes (replicate (n - length bytes) 0) (length bytes) i 0 refl behind
      ∙ zero_at (n - length bytes) (i - length bytes)
      ∙ sym (get_or_past bytes i 0 behind)
]

-- ---- a list with bytes written in it

pub at_before : (list bytes : List ℕ) (at i : ℕ) → at ≤ length list → i < at → get_or (overwrite list at bytes) i 0 ≡ get_or list i 0
unfolding overwrite
at_before list bytes at i within before = search (rules, places)

pub at_written : (list bytes : List ℕ) (at i : ℕ) → at ≤ length list → at ≤ i → i < at + length bytes
    → get_or (overwrite list at bytes) i 0 ≡ get_or bytes (i - at) 0
unfolding overwrite
at_written list bytes at i within from before = search (rules, places)

pub at_after : (list bytes : List ℕ) (at i : ℕ) → at + length bytes ≤ length list → at + length bytes ≤ i
    → get_or (overwrite list at bytes) i 0 ≡ get_or list i 0
unfolding overwrite
at_after list bytes at i within behind = search (rules, places)

-- ---- a segment in RAM of a size

pub length_with_segment : (ram : List ℕ) (s : LoadedSegment) → IsPlaced (length ram) s → length (with_segment ram s) ≡ length ram
length_with_segment ram s lies =
    let len = length_padded s.bytes s.memory lies.short in
    let inside = lies.inside in
    length_overwrite ram (with_padding s.bytes s.memory) (ram_offset s.gpa) (omega arith)

-- a byte that isn't the segment's stays
pub byte_elsewhere : (ram : List ℕ) (s : LoadedSegment) (i : ℕ) → IsPlaced (length ram) s
    → nat_le (ram_offset s.gpa) i && nat_lt i (ram_offset s.gpa + s.memory) ≡ false
    → get_or (with_segment ram s) i 0 ≡ get_or ram i 0
byte_elsewhere ram s i lies apart =
    let len = length_padded s.bytes s.memory lies.short in
    let inside = lies.inside in
    elim (lt_or_le i (ram_offset s.gpa)) [
      | inl before ↦ at_before ram (with_padding s.bytes s.memory) (ram_offset s.gpa) i (omega arith) before
      | inr from ↦
          let behind : ram_offset s.gpa + s.memory ≤ i = grind (arith, nat_tests) in
          at_after ram (with_padding s.bytes s.memory) (ram_offset s.gpa) i (omega arith) (omega arith)
    ]

-- a byte that is the segment's, or a zero after its memory, is its byte or the zero after them
pub byte_there : (ram : List ℕ) (s : LoadedSegment) (i : ℕ) → IsPlaced (length ram) s → ram_offset s.gpa ≤ i → get_or ram i 0 ≡ 0
    → get_or (with_segment ram s) i 0 ≡ get_or s.bytes (i - ram_offset s.gpa) 0
byte_there ram s i lies from zero_before =
    let len = length_padded s.bytes s.memory lies.short in
    let inside = lies.inside in
    let short = lies.short in
    elim (lt_or_le i (ram_offset s.gpa + s.memory)) [
      | inl before ↦
          at_written ram (with_padding s.bytes s.memory) (ram_offset s.gpa) i (omega arith) from (omega arith)
          ∙ at_padded s.bytes s.memory (i - ram_offset s.gpa)
      | inr behind ↦
          let past : length s.bytes ≤ i - ram_offset s.gpa = omega arith in
          at_after ram (with_padding s.bytes s.memory) (ram_offset s.gpa) i (omega arith) (omega arith) ∙ zero_before
          ∙ sym (get_or_past s.bytes (i - ram_offset s.gpa) 0 past)
    ]

-- ---- a page

pub at_part : (list : List ℕ) (at n j : ℕ) → j < n → get_or (part list at n) j 0 ≡ get_or list (at + j) 0
at_part list at n j h = search (rules, places)

-- a page of RAM is a page of a list, with zeros after it, where its bytes are
pub same_page : (ram bytes : List ℕ) (page at : ℕ) → page_size * page + page_size ≤ length ram
    → ((j : ℕ) → j < page_size → get_or ram (page_size * page + j) 0 ≡ get_or bytes (at + j) 0)
    → with_padding (part bytes at page_size) page_size ≡ page_bytes ram page
same_page ram bytes page at inside same =
    let most : length (part bytes at page_size) ≤ page_size = let a = length-take page_size (drop at bytes) in omega arith in
    let padded_length = length_padded (part bytes at page_size) page_size most in
    let page_length = length_part ram (page_size * page) page_size inside in
    ext_get_or 0 (with_padding (part bytes at page_size) page_size) (page_bytes ram page) (padded_length ∙ sym page_length)
    (λ j h.
    let below : j < page_size = omega arith in
    at_padded (part bytes at page_size) page_size j ∙ at_part bytes at page_size j below ∙ sym (same j below)
    ∙ sym (at_part ram (page_size * page) page_size j below))
