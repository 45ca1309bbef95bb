-- Checks, one after the other, and what those of a kernel's image find.
use Rattle.std.proofs.Common.{◌≡◌, ℕ, ◌+◌, ◌≤◌, Bool, true, false, List, [], ◌∷◌, ◌++◌, length, flat_map, None, refl, sym, ◌∙◌}
use Rattle.std.specs.Prelude.{nat_lt, not, ◌==◌, ◌&&◌, ◌%◌}
use Rattle.std.proofs.lemmas.Bool.{ltb-false, not-false, eqb-true}
use Rattle.spec_processor.specs.Bytes.{page_size}
use Rattle.sv_types.specs.Kernel.{first_refusal, header_checks, segment_checks, image_checks, loaded_headers, kernel_refusal, memory_in_ram, is_executable, is_writable}
use Rattle.sv_types.specs.declared.image_fault.ImageFault.{ImageFault}
use Rattle.sv_types.specs.declared.kernel.ProgramHeader.{ProgramHeader}

-- checks that find no fault leave it to those after them
pub passed : {F : Type 0} (xs ys : List (F × Bool)) → first_refusal xs ≡ None → first_refusal (xs ++ ys) ≡ first_refusal ys
passed [] ys none = refl
passed ((n, true) ∷ xs) ys none = cc
passed ((n, false) ∷ xs) ys none = passed xs ys none

-- what finds no fault as a whole finds none in its first part, and none in the rest
pub first_passed : {F : Type 0} (xs ys : List (F × Bool)) → first_refusal (xs ++ ys) ≡ None → first_refusal xs ≡ None
first_passed [] ys none = refl
first_passed ((n, true) ∷ xs) ys none = none
first_passed ((n, false) ∷ xs) ys none = first_passed xs ys none

pub rest_passed : {F : Type 0} (xs ys : List (F × Bool)) → first_refusal (xs ++ ys) ≡ None → first_refusal ys ≡ None
rest_passed xs ys none = sym (passed xs ys (first_passed xs ys none)) ∙ none

-- ---- an image that isn't refused

pub accepted_headers : (file : List ℕ) (ram_pages : ℕ) → kernel_refusal file ram_pages ≡ None
    → first_refusal (flat_map (segment_checks (length file) ram_pages) (loaded_headers file)) ≡ None
unfolding kernel_refusal
accepted_headers file ram_pages none =
    first_passed (flat_map (segment_checks (length file) ram_pages) (loaded_headers file)) (image_checks (loaded_headers file))
    (rest_passed (header_checks file) _ none)

-- what the checks of a segment find
pub record Passed (file_size ram_pages : ℕ) (h : ProgramHeader) : Type 0 where
  pub in_file : h.offset + h.file_size ≤ file_size
  pub in_ram : memory_in_ram ram_pages h ≡ true
  pub short : h.file_size ≤ h.memory_size
  pub whole : is_executable h ≡ true → h.gpa % page_size ≡ 0

tests_passed : (a b c d e : Bool) →
    first_refusal ((ImageFault.OutsideFile, a) ∷ (ImageFault.OutsideRam, b) ∷ (ImageFault.ShortMemory, c) ∷ (ImageFault.WritableText, d) ∷ (ImageFault.TextInsidePage, e) ∷ []) ≡ None
    → (a ≡ false) × (b ≡ false) × (c ≡ false) × (d ≡ false) × (e ≡ false)
tests_passed true b c d e none = cc
tests_passed false true c d e none = cc
tests_passed false false true d e none = cc
tests_passed false false false true e none = cc
tests_passed false false false false true none = cc
tests_passed false false false false false none = (refl, refl, refl, refl, refl)

pub segment_passed : (file_size ram_pages : ℕ) (h : ProgramHeader) → first_refusal (segment_checks file_size ram_pages h) ≡ None → Passed file_size ram_pages h
unfolding segment_checks
segment_passed file_size ram_pages h none =
    let tests = tests_passed (nat_lt file_size (h.offset + h.file_size)) (not (memory_in_ram ram_pages h)) (nat_lt h.memory_size h.file_size)
    (is_executable h && is_writable h) (is_executable h && not (h.gpa % page_size == 0)) none in
    record {
      in_file = ltb-false file_size (h.offset + h.file_size) tests.0;
      in_ram = not-false (memory_in_ram ram_pages h) tests.1;
      short = ltb-false h.memory_size h.file_size tests.2;
      whole = λ executable. let whole = rw executable at tests.4 in eqb-true (h.gpa % page_size) 0 (not-false (h.gpa % page_size == 0) whole);
    }
