-- The segments of a file that isn't refused.
use Rattle.std.proofs.Common.{◌≡◌, ℕ, ◌+◌, ◌*◌, List, [], ◌∷◌, length, drop, map, flat_map, None, sym, subst, arith, length-take}
use Rattle.std.specs.Prelude.{nat_le, ◌&&◌, true}
use Rattle.std.specs.List.{All}
use Rattle.std.proofs.lemmas.Bool.Decides.{nat_tests}
use Rattle.std.proofs.lemmas.List.Elements.{All-nil, All-cons}
use Rattle.spec_processor.specs.Bytes.{page_size, ram_offset, ram_base}
use Rattle.sv_types.specs.Kernel.{LoadedSegment, first_refusal, kernel_refusal, kernel_segments, segment_checks, loaded_headers, loaded_segment}
use Rattle.sv_types.specs.declared.kernel.ProgramHeader.{ProgramHeader}
use Rattle.secvisor_core.specs.Placed.{ArePlaced}
use Rattle.elf64_load.specs.Images.{IsPlaced}
use Rattle.sv_types.proofs.FileChecks.{first_passed, rest_passed, accepted_headers, Passed, segment_passed}

placed : (file : List ℕ) (ram_pages : ℕ) (h : ProgramHeader) → Passed (length file) ram_pages h → IsPlaced (page_size * ram_pages) (loaded_segment file h)
placed file ram_pages h passed =
    let in_ram : (nat_le ram_base h.gpa && nat_le (ram_offset h.gpa + h.memory_size) (page_size * ram_pages)) ≡ true = passed.in_ram in
    let short = passed.short in
    let most = length-take h.file_size (drop h.offset file) in
    record {
      inside = grind (arith, nat_tests);
      short = omega arith;
    }

all_placed : (file : List ℕ) (ram_pages : ℕ) (hs : List ProgramHeader) → first_refusal (flat_map (segment_checks (length file) ram_pages) hs) ≡ None
    → All (IsPlaced (page_size * ram_pages)) (map (loaded_segment file) hs)
all_placed file ram_pages [] none = All-nil (IsPlaced (page_size * ram_pages))
all_placed file ram_pages (h ∷ hs) none =
    let checks = segment_checks (length file) ram_pages in
    let here = segment_passed (length file) ram_pages h (first_passed (checks h) (flat_map checks hs) none) in
    let rest = all_placed file ram_pages hs (rest_passed (checks h) (flat_map checks hs) none) in
    All-cons (IsPlaced (page_size * ram_pages)) (loaded_segment file h) (map (loaded_segment file) hs) (placed file ram_pages h here) rest

pub accepted_placed : (file : List ℕ) (ram_pages : ℕ) → kernel_refusal file ram_pages ≡ None → ArePlaced ram_pages (kernel_segments file)
unfolding kernel_segments
accepted_placed file ram_pages none = all_placed file ram_pages (loaded_headers file) (accepted_headers file ram_pages none)

-- the segments of an image that was read
pub image_placed : (file : List ℕ) (ram_pages : ℕ) (ss : List LoadedSegment) → kernel_refusal file ram_pages ≡ None → ss ≡ kernel_segments file → ArePlaced ram_pages ss
image_placed file ram_pages ss none same = subst (ArePlaced ram_pages) (sym same) (accepted_placed file ram_pages none)
