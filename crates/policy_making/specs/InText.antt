-- Segments of a kernel, and addresses in its text.
use Rattle.std.specs.Prelude.{◌≡◌, ℕ, ◌+◌, ◌<◌, ◌^◌, Bool, ◌&&◌, ◌==◌, nat_le, List, None}
use Rattle.std.specs.List.{All, list_any}
use Rattle.spec_processor.specs.Bytes.{page_of, ram_base}
use Rattle.sv_types.specs.Kernel.{LoadedSegment, kernel_refusal, kernel_segments, text_pages}

-- an address in RAM, in one of the pages of text
abbrev pub is_in_text : List LoadedSegment → (gpa : ℕ) → Bool
is_in_text ss gpa = nat_le ram_base gpa && list_any (λ page. page == page_of gpa) (text_pages ss)

-- the segments of a file that is a kernel for so many pages of RAM
pub record AreOfKernel (ram_pages : ℕ) (ss : List LoadedSegment) : Type 0 where
  pub file : List ℕ
  pub accepted : kernel_refusal file ram_pages ≡ None
  pub segments : ss ≡ kernel_segments file

-- the memory of each ends below 2^64
abbrev pub EndInWords : List LoadedSegment → Type 0
EndInWords ss = All (λ s. s.gpa + s.memory < 2 ^ 64) ss
