-- What callers see of an image's segments.
use Rattle.std.specs.Prelude.{◌≡◌, ℕ, ◌+◌, ◌/◌, ◌%◌, ◌≤◌, Bool, List, length, map}
use Rattle.std.specs.List.{position_or_len}
use Rattle.spec_processor.specs.Bytes.{page_size, ram_offset}
use Rattle.spec_processor.specs.Regions.{max_ram_pages}
use Rattle.sv_types.specs.Kernel.{LoadedSegment, is_text_of}
use Rattle.elf64_load.specs.declared.image.Segment.{Segment}
use Rattle.elf64_load.specs.declared.image.KernelImage.{KernelImage}

-- its memory lies in RAM of a size, and it has no more bytes than memory
pub record IsPlaced (size : ℕ) (s : LoadedSegment) : Type 0 where
  pub inside : ram_offset s.gpa + s.memory ≤ size
  pub short : length s.bytes ≤ s.memory

-- a segment, with its bytes as a list
abbrev pub segment_of : Segment → LoadedSegment
segment_of s = record {
  va = s.va;
  gpa = s.gpa;
  bytes = s.bytes.now;
  memory = s.memory;
  executable = s.executable;
}

abbrev pub segments_of : KernelImage → List LoadedSegment
segments_of image = map segment_of image.segments.items

-- the place of the first executable segment in which a page lies, or the number of all segments where there is none
abbrev pub text_owner : ℕ → List LoadedSegment → ℕ
text_owner page ss = position_or_len (is_text_of page) ss

abbrev pub is_text : LoadedSegment → Bool
is_text s = s.executable

-- a segment of whole pages of RAM, of which the file has all bytes
pub record IsWhole (s : LoadedSegment) : Type 0 where
  pub first : ram_offset s.gpa % page_size ≡ 0
  pub pages : s.memory % page_size ≡ 0
  pub filled : length s.bytes ≡ s.memory
  pub inside : ram_offset s.gpa / page_size + s.memory / page_size ≤ max_ram_pages
