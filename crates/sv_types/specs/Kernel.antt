-- Kernel images: which are refused and why, and what a good one puts into memory.
-- ELF-64 Object File Format, "ELF Header" and "Program Header Table"; RISC-V ELF psABI, "File Header".
use Rattle.std.specs.Prelude.{ℕ, ◌+◌, ◌-◌, ◌*◌, ◌%◌, Bool, false, not, ◌&&◌, ◌||◌, List, [], ◌∷◌, ◌++◌, length, replicate, map, filter}
use Rattle.std.specs.Prelude.{flat_map, fold, find, ◌==◌, if◌then◌else◌, nat_le, nat_lt, Option, Some, None}
use Rattle.std.specs.List.{list_any}
use Rattle.spec_processor.specs.Bits.{bit}
use Rattle.spec_processor.specs.Bytes.{word, part, with_padding, overwrite, ram_offset, page_size, page_of, is_in_ram}
use Rattle.sv_types.specs.ApprovedPages.{numbers_from}
use Rattle.spec_processor.specs.Regions.{max_ram_pages}
use Rattle.sv_types.specs.Elf.{file_header_size, ei_class, ei_data, ei_version, e_type, e_machine, e_version, e_entry, e_phoff, e_flags}
use Rattle.sv_types.specs.Elf.{e_phentsize, e_phnum, elf_magic, elfclass64, elfdata2lsb, ev_current, et_exec, em_riscv, ef_riscv_tso}
use Rattle.sv_types.specs.Elf.{program_header_size, p_flags, p_offset, p_vaddr, p_paddr, p_filesz, p_memsz, pt_load, pf_x_bit, pf_w_bit}
use Rattle.sv_types.specs.declared.image_fault.HeaderFault.{HeaderFault}
use Rattle.sv_types.specs.declared.image_fault.ImageFault.{ImageFault}
use Rattle.sv_types.specs.declared.kernel.ProgramHeader.{ProgramHeader}

-- the fault of the first check that finds one
abbrev pub first_refusal : {F : Type 0} → List (F × Bool) → Option F
first_refusal [] = None
first_refusal (check ∷ checks) = if check.1 then Some check.0 else first_refusal checks

-- ---- the header

abbrev pub header_entry : List ℕ → ℕ
header_entry file = word file e_entry 8

-- where the program headers begin, and how many there are
abbrev pub table_place : List ℕ → ℕ
table_place file = word file e_phoff 8

abbrev pub table_count : List ℕ → ℕ
table_count file = word file e_phnum 2

-- the program headers have their size, and are in the file
abbrev pub table_in_file : List ℕ → Bool
table_in_file file = word file e_phentsize 2 == program_header_size && nat_le (table_place file + program_header_size * table_count file) (length file)

-- 0x7F, E, L, F; 64 bits, little-endian; version 1; RISC-V; a kind of file; no compressed instructions, no floats
unfoldable pub file_checks : ℕ → List ℕ → List (HeaderFault × Bool)
file_checks kind file =
    (HeaderFault.TooShort, nat_lt (length file) file_header_size)
    ∷ (HeaderFault.Magic, not (word file 0 4 == elf_magic))
    ∷ (HeaderFault.Class, not (word file ei_class 1 == elfclass64 && word file ei_data 1 == elfdata2lsb))
    ∷ (HeaderFault.Version, not (word file ei_version 1 == ev_current && word file e_version 4 == ev_current))
    ∷ (HeaderFault.Machine, not (word file e_machine 2 == em_riscv))
    ∷ (HeaderFault.Kind, not (word file e_type 2 == kind))
    ∷ (HeaderFault.Flags, not (word file e_flags 4 % ef_riscv_tso == 0))
    ∷ []

-- a check of any file, as one of a kernel's
abbrev pub image_check : HeaderFault × Bool → ImageFault × Bool
image_check check = (ImageFault.Header check.0, check.1)

abbrev pub table_checks : List ℕ → List (ImageFault × Bool)
table_checks file = (ImageFault.ProgramHeaders, nat_lt 0 (table_count file) && not (table_in_file file)) ∷ []

-- an executable file, with its table of program headers
unfoldable pub header_checks : List ℕ → List (ImageFault × Bool)
header_checks file = map image_check (file_checks et_exec file) ++ table_checks file

-- ---- segments

unfoldable pub header_at : List ℕ → ℕ → ProgramHeader
header_at file at = record {
  kind = word file at 4;
  flags = word file (at + p_flags) 4;
  offset = word file (at + p_offset) 8;
  va = word file (at + p_vaddr) 8;
  gpa = word file (at + p_paddr) 8;
  file_size = word file (at + p_filesz) 8;
  memory_size = word file (at + p_memsz) 8;
}

abbrev pub is_loaded : ProgramHeader → Bool
is_loaded h = h.kind == pt_load && nat_lt 0 h.memory_size

-- those of the first n program headers that are loaded, in their order
unfoldable pub loaded_among : List ℕ → ℕ → List ProgramHeader
loaded_among file n = filter is_loaded (map (λ i. header_at file (table_place file + program_header_size * i)) (numbers_from 0 n))

abbrev pub loaded_headers : List ℕ → List ProgramHeader
loaded_headers file = loaded_among file (table_count file)

abbrev pub is_executable : ProgramHeader → Bool
is_executable h = bit h.flags pf_x_bit

abbrev pub is_writable : ProgramHeader → Bool
is_writable h = bit h.flags pf_w_bit

abbrev pub memory_in_ram : ℕ → ProgramHeader → Bool
memory_in_ram ram_pages h = is_in_ram h.gpa h.memory_size (page_size * ram_pages)

unfoldable pub segment_checks : ℕ → ℕ → ProgramHeader → List (ImageFault × Bool)
segment_checks file_size ram_pages h =
    (ImageFault.OutsideFile, nat_lt file_size (h.offset + h.file_size))
    ∷ (ImageFault.OutsideRam, not (memory_in_ram ram_pages h))
    ∷ (ImageFault.ShortMemory, nat_lt h.memory_size h.file_size)
    ∷ (ImageFault.WritableText, is_executable h && is_writable h)
    ∷ (ImageFault.TextInsidePage, is_executable h && not (h.gpa % page_size == 0))
    ∷ []

-- the first and the last page that a segment touches
abbrev pub first_page : ProgramHeader → ℕ
first_page h = page_of h.gpa

abbrev pub last_page : ProgramHeader → ℕ
last_page h = page_of (h.gpa + h.memory_size - 1)

-- two segments, one of them executable, touch one page
abbrev pub may_clash : ProgramHeader → ProgramHeader → Bool
may_clash h k =
    (is_executable h || is_executable k) && (nat_le (first_page h) (last_page k) && nat_le (first_page k) (last_page h))

abbrev pub text_is_shared : List ProgramHeader → Bool
text_is_shared [] = false
text_is_shared (h ∷ hs) = list_any (may_clash h) hs || text_is_shared hs

unfoldable pub image_checks : List ProgramHeader → List (ImageFault × Bool)
image_checks hs = (ImageFault.SharedText, text_is_shared hs) ∷ (ImageFault.NoText, not (list_any is_executable hs)) ∷ []

-- the first fault: those of the header, then segment by segment, then those of all segments
unfoldable pub kernel_refusal : List ℕ → ℕ → Option ImageFault
kernel_refusal file ram_pages =
    first_refusal (header_checks file
    ++ (flat_map (segment_checks (length file) ram_pages) (loaded_headers file) ++ image_checks (loaded_headers file)))

-- ---- what a good image holds

-- a segment with its bytes in the file, after which its memory has zeros
pub record LoadedSegment : Type 0 where
  pub va : ℕ
  pub gpa : ℕ
  pub bytes : List ℕ
  pub memory : ℕ
  pub executable : Bool

abbrev pub loaded_segment : List ℕ → ProgramHeader → LoadedSegment
loaded_segment file h = record {
  va = h.va;
  gpa = h.gpa;
  bytes = part file h.offset h.file_size;
  memory = h.memory_size;
  executable = is_executable h;
}

unfoldable pub kernel_segments : List ℕ → List LoadedSegment
kernel_segments file = map (loaded_segment file) (loaded_headers file)

-- RAM with a segment's bytes and zeros at its place
abbrev pub with_segment : List ℕ → LoadedSegment → List ℕ
with_segment ram s = overwrite ram (ram_offset s.gpa) (with_padding s.bytes s.memory)

-- zeros, with each segment at its place; the later one wins
unfoldable pub segments_ram : List LoadedSegment → ℕ → List ℕ
segments_ram ss ram_pages = fold with_segment (replicate (page_size * ram_pages) 0) ss

-- ---- the text

-- a page lies in an executable segment, which begins with a page
abbrev pub is_text_of : ℕ → LoadedSegment → Bool
is_text_of page s =
    s.executable && (nat_le (page_of s.gpa) page && nat_lt (page_size * page) (ram_offset s.gpa + s.memory))

-- the pages that lie in executable segments, ascending
unfoldable pub text_pages : List LoadedSegment → List ℕ
text_pages ss = filter (λ page. list_any (is_text_of page) ss) (numbers_from 0 max_ram_pages)

-- the bytes of a page of a segment's that the file holds
abbrev pub filled_part : ℕ → LoadedSegment → List ℕ
filled_part page s = part s.bytes (page_size * (page - page_of s.gpa)) page_size

-- a page of text, with zeros after the file's bytes; nothing where the page is none
abbrev pub text_page_in : ℕ → Option LoadedSegment → List ℕ
text_page_in page None = []
text_page_in page (Some s) = with_padding (filled_part page s) page_size

abbrev pub text_page : List LoadedSegment → ℕ → List ℕ
text_page ss page = text_page_in page (find (is_text_of page) ss)

-- the pages of text, one after the other
unfoldable pub text_of : List LoadedSegment → List ℕ
text_of ss = flat_map (text_page ss) (numbers_from 0 max_ram_pages)
