-- An executable file of three segments, page by page: its headers, a page of text, and a body.
-- ELF-64 Object File Format, "ELF Header" and "Program Header Table"; RISC-V ELF psABI, "File Header".
use Rattle.std.specs.Prelude.{ℕ, ◌+◌, ◌*◌, ◌^◌, List, [], ◌∷◌, ◌++◌, length, flat_map}
use Rattle.spec_processor.specs.Bytes.{low_bytes, with_padding, page_size, ram_base}
use Rattle.spec_processor.specs.Encoding.{word_of}
use Rattle.spec_processor.specs.declared.instruction.Instr.{Instr}
use Rattle.sv_types.specs.Elf.{file_header_size, elf_magic, elfclass64, elfdata2lsb, ev_current, et_exec, em_riscv, program_header_size}
use Rattle.sv_types.specs.Elf.{pt_load, pf_x_bit, pf_w_bit, pf_r_bit}
use Rattle.sv_types.specs.declared.kernel.ProgramHeader.{ProgramHeader}
use Rattle.guest_gen.specs.declared.fields.Field.{Field}
use Rattle.guest_gen.specs.declared.fields.Field.TheVariants.{Byte, Half, Word, Double}

-- ---- fields, the lowest byte first

abbrev pub field_bytes : Field → List ℕ
field_bytes (Byte value) = value ∷ []
field_bytes (Half value) = low_bytes 2 value
field_bytes (Word value) = low_bytes 4 value
field_bytes (Double value) = low_bytes 8 value

-- ---- headers

abbrev pub segment_count : ℕ
segment_count = 3

-- the text lies in page 1, and the kernel begins with it
abbrev pub text_address : ℕ
text_address = ram_base + page_size

-- an executable file of RISC-V, 64 bits, little-endian, version 1, without sections. The program headers lie after the
-- header; after the version of the identification stand zeros
unfoldable pub file_header : List Field
file_header =
    Word elf_magic ∷ Byte elfclass64 ∷ Byte elfdata2lsb ∷ Byte ev_current ∷ Byte 0 ∷ Double 0
    ∷ Half et_exec ∷ Half em_riscv ∷ Word ev_current
    ∷ Double text_address ∷ Double file_header_size ∷ Double 0 ∷ Word 0
    ∷ Half file_header_size ∷ Half program_header_size ∷ Half segment_count ∷ Half 0 ∷ Half 0 ∷ Half 0 ∷ []

-- the last field is the alignment
unfoldable pub program_header : ProgramHeader → List Field
program_header h =
    Word h.kind ∷ Word h.flags ∷ Double h.offset ∷ Double h.va ∷ Double h.gpa
    ∷ Double h.file_size ∷ Double h.memory_size ∷ Double page_size ∷ []

-- ---- segments

-- the flags PF_X, PF_W and PF_R
abbrev pub executable : ℕ
executable = 2 ^ pf_x_bit

abbrev pub writable : ℕ
writable = 2 ^ pf_w_bit

abbrev pub readable : ℕ
readable = 2 ^ pf_r_bit

-- a segment that lies in RAM where it lies in the file
unfoldable pub segment : (flags offset file_size memory_size : ℕ) → ProgramHeader
segment flags offset file_size memory_size = record {
  kind = pt_load;
  flags = flags;
  offset = offset;
  va = ram_base + offset;
  gpa = ram_base + offset;
  file_size = file_size;
  memory_size = memory_size;
}

abbrev pub headers_segment : ProgramHeader
headers_segment = segment readable 0 page_size page_size

abbrev pub text_segment : ProgramHeader
text_segment = segment (readable + executable) page_size page_size page_size

-- two pages, whose front the file has
abbrev pub body_segment : (size : ℕ) → ProgramHeader
body_segment size = segment (readable + writable) (2 * page_size) size (2 * page_size)

-- all headers of a file with a body of this size
unfoldable pub headers : (body_size : ℕ) → List ℕ
headers body_size =
    flat_map field_bytes file_header
    ++ (flat_map field_bytes (program_header headers_segment)
    ++ (flat_map field_bytes (program_header text_segment)
    ++ flat_map field_bytes (program_header (body_segment body_size))))

-- ---- the file

-- instructions as bytes
abbrev pub instruction_bytes : Instr → List ℕ
instruction_bytes instr = low_bytes 4 (word_of instr)

abbrev pub code_bytes : List Instr → List ℕ
code_bytes text = flat_map instruction_bytes text

-- the headers, the text and the body, each from a page's begin on
unfoldable pub laid_out : (text body : List ℕ) → List ℕ
laid_out text body = with_padding (with_padding (headers (length body)) page_size ++ text) (2 * page_size) ++ body

abbrev pub image : (text : List Instr) → (body : List ℕ) → List ℕ
image text body = laid_out (code_bytes text) body
