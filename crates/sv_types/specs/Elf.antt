-- The numbers of ELF-64 files by their names in the standard: offsets in bytes, sizes, kinds and flags.
-- System V gABI, "ELF Header", "Program Header", "Sections", "Symbol Table" and "Relocation"; RISC-V ELF psABI, "File
-- Header" and "Relocations".
use Rattle.std.specs.Prelude.{ℕ, ◌/◌}

-- ---- the file's header

abbrev pub file_header_size : ℕ
file_header_size = 64

abbrev pub ei_class : ℕ
ei_class = 4

abbrev pub ei_data : ℕ
ei_data = 5

abbrev pub ei_version : ℕ
ei_version = 6

abbrev pub e_type : ℕ
e_type = 16

abbrev pub e_machine : ℕ
e_machine = 18

abbrev pub e_version : ℕ
e_version = 20

abbrev pub e_entry : ℕ
e_entry = 24

abbrev pub e_phoff : ℕ
e_phoff = 32

abbrev pub e_shoff : ℕ
e_shoff = 40

abbrev pub e_flags : ℕ
e_flags = 48

abbrev pub e_phentsize : ℕ
e_phentsize = 54

abbrev pub e_phnum : ℕ
e_phnum = 56

abbrev pub e_shentsize : ℕ
e_shentsize = 58

abbrev pub e_shnum : ℕ
e_shnum = 60

-- 0x7F, E, L, F
abbrev pub elf_magic : ℕ
elf_magic = 0x464C457F

-- 64 bits, and the lowest byte first
abbrev pub elfclass64 : ℕ
elfclass64 = 2

abbrev pub elfdata2lsb : ℕ
elfdata2lsb = 1

abbrev pub ev_current : ℕ
ev_current = 1

-- a relocatable file, and an executable one
abbrev pub et_rel : ℕ
et_rel = 1

abbrev pub et_exec : ℕ
et_exec = 2

abbrev pub em_riscv : ℕ
em_riscv = 243

-- the flags below this one say that there are compressed instructions, registers of floats, or fewer registers
abbrev pub ef_riscv_tso : ℕ
ef_riscv_tso = 16

-- ---- program headers

abbrev pub program_header_size : ℕ
program_header_size = 56

abbrev pub p_flags : ℕ
p_flags = 4

abbrev pub p_offset : ℕ
p_offset = 8

abbrev pub p_vaddr : ℕ
p_vaddr = 16

abbrev pub p_paddr : ℕ
p_paddr = 24

abbrev pub p_filesz : ℕ
p_filesz = 32

abbrev pub p_memsz : ℕ
p_memsz = 40

-- a segment that is loaded
abbrev pub pt_load : ℕ
pt_load = 1

-- the bits of PF_X, PF_W and PF_R: executable, writable and readable
abbrev pub pf_x_bit : ℕ
pf_x_bit = 0

abbrev pub pf_w_bit : ℕ
pf_w_bit = 1

abbrev pub pf_r_bit : ℕ
pf_r_bit = 2

-- ---- section headers

abbrev pub section_header_size : ℕ
section_header_size = 64

abbrev pub sh_type : ℕ
sh_type = 4

abbrev pub sh_flags : ℕ
sh_flags = 8

abbrev pub sh_offset : ℕ
sh_offset = 24

abbrev pub sh_size : ℕ
sh_size = 32

abbrev pub sh_link : ℕ
sh_link = 40

abbrev pub sh_info : ℕ
sh_info = 44

abbrev pub sh_addralign : ℕ
sh_addralign = 48

abbrev pub sh_entsize : ℕ
sh_entsize = 56

-- no section; what the program gives; symbols; names; relocations with addends; zeros that don't stand in the file
abbrev pub sht_null : ℕ
sht_null = 0

abbrev pub sht_progbits : ℕ
sht_progbits = 1

abbrev pub sht_symtab : ℕ
sht_symtab = 2

abbrev pub sht_strtab : ℕ
sht_strtab = 3

abbrev pub sht_rela : ℕ
sht_rela = 4

abbrev pub sht_nobits : ℕ
sht_nobits = 8

-- the bits of SHF_ALLOC and SHF_EXECINSTR: with memory, and with instructions
abbrev pub shf_alloc_bit : ℕ
shf_alloc_bit = 1

abbrev pub shf_execinstr_bit : ℕ
shf_execinstr_bit = 2

-- ---- symbols

abbrev pub symbol_size : ℕ
symbol_size = 24

abbrev pub st_info : ℕ
st_info = 4

abbrev pub st_shndx : ℕ
st_shndx = 6

abbrev pub st_value : ℕ
st_value = 8

-- ELF64_ST_BIND: the binding stands above the four bits of the type
abbrev pub st_bind : ℕ → ℕ
st_bind info = info / 16

abbrev pub stb_global : ℕ
stb_global = 1

-- no section, the first of the reserved numbers, and the one of absolute values
abbrev pub shn_undef : ℕ
shn_undef = 0

abbrev pub shn_loreserve : ℕ
shn_loreserve = 0xFF00

abbrev pub shn_abs : ℕ
shn_abs = 0xFFF1

-- ---- relocations with addends

abbrev pub relocation_size : ℕ
relocation_size = 24

abbrev pub r_type : ℕ
r_type = 8

abbrev pub r_sym : ℕ
r_sym = 12

abbrev pub r_addend : ℕ
r_addend = 16

-- a call by an AUIPC and the JALR after it, twice; and the leave to shorten code
abbrev pub r_riscv_call : ℕ
r_riscv_call = 18

abbrev pub r_riscv_call_plt : ℕ
r_riscv_call_plt = 19

abbrev pub r_riscv_relax : ℕ
r_riscv_relax = 51
