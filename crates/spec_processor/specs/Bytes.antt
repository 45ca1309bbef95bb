-- Bytes, words and pages of guest memory. A byte is a number below 256, memory is a list of bytes.
-- RISC-V Unprivileged manual, "Memory" and "Base Instruction-Length Encoding": bytes, little-endian words.
-- RISC-V Privileged manual, "Sv39": pages of 4,096 bytes.
use Rattle.std.specs.Prelude.{ℕ, zero, suc, ◌+◌, ◌-◌, ◌*◌, ◌/◌, ◌%◌, Bool, ◌&&◌, List, [], ◌∷◌, ◌++◌, length, take, drop, replicate, nat_le, nat_lt}

-- the number that the bytes write, the lowest byte first
abbrev pub little_endian : List ℕ → ℕ
little_endian [] = 0
little_endian (b ∷ bs) = b + 256 * little_endian bs

-- the n lowest bytes of a number, the lowest first
abbrev pub low_bytes : ℕ → ℕ → List ℕ
low_bytes zero value = []
low_bytes (suc n) value = value % 256 ∷ low_bytes n (value / 256)

-- n bytes of a list, from place `at` on
abbrev pub part : List ℕ → ℕ → ℕ → List ℕ
part list at n = take n (drop at list)

-- the word of n bytes at place `at`
unfoldable pub word : List ℕ → ℕ → ℕ → ℕ
word list at n = little_endian (part list at n)

-- the list with bytes written from place `at` on
unfoldable pub overwrite : List ℕ → ℕ → List ℕ → List ℕ
overwrite list at bytes = take at list ++ (bytes ++ drop (at + length bytes) list)

-- the list with the n lowest bytes of a value written at place `at`
abbrev pub write_word : List ℕ → ℕ → ℕ → ℕ → List ℕ
write_word list at n value = overwrite list at (low_bytes n value)

-- bytes, and zeros after them up to a size
abbrev pub with_padding : List ℕ → ℕ → List ℕ
with_padding bytes size = bytes ++ replicate (size - length bytes) 0

-- the bytes of an instruction
abbrev pub instruction_size : ℕ
instruction_size = 4

-- where guest RAM begins, and the bytes of a page
abbrev pub ram_base : ℕ
ram_base = 0x80000000

abbrev pub page_size : ℕ
page_size = 4096

-- the place in RAM of a guest-physical address, its page, and its place in the page
abbrev pub ram_offset : ℕ → ℕ
ram_offset gpa = gpa - ram_base

abbrev pub page_of : ℕ → ℕ
page_of gpa = ram_offset gpa / page_size

abbrev pub place_in_page : ℕ → ℕ
place_in_page gpa = ram_offset gpa % page_size

-- all n bytes at a guest-physical address lie in RAM of a size in bytes
abbrev pub is_in_ram : (gpa n ram_size : ℕ) → Bool
is_in_ram gpa n ram_size = nat_le ram_base gpa && nat_le (ram_offset gpa + n) ram_size

abbrev pub in_ram : List ℕ → ℕ → ℕ → Bool
in_ram ram gpa n = is_in_ram gpa n (length ram)

-- the address lies in RAM of so many pages
abbrev pub is_ram_address : (ram_pages gpa : ℕ) → Bool
is_ram_address ram_pages gpa = nat_le ram_base gpa && nat_lt gpa (ram_base + page_size * ram_pages)

-- the bytes of a page
abbrev pub page_bytes : List ℕ → ℕ → List ℕ
page_bytes ram page = part ram (page_size * page) page_size
