-- Chains of descriptors. VIRTIO 1.2, "The Virtqueue Descriptor Table": a descriptor has an address (8 bytes), a length
-- (4), flags (2) and the next one's place in the table (2).
use Rattle.std.specs.Prelude.{ℕ, zero, suc, ◌+◌, ◌-◌, ◌*◌, Bool, false, not, ◌&&◌, ◌==◌, List, [], ◌∷◌, length, take, drop, get_or, nat_le}
use Rattle.std.specs.Prelude.{nat_lt, if◌then◌else◌, Option, Some, None, option_map}
use Rattle.spec_processor.specs.Bits.{bit}
use Rattle.spec_processor.specs.Bytes.{word, in_ram}
use Rattle.sv_types.specs.declared.virtio.VirtioDescriptor.{VirtioDescriptor}
use Rattle.sv_types.specs.declared.virtio.VirtioPart.{VirtioPart}

-- what a descriptor has after its address, and the places of its flags
abbrev pub descriptor_size : ℕ
descriptor_size = 16

abbrev pub length_offset : ℕ
length_offset = 8

abbrev pub flags_offset : ℕ
flags_offset = 12

abbrev pub follower_offset : ℕ
follower_offset = 14

abbrev pub next_flag : ℕ
next_flag = 0

abbrev pub write_flag : ℕ
write_flag = 1

abbrev pub indirect_flag : ℕ
indirect_flag = 2

-- the descriptor at a place in RAM
unfoldable pub descriptor_at : List ℕ → ℕ → VirtioDescriptor
descriptor_at ram at = record {
  part = record { gpa = word ram at 8; len = word ram (at + length_offset) 4; write = bit (word ram (at + flags_offset) 2) write_flag };
  goes_on = bit (word ram (at + flags_offset) 2) next_flag;
  is_indirect = bit (word ram (at + flags_offset) 2) indirect_flag;
  next = word ram (at + follower_offset) 2;
}

-- ---- chains

-- what a descriptor says, and after it what those say that it leads to; none where it has a table of its own
unfoldable pub with_rest : VirtioDescriptor → Option (List VirtioPart) → Option (List VirtioPart)
with_rest d rest =
    if d.is_indirect then None
    else if d.goes_on then option_map (λ parts. d.part ∷ parts) rest
    else Some (d.part ∷ [])

-- what the chain of at most n descriptors says that begins at one of a table; none where one isn't in the table or has
-- a table of its own, or there are more
unfoldable pub chain : ℕ → List ℕ → (table size index : ℕ) → Option (List VirtioPart)
chain zero ram table size index = None
chain (suc n) ram table size index =
    if nat_lt index size
    then with_rest (descriptor_at ram (table + descriptor_size * index)) (chain n ram table size (descriptor_at ram (table + descriptor_size * index)).next)
    else None

-- the header, at most 32 descriptors of data, and the result
abbrev pub max_parts : ℕ
max_parts = 34

-- ---- "Device Operation" of the block device: the header is read, then come the data, then the result is written

abbrev pub no_part : VirtioPart
no_part = record { gpa = 0; len = 0; write = false }

abbrev pub header_of : List VirtioPart → VirtioPart
header_of parts = get_or parts 0 no_part

abbrev pub result_of : List VirtioPart → VirtioPart
result_of parts = get_or parts (length parts - 1) no_part

-- those from one place up to another
abbrev pub between : List VirtioPart → (from to : ℕ) → List VirtioPart
between parts from to = take (to - from) (drop from parts)

abbrev pub data_of : List VirtioPart → List VirtioPart
data_of parts = between parts 1 (length parts - 1)

-- the header, which the device reads, and the result, which it writes
abbrev pub header_size : ℕ
header_size = 16

abbrev pub result_size : ℕ
result_size = 1

abbrev pub is_header : List ℕ → VirtioPart → Bool
is_header ram part = part.len == header_size && not part.write && in_ram ram part.gpa header_size

abbrev pub is_result : VirtioPart → Bool
is_result part = part.len == result_size && part.write

-- a header and a result
abbrev pub least_parts : ℕ
least_parts = 2

unfoldable pub is_good_chain : List ℕ → List VirtioPart → Bool
is_good_chain ram parts = nat_le least_parts (length parts) && is_header ram (header_of parts) && is_result (result_of parts)
