-- The queue's three parts in guest memory: the descriptor table has a descriptor for each place of the queue; each ring has
-- its flags and its index, and then a place for each of the queue's. VIRTIO 1.2, "Split Virtqueues".
use Rattle.std.specs.Prelude.{ℕ, ◌+◌, ◌-◌, ◌*◌, ◌%◌, Bool, ◌&&◌, List}
use Rattle.spec_processor.specs.Bytes.{word, in_ram, ram_offset}
use Rattle.spec_reference.specs.VirtioChain.{descriptor_size}
use Rattle.spec_reference.specs.VirtioDevice.{VirtioDevice, index_values}

-- the flags and the index of a ring, and one place of each
abbrev pub ring_header_size : ℕ
ring_header_size = 4

abbrev pub ring_index_offset : ℕ
ring_index_offset = 2

abbrev pub ring_index_size : ℕ
ring_index_size = 2

abbrev pub available_entry_size : ℕ
available_entry_size = 2

-- a place of the used ring has a head and a length, of so many bytes each
abbrev pub used_word_size : ℕ
used_word_size = 4

abbrev pub used_entry_size : ℕ
used_entry_size = 2 * used_word_size

abbrev pub used_length_offset : ℕ
used_length_offset = used_word_size

-- the three parts lie in RAM
unfoldable pub rings_in_ram : VirtioDevice → List ℕ → Bool
rings_in_ram d ram =
    in_ram ram d.descriptors (descriptor_size * d.size)
    && in_ram ram d.available (ring_header_size + available_entry_size * d.size)
    && in_ram ram d.used (ring_header_size + used_entry_size * d.size)

-- ---- the available ring: flags, index, heads

abbrev pub available_index : VirtioDevice → List ℕ → ℕ
available_index d ram = word ram (ram_offset d.available + ring_index_offset) ring_index_size

-- the head that stands where the next request is expected
abbrev pub next_head : VirtioDevice → List ℕ → ℕ
next_head d ram = word ram (ram_offset d.available + ring_header_size + available_entry_size * (d.accepted % d.size)) available_entry_size

-- how many requests wait by the index, which counts modulo `index_values`
abbrev pub waiting_count : VirtioDevice → List ℕ → ℕ
waiting_count d ram = (available_index d ram + index_values - d.accepted) % index_values

-- ---- the used ring: flags, index, and for each place a head and a length

abbrev pub used_index_gpa : ℕ → ℕ
used_index_gpa used = used + ring_index_offset

-- the place for a request, by the count of requests with it
abbrev pub used_gpa : (used size accepted : ℕ) → ℕ
used_gpa used size accepted = used + ring_header_size + used_entry_size * ((accepted + (index_values - 1)) % index_values % size)
