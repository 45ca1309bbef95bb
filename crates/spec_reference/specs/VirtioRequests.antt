-- What a chain asks for, and the moves that it makes. VIRTIO 1.2, "Device Operation" of the block device.
use Rattle.std.specs.Prelude.{ℕ, zero, suc, ◌+◌, ◌-◌, ◌*◌, ◌%◌, Bool, not, ◌&&◌, ◌||◌, ◌==◌, List, [], ◌∷◌, ◌++◌, nat_le, if◌then◌else◌, min}
use Rattle.std.specs.List.{list_all}
use Rattle.spec_processor.specs.Bytes.{word, in_ram, ram_offset, page_size}
use Rattle.spec_reference.specs.BlockDisk.{sector_size, beat_size}
use Rattle.spec_reference.specs.VirtioQueue.{used_gpa, used_index_gpa, used_length_offset}
use Rattle.spec_reference.specs.VirtioChain.{header_of}
use Rattle.sv_types.specs.declared.virtio.VirtioMove.{VirtioMove}
use Rattle.sv_types.specs.declared.virtio.VirtioPart.{VirtioPart}
use Rattle.sv_types.specs.declared.virtio.VirtioResult.{VirtioResult}
use Rattle.sv_types.specs.VirtioResults.{is_done}

-- ---- the header: a type, 4 bytes that nothing reads, a sector

abbrev pub sector_offset : ℕ
sector_offset = 8

abbrev pub read_disk : ℕ
read_disk = 0

abbrev pub write_disk : ℕ
write_disk = 1

abbrev pub type_of : List ℕ → List VirtioPart → ℕ
type_of ram parts = word ram (ram_offset (header_of parts).gpa) 4

abbrev pub sector_of : List ℕ → List VirtioPart → ℕ
sector_of ram parts = word ram (ram_offset (header_of parts).gpa + sector_offset) 8

-- ---- the result

-- the bytes of data
abbrev pub bytes_in : List VirtioPart → ℕ
bytes_in [] = 0
bytes_in (part ∷ parts) = part.len + bytes_in parts

-- data lies in RAM; no bytes lie anywhere
abbrev pub lies_in : List ℕ → VirtioPart → Bool
lies_in ram part = part.len == 0 || in_ram ram part.gpa part.len

-- the device writes the data of a request that reads the disk, and no other
abbrev pub fits_type : ℕ → VirtioPart → Bool
fits_type kind part = if kind == read_disk then part.write else not part.write

-- there are sectors, and all of them lie on the disk
abbrev pub are_sectors : (disk_size sector size : ℕ) → Bool
are_sectors disk_size sector size = not (size == 0) && size % sector_size == 0 && nat_le (sector_size * sector + size) disk_size

unfoldable pub can_move : List ℕ → (disk_size kind sector : ℕ) → List VirtioPart → Bool
can_move ram disk_size kind sector parts =
    are_sectors disk_size sector (bytes_in parts) && list_all (lies_in ram) parts && list_all (fits_type kind) parts

unfoldable pub result_by : List ℕ → (disk_size kind sector : ℕ) → List VirtioPart → VirtioResult
result_by ram disk_size kind sector parts =
    if kind == read_disk || kind == write_disk
    then (if can_move ram disk_size kind sector parts then VirtioResult.Done else VirtioResult.Failed)
    else VirtioResult.Unsupported

-- ---- the moves

-- a move ends after a beat's bytes, at the page's end or at the descriptor's
abbrev pub piece_size : (gpa len : ℕ) → ℕ
piece_size gpa len = min beat_size (min (page_size - gpa % page_size) len)

abbrev pub piece : Bool → (gpa place size : ℕ) → VirtioMove
piece write gpa place size = if write then VirtioMove.ToMemory gpa place size else VirtioMove.ToDisk gpa place size

-- the moves of at most n pieces of so many bytes, between an address and a place on the disk
unfoldable pub pieces : ℕ → Bool → (gpa place len : ℕ) → List VirtioMove
pieces zero write gpa place len = []
pieces (suc n) write gpa place zero = []
pieces (suc n) write gpa place (suc m) =
    piece write gpa place (piece_size gpa (suc m))
    ∷ pieces n write (gpa + piece_size gpa (suc m)) (place + piece_size gpa (suc m)) (suc m - piece_size gpa (suc m))

-- the moves of data, from a place on the disk on
unfoldable pub data_moves : ℕ → List VirtioPart → List VirtioMove
data_moves place [] = []
data_moves place (part ∷ parts) = pieces part.len part.write part.gpa place part.len ++ data_moves (place + part.len) parts

-- the last four: the result byte, the used ring's head and length, the used ring's index
abbrev pub last_moves : (result_gpa used size head accepted : ℕ) → List VirtioMove
last_moves result_gpa used size head accepted =
    VirtioMove.PutResult result_gpa
    ∷ VirtioMove.PutHead (used_gpa used size accepted) head
    ∷ VirtioMove.PutLength (used_gpa used size accepted + used_length_offset)
    ∷ VirtioMove.PutIndex (used_index_gpa used) accepted
    ∷ []

-- a request makes its data's moves only where it is done as far as it was judged
abbrev pub moves_by : VirtioResult → (sector : ℕ) → List VirtioPart → List VirtioMove
moves_by result sector parts = if is_done result then data_moves (sector_size * sector) parts else []
