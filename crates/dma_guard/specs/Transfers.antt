-- What a device may do to memory: one bit for each page of RAM says whether it may be written. This project's own.
use Rattle.std.specs.Prelude.{ℕ, Bool, List, length, if◌then◌else◌, Result, Ok, Err}
use Rattle.spec_processor.specs.Bytes.{in_ram, page_of, overwrite, part, ram_offset}
use Rattle.spec_processor.specs.Regions.{Region}
use Rattle.spec_reference.specs.Disk.{is_writable}
use Rattle.spec_reference.specs.Move.{Move}
use Rattle.dma_guard.specs.declared.DmaRefused.{DmaRefused}
use Rattle.dma_guard.specs.declared.port.DmaStep.{DmaStep}

-- what a device is answered that writes n bytes at a guest-physical address, all in one page's span
unfoldable pub write_answer : List ℕ → List Bool → (gpa n : ℕ) → Result (Unit {0}) DmaRefused
write_answer ram bits gpa n =
    if in_ram ram gpa n
    then (if is_writable bits (page_of gpa) then Ok tt else Err (DmaRefused.Protected (page_of gpa)))
    else Err DmaRefused.OutOfRam

-- the region with bytes of RAM written
abbrev pub with_written : Region → ℕ → List ℕ → Region
with_written r gpa bytes = record r { ram = overwrite r.ram (ram_offset gpa) bytes }

-- the region after that: it changes where nothing is refused
unfoldable pub after_write : Region → List Bool → ℕ → List ℕ → Region
after_write r bits gpa bytes =
    if in_ram r.ram gpa (length bytes)
    then (if is_writable bits (page_of gpa) then with_written r gpa bytes else r)
    else r

-- what a device is answered that reads n bytes
unfoldable pub read_answer : List ℕ → (gpa n : ℕ) → Result (Unit {0}) DmaRefused
read_answer ram gpa n = if in_ram ram gpa n then Ok tt else Err DmaRefused.OutOfRam

-- what it has read, or what stood in its place before
unfoldable pub after_read : List ℕ → ℕ → List ℕ → List ℕ
after_read ram gpa before = if in_ram ram gpa (length before) then part ram (ram_offset gpa) (length before) else before

-- ---- beats

-- what a beat tells of its move
abbrev pub beat_of : Move → DmaStep
beat_of Move.Idle = DmaStep.Idle
beat_of (Move.FromRam gpa) = DmaStep.Read gpa
beat_of (Move.IntoRam gpa bytes) = DmaStep.Wrote gpa (length bytes)
beat_of (Move.DeniedAt gpa) = DmaStep.Denied gpa
beat_of Move.OutsideRam = DmaStep.Range

-- the region after a move
abbrev pub after_move : Region → Move → Region
after_move r (Move.IntoRam gpa bytes) = with_written r gpa bytes
after_move r _ = r
