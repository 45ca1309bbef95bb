-- Guest memory as a debugger sees it from a hart: by virtual addresses. This project's own, over "Sv39" of the RISC-V Privileged
-- manual.
use Rattle.std.specs.Prelude.{ℕ, zero, suc, ◌+◌, ◌^◌, nat_lt, true, if◌then◌else◌, List, [], ◌∷◌, Option, Some, None, option_and_then, slice_get}
use Rattle.spec_processor.specs.Bytes.{in_ram, ram_offset}
use Rattle.spec_processor.specs.Translation.{Destination, At, PageFault, Unreadable, Settings, place}
use Rattle.spec_processor.specs.declared.access.Access.{Access}
use Rattle.spec_processor.specs.declared.mode.Mode.{Mode}

-- kernel mode's loads, where SUM and MXR count as set: what kernel mode could read by some status
abbrev pub view_settings : (satp : ℕ) → Settings
view_settings satp = record { satp = satp; sum = true; mxr = true }

abbrev pub address_in : Destination → Option ℕ
address_in (At gpa) = Some gpa
address_in PageFault = None
address_in (Unreadable entry) = None

-- the guest-physical address of a virtual one, none where a load faults
unfoldable pub seen_address : (ram : List ℕ) (satp va : ℕ) → Option ℕ
seen_address ram satp va = address_in (place ram (view_settings satp) Mode.Kernel va Access.Load)

abbrev pub byte_in_ram : List ℕ → ℕ → Option ℕ
byte_in_ram ram gpa = if in_ram ram gpa 1 then slice_get ram (ram_offset gpa) else None

unfoldable pub seen_byte : (ram : List ℕ) (satp va : ℕ) → Option ℕ
seen_byte ram satp va = option_and_then (byte_in_ram ram) (seen_address ram satp va)

-- a byte, and bytes after it
abbrev pub begun_with : Option ℕ → List ℕ → List ℕ
begun_with None bytes = []
begun_with (Some byte) bytes = byte ∷ bytes

-- so many bytes from a virtual address on: those before the first that isn't seen, or before the end of addresses
unfoldable pub seen_bytes : (ram : List ℕ) (satp va count : ℕ) → List ℕ
seen_bytes ram satp va zero = []
seen_bytes ram satp va (suc count) =
    if nat_lt va (2 ^ 64) then begun_with (seen_byte ram satp va) (seen_bytes ram satp (va + 1) count) else []
