-- An attacker's device, which writes at any time to any address. This project's own: what it writes goes through the guard of
-- device writes, as what a disk's device moves.
use Rattle.std.specs.Prelude.{ℕ, Bool, not, ◌&&◌, List, if◌then◌else◌}
use Rattle.spec_processor.specs.Bytes.{in_ram, low_bytes, page_of}
use Rattle.sv_types.specs.Schedule.{poke_size, is_poke_address}
use Rattle.spec_reference.specs.Move.{Move, IntoRam, DeniedAt, OutsideRam}

-- what its write of eight bytes moves, where `may_write` tests pages of RAM
unfoldable pub poke_move : (ram : List ℕ) → (may_write : ℕ → Bool) → (gpa value : ℕ) → Move
poke_move ram may_write gpa value =
    if not (is_poke_address gpa && in_ram ram gpa poke_size) then OutsideRam
    else if may_write (page_of gpa) then IntoRam gpa (low_bytes poke_size value)
    else DeniedAt gpa
