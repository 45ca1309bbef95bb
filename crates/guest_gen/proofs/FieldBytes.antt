-- The bytes of instructions and of fields.
use Rattle.std.proofs.Common.{◌≡◌, ◌*◌, List, [], ◌∷◌, length, refl, arith}
use Rattle.spec_processor.specs.declared.instruction.Instr.{Instr}
use Rattle.spec_processor.specs.Encoding.{fits, is_shift, is_shift_32}
use Rattle.laws_processor.proofs.LibraryBytes.{low_bytes_2, low_bytes_4, low_bytes_8}
use Rattle.guest_gen.specs.GuestCode.{setup}
use Rattle.guest_gen.specs.Images.{code_bytes}

pub length_code : (text : List Instr) → length (code_bytes text) ≡ 4 * length text
length_code [] = refl
length_code (instr ∷ text) = let h = length_code text in omega arith

pub ruleset fields_low_first = (low_bytes_2, low_bytes_4, low_bytes_8)

-- the words of the kernel's begin
unfoldable pub setup_words : Unit {0}
unfolding setup fits is_shift is_shift_32
setup_words = tt
