-- Relocated fields of each kind: the words that an assembler writes, and the ends of what fits. RISC-V ELF psABI, "Relocations";
-- RISC-V Unprivileged manual, "Base Instruction Formats".
use Rattle.std.specs.Prelude.{◌≡◌, ℕ, List, [], ◌∷◌, Bool, true, false, ◌-◌, ◌^◌}
use Rattle.sv_types.specs.declared.module.Bases.{Bases}
use Rattle.sv_types.specs.declared.relocation_kind.RelocationKind.{RelocationKind}
use Rattle.sv_types.specs.declared.relocation_kind.RelocationKind.TheVariants.{Word64, Branch, Jal, PcrelHi20, PcrelLo12I, PcrelLo12S, Hi20, Lo12I, Lo12S}
use Rattle.spec_reference.specs.Relocations.{fields_right}
use Rattle.spec_examples.specs.Guests.{words, doubles}
use Rattle.spec_examples.specs.ModuleRows.{site}

-- text at address 0, and data at the value
abbrev pub data_at : ℕ → Bases
data_at value = record { va = 0; data_va = value }

-- the field at the text's begin, which is to have the value
abbrev pub has_value : RelocationKind → (value : ℕ) → (text : List ℕ) → Bool
has_value kind value text = fields_right [] (data_at value) (site 0 kind 1 0 ∷ []) text

abbrev pub is_right : RelocationKind → (value word : ℕ) → Bool
is_right kind value word = has_value kind value (words (word ∷ []))

-- n below 0, as a word
abbrev pub minus_of : ℕ → ℕ
minus_of n = 2 ^ 64 - n

pub record FieldRows : Type 0 where
  pub double_word : has_value Word64 0x123456789ABCDEF0 (doubles (0x123456789ABCDEF0 ∷ [])) ≡ true
  pub other_double_word : has_value Word64 0x123456789ABCDEF0 (doubles (0x123456789ABCDEF1 ∷ [])) ≡ false
  -- ---- a branch: BEQ of x5 and x6
  pub branch : is_right Branch 0xAAA 0x2A6285E3 ≡ true
  pub branch_of_the_other_bits : is_right Branch 0x554 0x54628A63 ≡ true
  pub farthest_branch : is_right Branch 4094 0x7E628FE3 ≡ true
  pub branch_too_far : is_right Branch 4096 0x80628063 ≡ false
  pub farthest_branch_back : is_right Branch (minus_of 4096) 0x80628063 ≡ true
  pub branch_too_far_back : is_right Branch (minus_of 4098) 0x7E628FE3 ≡ false
  pub odd_branch : is_right Branch 3 0x00628163 ≡ false
  -- ---- a jump: JAL of x1
  pub jump : is_right Jal 0xAAAAA 0x2ABAA0EF ≡ true
  pub jump_of_the_other_bits : is_right Jal 0x55554 0x554550EF ≡ true
  pub farthest_jump : is_right Jal 1048574 0x7FFFF0EF ≡ true
  pub jump_too_far : is_right Jal 1048576 0x800000EF ≡ false
  pub farthest_jump_back : is_right Jal (minus_of 1048576) 0x800000EF ≡ true
  pub jump_too_far_back : is_right Jal (minus_of 1048578) 0x7FFFF0EF ≡ false
  pub odd_jump : is_right Jal 3 0x002000EF ≡ false
  -- ---- an address in two parts: LUI of x5, ADDI of x6 and SW of x6. From 0x800 on the upper part is one more
  pub upper_part : is_right Hi20 0x123457FF 0x123452B7 ≡ true
  pub upper_part_with_a_carry : is_right Hi20 0x12345800 0x123462B7 ≡ true
  pub upper_part_without_its_carry : is_right Hi20 0x12345800 0x123452B7 ≡ false
  pub lower_part : is_right Lo12I 0x123457FF 0x7FF28313 ≡ true
  pub lower_part_after_a_carry : is_right Lo12I 0x12345800 0x80028313 ≡ true
  pub stored_part : is_right Lo12S 0x123457FF 0x7E62AFA3 ≡ true
  pub stored_part_after_a_carry : is_right Lo12S 0x12345800 0x8062A023 ≡ true
  pub other_stored_part : is_right Lo12S 0x12345800 0x8062A0A3 ≡ false
  -- ---- its ends, 2 ^ 31 - 2 ^ 11 - 1 and -2 ^ 31 - 2 ^ 11
  pub highest_upper_part : is_right Hi20 0x7FFFF7FF 0x7FFFF2B7 ≡ true
  pub too_high_an_upper_part : is_right Hi20 0x7FFFF800 0x800002B7 ≡ false
  pub lowest_upper_part : is_right Hi20 0xFFFFFFFF7FFFF800 0x800002B7 ≡ true
  pub too_low_an_upper_part : is_right Hi20 0xFFFFFFFF7FFFF7FF 0x7FFFF2B7 ≡ false
  pub too_high_a_lower_part : is_right Lo12I 0x7FFFF800 0x80028313 ≡ false
  pub too_low_a_lower_part : is_right Lo12I 0xFFFFFFFF7FFFF7FF 0x7FF28313 ≡ false
  pub too_high_a_stored_part : is_right Lo12S 0x7FFFF800 0x8062A023 ≡ false
  pub too_low_a_stored_part : is_right Lo12S 0xFFFFFFFF7FFFF7FF 0x7E62AFA3 ≡ false
  -- ---- a distance in two parts: AUIPC of x5, ADDI of x6 and SW of x6, forwards by 0x12345800 and back by 0x1801
  pub upper_distance : is_right PcrelHi20 0x12345800 0x12346297 ≡ true
  pub upper_distance_back : is_right PcrelHi20 (minus_of 0x1801) 0xFFFFE297 ≡ true
  pub lower_distance : is_right PcrelLo12I 0x12345800 0x80028313 ≡ true
  pub lower_distance_back : is_right PcrelLo12I (minus_of 0x1801) 0x7FF28313 ≡ true
  pub stored_distance : is_right PcrelLo12S 0x12345800 0x8062A023 ≡ true
  pub stored_distance_back : is_right PcrelLo12S (minus_of 0x1801) 0x7E62AFA3 ≡ true
  pub too_high_a_distance : is_right PcrelHi20 0x7FFFF800 0x80000297 ≡ false
  pub too_low_a_distance : is_right PcrelHi20 0xFFFFFFFF7FFFF7FF 0x7FFFF297 ≡ false
