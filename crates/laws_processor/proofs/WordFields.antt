-- The fields of a word that is put together from them.
use Rattle.std.proofs.Common.{◌≡◌, ℕ, suc, ◌+◌, ◌-◌, ◌*◌, ◌/◌, ◌%◌, ◌^◌, ◌<◌, true, arith, ℤ, pos, negsuc}
use Rattle.std.specs.Int.{w64, cast_unsigned}
use Rattle.std.proofs.lemmas.Int.{ints}
use Rattle.std.proofs.lemmas.Bool.Decides.{nat_tests}
use Rattle.spec_processor.specs.Instructions.{bits, signed_bits}
use Rattle.spec_processor.specs.Encoding.{r_word, i_word, is_immediate, imm_bits}

module _ (o g f d a b : ℕ) (in_o : o < 128) (in_g : g < 128) (in_f : f < 8) (in_d : d < 32) (in_a : a < 32) (in_b : b < 32) where
  pub r_opcode : bits (r_word o g f d a b) 0 7 ≡ o
  r_opcode = omega arith

  pub r_rd : bits (r_word o g f d a b) 7 12 ≡ d
  r_rd = omega arith

  pub r_funct3 : bits (r_word o g f d a b) 12 15 ≡ f
  r_funct3 = omega arith

  pub r_rs1 : bits (r_word o g f d a b) 15 20 ≡ a
  r_rs1 = omega arith

  pub r_rs2 : bits (r_word o g f d a b) 20 25 ≡ b
  r_rs2 = omega arith

  pub r_funct7 : bits (r_word o g f d a b) 25 32 ≡ g
  r_funct7 = omega arith

  -- parts of rd's place and of funct7's
  pub r_rd_low : bits (r_word o g f d a b) 7 8 ≡ d % 2
  r_rd_low = omega arith

  pub r_rd_high : bits (r_word o g f d a b) 8 12 ≡ d / 2
  r_rd_high = omega arith

  pub r_funct7_low : bits (r_word o g f d a b) 25 31 ≡ g % 64
  r_funct7_low = omega arith

  pub r_funct7_high : bits (r_word o g f d a b) 31 32 ≡ g / 64
  r_funct7_high = omega arith

  pub r_funct5 : bits (r_word o g f d a b) 27 32 ≡ g / 4
  r_funct5 = omega arith

  pub r_aq : bits (r_word o g f d a b) 26 27 ≡ g / 2 % 2
  r_aq = omega arith

  pub r_rl : bits (r_word o g f d a b) 25 26 ≡ g % 2
  r_rl = omega arith

module _ (o f d a v : ℕ) (in_o : o < 128) (in_f : f < 8) (in_d : d < 32) (in_a : a < 32) (in_v : v < 4096) where
  pub i_opcode : bits (i_word o f d a v) 0 7 ≡ o
  i_opcode = omega arith

  pub i_rd : bits (i_word o f d a v) 7 12 ≡ d
  i_rd = omega arith

  pub i_funct3 : bits (i_word o f d a v) 12 15 ≡ f
  i_funct3 = omega arith

  pub i_rs1 : bits (i_word o f d a v) 15 20 ≡ a
  i_rs1 = omega arith

  pub i_field : bits (i_word o f d a v) 20 32 ≡ v
  i_field = omega arith

  -- parts of the field
  pub i_count : bits (i_word o f d a v) 20 26 ≡ v % 64
  i_count = omega arith

  pub i_count_low : bits (i_word o f d a v) 20 25 ≡ v % 32
  i_count_low = omega arith

  pub i_funct6 : bits (i_word o f d a v) 26 32 ≡ v / 64
  i_funct6 = omega arith

  pub i_funct7 : bits (i_word o f d a v) 25 32 ≡ v / 32
  i_funct7 = omega arith

-- forms U and J: the field of 20 bits
module _ (o d v : ℕ) (in_o : o < 128) (in_d : d < 32) (in_v : v < 2 ^ 20) where
  pub u_opcode : bits (o + 2 ^ 7 * d + 2 ^ 12 * v) 0 7 ≡ o
  u_opcode = omega arith

  pub u_rd : bits (o + 2 ^ 7 * d + 2 ^ 12 * v) 7 12 ≡ d
  u_rd = omega arith

  pub u_field : bits (o + 2 ^ 7 * d + 2 ^ 12 * v) 12 32 ≡ v
  u_field = omega arith

module _ (o d x y z t : ℕ) (in_o : o < 128) (in_d : d < 32) (in_x : x < 256) (in_y : y < 2) (in_z : z < 1024) (in_t : t < 2) where
  abbrev whole : ℕ
  whole = o + 2 ^ 7 * d + 2 ^ 12 * x + 2 ^ 20 * y + 2 ^ 21 * z + 2 ^ 31 * t

  pub j_opcode : bits whole 0 7 ≡ o
  j_opcode = omega arith

  pub j_rd : bits whole 7 12 ≡ d
  j_rd = omega arith

  pub j_12_20 : bits whole 12 20 ≡ x
  j_12_20 = omega arith

  pub j_20 : bits whole 20 21 ≡ y
  j_20 = omega arith

  pub j_21_31 : bits whole 21 31 ≡ z
  j_21_31 = omega arith

  pub j_31 : bits whole 31 32 ≡ t
  j_31 = omega arith

-- ---- an immediate from its bits

signed_pos_12 : (n : ℕ) → is_immediate 12 1 (pos n) ≡ true → signed_bits 12 (bits n 0 12) ≡ pos n
signed_pos_12 n h = grind (arith, nat_tests, ints)

signed_neg_12 : (n : ℕ) → is_immediate 12 1 (negsuc n) ≡ true → signed_bits 12 (bits (2 ^ 64 - suc n) 0 12) ≡ negsuc n
signed_neg_12 n h = grind (arith, nat_tests, ints)

pub signed_12 : (imm : ℤ) → is_immediate 12 1 imm ≡ true → signed_bits 12 (imm_bits imm 0 12) ≡ imm
signed_12 (pos n) h = signed_pos_12 n h
signed_12 (negsuc n) h = signed_neg_12 n h

signed_pos_13 : (n : ℕ) → is_immediate 13 2 (pos n) ≡ true → signed_bits 13 (bits n 0 13) ≡ pos n
signed_pos_13 n h = grind (arith, nat_tests, ints)

signed_neg_13 : (n : ℕ) → is_immediate 13 2 (negsuc n) ≡ true → signed_bits 13 (bits (2 ^ 64 - suc n) 0 13) ≡ negsuc n
signed_neg_13 n h = grind (arith, nat_tests, ints)

pub signed_13 : (imm : ℤ) → is_immediate 13 2 imm ≡ true → signed_bits 13 (imm_bits imm 0 13) ≡ imm
signed_13 (pos n) h = signed_pos_13 n h
signed_13 (negsuc n) h = signed_neg_13 n h

step_pos_13 : (n : ℕ) → is_immediate 13 2 (pos n) ≡ true → n % 2 ≡ 0
step_pos_13 n h = grind (arith, nat_tests, ints)

step_neg_13 : (n : ℕ) → is_immediate 13 2 (negsuc n) ≡ true → (2 ^ 64 - suc n) % 2 ≡ 0
step_neg_13 n h = grind (arith, nat_tests, ints)

pub step_13 : (imm : ℤ) → is_immediate 13 2 imm ≡ true → cast_unsigned w64 imm % 2 ≡ 0
step_13 (pos n) h = step_pos_13 n h
step_13 (negsuc n) h = step_neg_13 n h

signed_pos_21 : (n : ℕ) → is_immediate 21 2 (pos n) ≡ true → signed_bits 21 (bits n 0 21) ≡ pos n
signed_pos_21 n h = grind (arith, nat_tests, ints)

signed_neg_21 : (n : ℕ) → is_immediate 21 2 (negsuc n) ≡ true → signed_bits 21 (bits (2 ^ 64 - suc n) 0 21) ≡ negsuc n
signed_neg_21 n h = grind (arith, nat_tests, ints)

pub signed_21 : (imm : ℤ) → is_immediate 21 2 imm ≡ true → signed_bits 21 (imm_bits imm 0 21) ≡ imm
signed_21 (pos n) h = signed_pos_21 n h
signed_21 (negsuc n) h = signed_neg_21 n h

step_pos_21 : (n : ℕ) → is_immediate 21 2 (pos n) ≡ true → n % 2 ≡ 0
step_pos_21 n h = grind (arith, nat_tests, ints)

step_neg_21 : (n : ℕ) → is_immediate 21 2 (negsuc n) ≡ true → (2 ^ 64 - suc n) % 2 ≡ 0
step_neg_21 n h = grind (arith, nat_tests, ints)

pub step_21 : (imm : ℤ) → is_immediate 21 2 imm ≡ true → cast_unsigned w64 imm % 2 ≡ 0
step_21 (pos n) h = step_pos_21 n h
step_21 (negsuc n) h = step_neg_21 n h

signed_pos_32 : (n : ℕ) → is_immediate 32 4096 (pos n) ≡ true → signed_bits 32 (bits n 0 32) ≡ pos n
signed_pos_32 n h = grind (arith, nat_tests, ints)

signed_neg_32 : (n : ℕ) → is_immediate 32 4096 (negsuc n) ≡ true → signed_bits 32 (bits (2 ^ 64 - suc n) 0 32) ≡ negsuc n
signed_neg_32 n h = grind (arith, nat_tests, ints)

pub signed_32 : (imm : ℤ) → is_immediate 32 4096 imm ≡ true → signed_bits 32 (imm_bits imm 0 32) ≡ imm
signed_32 (pos n) h = signed_pos_32 n h
signed_32 (negsuc n) h = signed_neg_32 n h

step_pos_32 : (n : ℕ) → is_immediate 32 4096 (pos n) ≡ true → n % 4096 ≡ 0
step_pos_32 n h = grind (arith, nat_tests, ints)

step_neg_32 : (n : ℕ) → is_immediate 32 4096 (negsuc n) ≡ true → (2 ^ 64 - suc n) % 4096 ≡ 0
step_neg_32 n h = grind (arith, nat_tests, ints)

pub step_32 : (imm : ℤ) → is_immediate 32 4096 imm ≡ true → cast_unsigned w64 imm % 4096 ≡ 0
step_32 (pos n) h = step_pos_32 n h
step_32 (negsuc n) h = step_neg_32 n h
