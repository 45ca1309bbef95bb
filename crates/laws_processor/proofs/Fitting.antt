-- What a word decodes to fits its fields.
use Rattle.std.proofs.Common.{◌≡◌, ℕ, ◌+◌, ◌*◌, ◌/◌, ◌%◌, ◌^◌, ◌<◌, List, [], ◌∷◌, drop, refl, Bool, true, false, cond, arith, IsTrue}
use Rattle.std.specs.Prelude.{find, ◌&&◌, Some, IfSome}
use Rattle.std.specs.Option.{option_map}
use Rattle.std.proofs.lemmas.Int.{ints}
use Rattle.std.proofs.lemmas.Bool.{lt-ltb, and_from}
use Rattle.std.proofs.lemmas.Bool.Decides.{nat_tests}
use Rattle.spec_processor.specs.declared.instruction.BranchOp.{BranchOp}
use Rattle.spec_processor.specs.declared.instruction.BranchOp.TheVariants as Branch
use Rattle.spec_processor.specs.declared.instruction.LoadOp.{LoadOp}
use Rattle.spec_processor.specs.declared.instruction.LoadOp.TheVariants as Load
use Rattle.spec_processor.specs.declared.instruction.StoreOp.{StoreOp}
use Rattle.spec_processor.specs.declared.instruction.StoreOp.TheVariants as Store
use Rattle.spec_processor.specs.declared.instruction.OpImmOp.{OpImmOp}
use Rattle.spec_processor.specs.declared.instruction.OpImmOp.TheVariants as OpImm
use Rattle.spec_processor.specs.declared.instruction.OpImm32Op.{OpImm32Op}
use Rattle.spec_processor.specs.declared.instruction.OpImm32Op.TheVariants as OpImm32
use Rattle.spec_processor.specs.declared.instruction.OpOp.{OpOp}
use Rattle.spec_processor.specs.declared.instruction.OpOp.TheVariants as Op
use Rattle.spec_processor.specs.declared.instruction.Op32Op.{Op32Op}
use Rattle.spec_processor.specs.declared.instruction.Op32Op.TheVariants as Op32
use Rattle.spec_processor.specs.declared.instruction.CsrOp.{CsrOp}
use Rattle.spec_processor.specs.declared.instruction.CsrOp.TheVariants as Csr
use Rattle.spec_processor.specs.declared.instruction.AmoOp.{AmoOp}
use Rattle.spec_processor.specs.declared.instruction.AmoOp.TheVariants as Amo
use Rattle.spec_processor.specs.declared.instruction.HyperOp.{HyperOp}
use Rattle.spec_processor.specs.declared.instruction.HyperOp.TheVariants as Hyper
use Rattle.spec_processor.specs.Instructions.{Row, rd, rs1, rs2, lui, auipc, jal, jalr, branch, load, store, op_imm, shift, op_imm_32}
use Rattle.spec_processor.specs.Instructions.{shift_32, op_op, op_32, sfence, csr, lr, sc, amo, hyper_load, hyper_store, bits, signed_bits}
use Rattle.spec_processor.specs.Instructions.{imm_i, imm_s, imm_b, imm_u, imm_j, has_row, rows, instruction_of, instruction_in}
use Rattle.spec_processor.specs.Encoding.{fits, is_immediate, is_register, is_shift, is_shift_32, is_hyper_load, is_width}

-- a number of n bits, a multiple of a step, read as signed
signed_12 : (v : ℕ) → v < 2 ^ 12 → is_immediate 12 1 (signed_bits 12 v) ≡ true
signed_12 v h = grind (arith, nat_tests, ints)

signed_13 : (v : ℕ) → v < 2 ^ 13 → v % 2 ≡ 0 → is_immediate 13 2 (signed_bits 13 v) ≡ true
signed_13 v h e = grind (arith, nat_tests, ints)

signed_21 : (v : ℕ) → v < 2 ^ 21 → v % 2 ≡ 0 → is_immediate 21 2 (signed_bits 21 v) ≡ true
signed_21 v h e = grind (arith, nat_tests, ints)

signed_32 : (v : ℕ) → v < 2 ^ 32 → v % 4096 ≡ 0 → is_immediate 32 4096 (signed_bits 32 v) ≡ true
signed_32 v h e = grind (arith, nat_tests, ints)

imm_i-fits : (w : ℕ) → is_immediate 12 1 (imm_i w) ≡ true
imm_i-fits w = signed_12 (bits w 20 32) (omega arith)

imm_s-fits : (w : ℕ) → is_immediate 12 1 (imm_s w) ≡ true
imm_s-fits w = signed_12 (bits w 7 12 + 2 ^ 5 * bits w 25 32) (omega arith)

imm_b-fits : (w : ℕ) → is_immediate 13 2 (imm_b w) ≡ true
imm_b-fits w = signed_13 (2 * bits w 8 12 + 2 ^ 5 * bits w 25 31 + 2 ^ 11 * bits w 7 8 + 2 ^ 12 * bits w 31 32) (omega arith) (omega arith)

imm_u-fits : (w : ℕ) → is_immediate 32 4096 (imm_u w) ≡ true
imm_u-fits w = signed_32 (2 ^ 12 * bits w 12 32) (omega arith) (omega arith)

imm_j-fits : (w : ℕ) → is_immediate 21 2 (imm_j w) ≡ true
imm_j-fits w = signed_21 (2 * bits w 21 31 + 2 ^ 11 * bits w 20 21 + 2 ^ 12 * bits w 12 20 + 2 ^ 20 * bits w 31 32) (omega arith) (omega arith)

register-fits : (x : ℕ) → is_register (x % 32) ≡ true
register-fits x = lt-ltb (x % 32) 32 (omega arith)

all_3 : (a b c : Bool) → a ≡ true → b ≡ true → c ≡ true → (a && b && c) ≡ true
all_3 a b c p q r = rw (p, q, r) refl

all_4 : (a b c d : Bool) → a ≡ true → b ≡ true → c ≡ true → d ≡ true → (a && b && c && d) ≡ true
all_4 a b c d p q r s = rw (p, q, r, s) refl

-- ---- the forms

module _ (w : ℕ) where
  rd-fits : is_register (rd w) ≡ true
  rd-fits = register-fits (w / 2 ^ 7)

  rs1-fits : is_register (rs1 w) ≡ true
  rs1-fits = register-fits (w / 2 ^ 15)

  rs2-fits : is_register (rs2 w) ≡ true
  rs2-fits = register-fits (w / 2 ^ 20)

  lui-fits : fits (lui w) ≡ true
  unfolding fits
  lui-fits = and_from _ _ rd-fits (imm_u-fits w)

  auipc-fits : fits (auipc w) ≡ true
  unfolding fits
  auipc-fits = and_from _ _ rd-fits (imm_u-fits w)

  jal-fits : fits (jal w) ≡ true
  unfolding fits
  jal-fits = and_from _ _ rd-fits (imm_j-fits w)

  jalr-fits : fits (jalr w) ≡ true
  unfolding fits
  jalr-fits = all_3 _ _ _ rd-fits rs1-fits (imm_i-fits w)

  branch-fits : (op : BranchOp) → fits (branch op w) ≡ true
  unfolding fits
  branch-fits op = all_3 _ _ _ rs1-fits rs2-fits (imm_b-fits w)

  load-fits : (op : LoadOp) → fits (load op w) ≡ true
  unfolding fits
  load-fits op = all_3 _ _ _ rd-fits rs1-fits (imm_i-fits w)

  store-fits : (op : StoreOp) → fits (store op w) ≡ true
  unfolding fits
  store-fits op = all_3 _ _ _ rs1-fits rs2-fits (imm_s-fits w)

  op_imm-fits : (op : OpImmOp) → is_shift op ≡ false → fits (op_imm op w) ≡ true
  unfolding fits
  op_imm-fits op s = all_3 _ _ _ rd-fits rs1-fits (rw s (and_from _ _ (imm_i-fits w) refl))

  shift-fits : (op : OpImmOp) → is_shift op ≡ true → fits (shift op w) ≡ true
  unfolding fits
  shift-fits op s = all_3 _ _ _ rd-fits rs1-fits (rw s (lt-ltb (bits w 20 26) 64 (omega arith)))

  op_imm_32-fits : (op : OpImm32Op) → is_shift_32 op ≡ false → fits (op_imm_32 op w) ≡ true
  unfolding fits
  op_imm_32-fits op s = all_3 _ _ _ rd-fits rs1-fits (rw s (and_from _ _ (imm_i-fits w) refl))

  shift_32-fits : (op : OpImm32Op) → is_shift_32 op ≡ true → fits (shift_32 op w) ≡ true
  unfolding fits
  shift_32-fits op s = all_3 _ _ _ rd-fits rs1-fits (rw s (lt-ltb (bits w 20 25) 32 (omega arith)))

  op_op-fits : (op : OpOp) → fits (op_op op w) ≡ true
  unfolding fits
  op_op-fits op = all_3 _ _ _ rd-fits rs1-fits rs2-fits

  op_32-fits : (op : Op32Op) → fits (op_32 op w) ≡ true
  unfolding fits
  op_32-fits op = all_3 _ _ _ rd-fits rs1-fits rs2-fits

  sfence-fits : fits (sfence w) ≡ true
  unfolding fits
  sfence-fits = and_from _ _ rs1-fits rs2-fits

  csr-fits : (op : CsrOp) → fits (csr op w) ≡ true
  unfolding fits
  csr-fits op = all_3 _ _ _ rd-fits rs1-fits (lt-ltb (bits w 20 32) 4096 (omega arith))

  lr-fits : (width : ℕ) → is_width width ≡ true → fits (lr width w) ≡ true
  unfolding fits
  lr-fits width h = all_3 _ _ _ rd-fits rs1-fits h

  sc-fits : (width : ℕ) → is_width width ≡ true → fits (sc width w) ≡ true
  unfolding fits
  sc-fits width h = all_4 _ _ _ _ rd-fits rs1-fits rs2-fits h

  amo-fits : (op : AmoOp) (width : ℕ) → is_width width ≡ true → fits (amo op width w) ≡ true
  unfolding fits
  amo-fits op width h = all_4 _ _ _ _ rd-fits rs1-fits rs2-fits h

  hyper_load-fits : (op : HyperOp) → is_hyper_load op ≡ true → fits (hyper_load op w) ≡ true
  unfolding fits
  hyper_load-fits op h = all_4 _ _ _ _ rd-fits rs1-fits refl (rw h refl)

  hyper_store-fits : (op : HyperOp) → is_hyper_load op ≡ false → fits (hyper_store op w) ≡ true
  unfolding fits
  hyper_store-fits op h = all_4 _ _ _ _ refl rs1-fits rs2-fits (rw h refl)

-- the rows' forms fit, row by row
abbrev pub AllFit : ℕ → List Row → Type 0
AllFit w [] = Unit {0}
AllFit w (row ∷ rest) = (fits (row.form w) ≡ true) × AllFit w rest

find_fits : (w : ℕ) (rs : List Row) → AllFit w rs → IfSome (option_map (instruction_in w) (find (has_row w) rs)) (λ instr. IsTrue (fits instr))
find_fits w [] h = tt
find_fits w (row ∷ rs) h = step (has_row w row) (find_fits w rs h.1)
  where
    step : (b : Bool) → IfSome (option_map (instruction_in w) (find (has_row w) rs)) (λ instr. IsTrue (fits instr))
        → IfSome (option_map (instruction_in w) (cond b (Some row) (find (has_row w) rs))) (λ instr. IsTrue (fits instr))
    step true rest = h.0
    step false rest = rest

rows-fit-from-80 : (w : ℕ) → AllFit w (drop 80 rows)
unfolding rows fits is_shift is_shift_32 is_hyper_load
rows-fit-from-80 w = (
  amo-fits w Amo.Amomax 4 refl,
  (
    amo-fits w Amo.Amomax 8 refl,
    (
      amo-fits w Amo.Amominu 4 refl,
      (
        amo-fits w Amo.Amominu 8 refl,
        (
          amo-fits w Amo.Amomaxu 4 refl,
          (
            amo-fits w Amo.Amomaxu 8 refl,
            (
              refl,
              (
                refl,
                (
                  refl,
                  (
                    refl,
                    (
                      sfence-fits w,
                      (
                        hyper_store-fits w Hyper.HfenceVvma refl,
                        (
                          hyper_store-fits w Hyper.HfenceGvma refl,
                          (
                            csr-fits w Csr.Csrrw,
                            (
                              csr-fits w Csr.Csrrs,
                              (
                                csr-fits w Csr.Csrrc,
                                (
                                  csr-fits w Csr.Csrrwi,
                                  (
                                    csr-fits w Csr.Csrrsi,
                                    (
                                      csr-fits w Csr.Csrrci,
                                      (
                                        hyper_load-fits w Hyper.HlvB refl,
                                        (
                                          hyper_load-fits w Hyper.HlvBu refl,
                                          (
                                            hyper_load-fits w Hyper.HlvH refl,
                                            (
                                              hyper_load-fits w Hyper.HlvHu refl,
                                              (
                                                hyper_load-fits w Hyper.HlvxHu refl,
                                                (
                                                  hyper_load-fits w Hyper.HlvW refl,
                                                  (
                                                    hyper_load-fits w Hyper.HlvWu refl,
                                                    (
                                                      hyper_load-fits w Hyper.HlvxWu refl,
                                                      (
                                                        hyper_load-fits w Hyper.HlvD refl,
                                                        (
                                                          hyper_store-fits w Hyper.HsvB refl,
                                                          (
                                                            hyper_store-fits w Hyper.HsvH refl,
                                                            (
                                                              hyper_store-fits w Hyper.HsvW refl,
                                                              (
                                                                hyper_store-fits w Hyper.HsvD refl,
                                                                tt,
                                                              ),
                                                            ),
                                                          ),
                                                        ),
                                                      ),
                                                    ),
                                                  ),
                                                ),
                                              ),
                                            ),
                                          ),
                                        ),
                                      ),
                                    ),
                                  ),
                                ),
                              ),
                            ),
                          ),
                        ),
                      ),
                    ),
                  ),
                ),
              ),
            ),
          ),
        ),
      ),
    ),
  ),
)

rows-fit-from-40 : (w : ℕ) → AllFit w (drop 40 rows)
unfolding rows fits is_shift is_shift_32 is_hyper_load
rows-fit-from-40 w = (
  op_op-fits w Op.Or,
  (
    op_op-fits w Op.And,
    (
      op_op-fits w Op.Sub,
      (
        op_op-fits w Op.Sra,
        (
          op_op-fits w Op.Mul,
          (
            op_op-fits w Op.Mulh,
            (
              op_op-fits w Op.Mulhsu,
              (
                op_op-fits w Op.Mulhu,
                (
                  op_op-fits w Op.Div,
                  (
                    op_op-fits w Op.Divu,
                    (
                      op_op-fits w Op.Rem,
                      (
                        op_op-fits w Op.Remu,
                        (
                          op_32-fits w Op32.Addw,
                          (
                            op_32-fits w Op32.Sllw,
                            (
                              op_32-fits w Op32.Srlw,
                              (
                                op_32-fits w Op32.Subw,
                                (
                                  op_32-fits w Op32.Sraw,
                                  (
                                    op_32-fits w Op32.Mulw,
                                    (
                                      op_32-fits w Op32.Divw,
                                      (
                                        op_32-fits w Op32.Divuw,
                                        (
                                          op_32-fits w Op32.Remw,
                                          (
                                            op_32-fits w Op32.Remuw,
                                            (
                                              refl,
                                              (
                                                refl,
                                                (
                                                  lr-fits w 4 refl,
                                                  (
                                                    lr-fits w 8 refl,
                                                    (
                                                      sc-fits w 4 refl,
                                                      (
                                                        sc-fits w 8 refl,
                                                        (
                                                          amo-fits w Amo.Amoswap 4 refl,
                                                          (
                                                            amo-fits w Amo.Amoswap 8 refl,
                                                            (
                                                              amo-fits w Amo.Amoadd 4 refl,
                                                              (
                                                                amo-fits w Amo.Amoadd 8 refl,
                                                                (
                                                                  amo-fits w Amo.Amoxor 4 refl,
                                                                  (
                                                                    amo-fits w Amo.Amoxor 8 refl,
                                                                    (
                                                                      amo-fits w Amo.Amoand 4 refl,
                                                                      (
                                                                        amo-fits w Amo.Amoand 8 refl,
                                                                        (
                                                                          amo-fits w Amo.Amoor 4 refl,
                                                                          (
                                                                            amo-fits w Amo.Amoor 8 refl,
                                                                            (
                                                                              amo-fits w Amo.Amomin 4 refl,
                                                                              (
                                                                                amo-fits w Amo.Amomin 8 refl,
                                                                                rows-fit-from-80 w,
                                                                              ),
                                                                            ),
                                                                          ),
                                                                        ),
                                                                      ),
                                                                    ),
                                                                  ),
                                                                ),
                                                              ),
                                                            ),
                                                          ),
                                                        ),
                                                      ),
                                                    ),
                                                  ),
                                                ),
                                              ),
                                            ),
                                          ),
                                        ),
                                      ),
                                    ),
                                  ),
                                ),
                              ),
                            ),
                          ),
                        ),
                      ),
                    ),
                  ),
                ),
              ),
            ),
          ),
        ),
      ),
    ),
  ),
)

rows-fit : (w : ℕ) → AllFit w rows
unfolding rows fits is_shift is_shift_32 is_hyper_load
rows-fit w = (
  lui-fits w,
  (
    auipc-fits w,
    (
      jal-fits w,
      (
        jalr-fits w,
        (
          branch-fits w Branch.Beq,
          (
            branch-fits w Branch.Bne,
            (
              branch-fits w Branch.Blt,
              (
                branch-fits w Branch.Bge,
                (
                  branch-fits w Branch.Bltu,
                  (
                    branch-fits w Branch.Bgeu,
                    (
                      load-fits w Load.Lb,
                      (
                        load-fits w Load.Lh,
                        (
                          load-fits w Load.Lw,
                          (
                            load-fits w Load.Ld,
                            (
                              load-fits w Load.Lbu,
                              (
                                load-fits w Load.Lhu,
                                (
                                  load-fits w Load.Lwu,
                                  (
                                    store-fits w Store.Sb,
                                    (
                                      store-fits w Store.Sh,
                                      (
                                        store-fits w Store.Sw,
                                        (
                                          store-fits w Store.Sd,
                                          (
                                            op_imm-fits w OpImm.Addi refl,
                                            (
                                              op_imm-fits w OpImm.Slti refl,
                                              (
                                                op_imm-fits w OpImm.Sltiu refl,
                                                (
                                                  op_imm-fits w OpImm.Xori refl,
                                                  (
                                                    op_imm-fits w OpImm.Ori refl,
                                                    (
                                                      op_imm-fits w OpImm.Andi refl,
                                                      (
                                                        shift-fits w OpImm.Slli refl,
                                                        (
                                                          shift-fits w OpImm.Srli refl,
                                                          (
                                                            shift-fits w OpImm.Srai refl,
                                                            (
                                                              op_imm_32-fits w OpImm32.Addiw refl,
                                                              (
                                                                shift_32-fits w OpImm32.Slliw refl,
                                                                (
                                                                  shift_32-fits w OpImm32.Srliw refl,
                                                                  (
                                                                    shift_32-fits w OpImm32.Sraiw refl,
                                                                    (
                                                                      op_op-fits w Op.Add,
                                                                      (
                                                                        op_op-fits w Op.Sll,
                                                                        (
                                                                          op_op-fits w Op.Slt,
                                                                          (
                                                                            op_op-fits w Op.Sltu,
                                                                            (
                                                                              op_op-fits w Op.Xor,
                                                                              (
                                                                                op_op-fits w Op.Srl,
                                                                                rows-fit-from-40 w,
                                                                              ),
                                                                            ),
                                                                          ),
                                                                        ),
                                                                      ),
                                                                    ),
                                                                  ),
                                                                ),
                                                              ),
                                                            ),
                                                          ),
                                                        ),
                                                      ),
                                                    ),
                                                  ),
                                                ),
                                              ),
                                            ),
                                          ),
                                        ),
                                      ),
                                    ),
                                  ),
                                ),
                              ),
                            ),
                          ),
                        ),
                      ),
                    ),
                  ),
                ),
              ),
            ),
          ),
        ),
      ),
    ),
  ),
)

-- the fields of a word's instruction are in range
pub instruction-fits : (w : ℕ) → IfSome (instruction_of w) (λ instr. IsTrue (fits instr))
unfolding instruction_of
instruction-fits w = find_fits w rows (rows-fit w)
