-- What the word of each instruction tells by its transformed form.
use Rattle.std.proofs.Common.{◌≡◌, ℕ, ◌%◌, inl, inr, List, [], ◌∷◌, drop, refl, subst, Bool, true, false, cond}
use Rattle.std.specs.Prelude.{find, Option, Some, IfSome, bit_and}
use Rattle.std.specs.Option.{option_map}
use Rattle.std.proofs.lemmas.Bool.{eqb-true}
use Rattle.spec_processor.specs.Effects.{effect_of}
use Rattle.spec_processor.specs.Instructions.{Row, bits, has_row, rows, instruction_of, instruction_in, load, store}
use Rattle.spec_processor.specs.Regions.{IsWidth}
use Rattle.spec_processor.specs.declared.instruction.Instr.{Instr}
use Rattle.spec_processor.specs.declared.instruction.LoadOp.{LoadOp}
use Rattle.spec_processor.specs.declared.instruction.StoreOp.{StoreOp}
use Rattle.laws_processor.proofs.Decoding.{IsOnlyRow}
use Rattle.laws_simulation.proofs.AtomicsAgree.{IsAtomic}

-- ---- what a row says of its words

pub record LoadTells (w : ℕ) (op : LoadOp) : Type 0 where
  pub value : ℕ
  pub fits : bit_and w 0x707F ≡ value
  pub only : IsOnlyRow 0x707F value (load op)
  pub opcode : value % 128 ≡ 0x03

pub record StoreTells (w : ℕ) (op : StoreOp) : Type 0 where
  pub value : ℕ
  pub fits : bit_and w 0x707F ≡ value
  pub only : IsOnlyRow 0x707F value (store op)
  pub opcode : value % 128 ≡ 0x23

pub record AtomicTells (w : ℕ) : Type 0 where
  pub mask : ℕ
  pub value : ℕ
  pub form : ℕ → Instr
  pub fits : bit_and w mask ≡ value
  pub only : IsOnlyRow mask value form
  pub kept : bit_and 0xFFF07FFF mask ≡ mask
  pub opcode : bit_and value 0x7F ≡ 0x2F
  pub low : bit_and mask 0x7F ≡ 0x7F
  pub atomic : (registers : List ℕ) (pc x : ℕ) → IsAtomic (effect_of (form x) registers pc)

abbrev pub Tells : ℕ → Instr → Type 0
Tells w (Instr.Load op rd rs1 imm) = LoadTells w op × (rd ≡ bits w 7 12)
Tells w (Instr.Store op rs1 rs2 imm) = StoreTells w op × (rs2 ≡ bits w 20 25)
Tells w (Instr.Lr rd rs1 width aq rl) = AtomicTells w × IsWidth width
Tells w (Instr.Sc rd rs1 rs2 width aq rl) = AtomicTells w × IsWidth width
Tells w (Instr.Amo op rd rs1 rs2 width aq rl) = AtomicTells w × IsWidth width
Tells w _ = Unit {0}

abbrev pub RowTells : ℕ → Row → Type 0
RowTells w row = has_row w row ≡ true → Tells w (instruction_in w row)

abbrev pub AllTell : ℕ → List Row → Type 0
AllTell w [] = Unit {0}
AllTell w (row ∷ rest) = RowTells w row × AllTell w rest

rows_tell_from_80 : (w : ℕ) → AllTell w (drop 80 rows)
unfolding rows effect_of
rows_tell_from_80 w = (
  (λ e. (
    record {
      mask = _;
      value = _;
      form = _;
      fits = eqb-true _ _ e;
      only = refl;
      kept = refl;
      opcode = refl;
      low = refl;
      atomic = λ registers pc x. tt;
    },
    inr (inr (inl refl)),
  )),
  (
    (λ e. (
      record {
        mask = _;
        value = _;
        form = _;
        fits = eqb-true _ _ e;
        only = refl;
        kept = refl;
        opcode = refl;
        low = refl;
        atomic = λ registers pc x. tt;
      },
      inr (inr (inr refl)),
    )),
    (
      (λ e. (
        record {
          mask = _;
          value = _;
          form = _;
          fits = eqb-true _ _ e;
          only = refl;
          kept = refl;
          opcode = refl;
          low = refl;
          atomic = λ registers pc x. tt;
        },
        inr (inr (inl refl)),
      )),
      (
        (λ e. (
          record {
            mask = _;
            value = _;
            form = _;
            fits = eqb-true _ _ e;
            only = refl;
            kept = refl;
            opcode = refl;
            low = refl;
            atomic = λ registers pc x. tt;
          },
          inr (inr (inr refl)),
        )),
        (
          (λ e. (
            record {
              mask = _;
              value = _;
              form = _;
              fits = eqb-true _ _ e;
              only = refl;
              kept = refl;
              opcode = refl;
              low = refl;
              atomic = λ registers pc x. tt;
            },
            inr (inr (inl refl)),
          )),
          (
            (λ e. (
              record {
                mask = _;
                value = _;
                form = _;
                fits = eqb-true _ _ e;
                only = refl;
                kept = refl;
                opcode = refl;
                low = refl;
                atomic = λ registers pc x. tt;
              },
              inr (inr (inr refl)),
            )),
            (
              (λ e. tt),
              (
                (λ e. tt),
                (
                  (λ e. tt),
                  (
                    (λ e. tt),
                    (
                      (λ e. tt),
                      (
                        (λ e. tt),
                        (
                          (λ e. tt),
                          (
                            (λ e. tt),
                            (
                              (λ e. tt),
                              (
                                (λ e. tt),
                                (
                                  (λ e. tt),
                                  (
                                    (λ e. tt),
                                    (
                                      (λ e. tt),
                                      (
                                        (λ e. tt),
                                        (
                                          (λ e. tt),
                                          (
                                            (λ e. tt),
                                            (
                                              (λ e. tt),
                                              (
                                                (λ e. tt),
                                                (
                                                  (λ e. tt),
                                                  (
                                                    (λ e. tt),
                                                    (
                                                      (λ e. tt),
                                                      (
                                                        (λ e. tt),
                                                        (
                                                          (λ e. tt),
                                                          (
                                                            (λ e. tt),
                                                            (
                                                              (λ e. tt),
                                                              (
                                                                (λ e. tt),
                                                                tt,
                                                              ),
                                                            ),
                                                          ),
                                                        ),
                                                      ),
                                                    ),
                                                  ),
                                                ),
                                              ),
                                            ),
                                          ),
                                        ),
                                      ),
                                    ),
                                  ),
                                ),
                              ),
                            ),
                          ),
                        ),
                      ),
                    ),
                  ),
                ),
              ),
            ),
          ),
        ),
      ),
    ),
  ),
)

rows_tell_from_40 : (w : ℕ) → AllTell w (drop 40 rows)
unfolding rows effect_of
rows_tell_from_40 w = (
  (λ e. tt),
  (
    (λ e. tt),
    (
      (λ e. tt),
      (
        (λ e. tt),
        (
          (λ e. tt),
          (
            (λ e. tt),
            (
              (λ e. tt),
              (
                (λ e. tt),
                (
                  (λ e. tt),
                  (
                    (λ e. tt),
                    (
                      (λ e. tt),
                      (
                        (λ e. tt),
                        (
                          (λ e. tt),
                          (
                            (λ e. tt),
                            (
                              (λ e. tt),
                              (
                                (λ e. tt),
                                (
                                  (λ e. tt),
                                  (
                                    (λ e. tt),
                                    (
                                      (λ e. tt),
                                      (
                                        (λ e. tt),
                                        (
                                          (λ e. tt),
                                          (
                                            (λ e. tt),
                                            (
                                              (λ e. tt),
                                              (
                                                (λ e. tt),
                                                (
                                                  (λ e. (
                                                    record {
                                                      mask = _;
                                                      value = _;
                                                      form = _;
                                                      fits = eqb-true _ _ e;
                                                      only = refl;
                                                      kept = refl;
                                                      opcode = refl;
                                                      low = refl;
                                                      atomic = λ registers pc x. tt;
                                                    },
                                                    inr (inr (inl refl)),
                                                  )),
                                                  (
                                                    (λ e. (
                                                      record {
                                                        mask = _;
                                                        value = _;
                                                        form = _;
                                                        fits = eqb-true _ _ e;
                                                        only = refl;
                                                        kept = refl;
                                                        opcode = refl;
                                                        low = refl;
                                                        atomic = λ registers pc x. tt;
                                                      },
                                                      inr (inr (inr refl)),
                                                    )),
                                                    (
                                                      (λ e. (
                                                        record {
                                                          mask = _;
                                                          value = _;
                                                          form = _;
                                                          fits = eqb-true _ _ e;
                                                          only = refl;
                                                          kept = refl;
                                                          opcode = refl;
                                                          low = refl;
                                                          atomic = λ registers pc x. tt;
                                                        },
                                                        inr (inr (inl refl)),
                                                      )),
                                                      (
                                                        (λ e. (
                                                          record {
                                                            mask = _;
                                                            value = _;
                                                            form = _;
                                                            fits = eqb-true _ _ e;
                                                            only = refl;
                                                            kept = refl;
                                                            opcode = refl;
                                                            low = refl;
                                                            atomic = λ registers pc x. tt;
                                                          },
                                                          inr (inr (inr refl)),
                                                        )),
                                                        (
                                                          (λ e. (
                                                            record {
                                                              mask = _;
                                                              value = _;
                                                              form = _;
                                                              fits = eqb-true _ _ e;
                                                              only = refl;
                                                              kept = refl;
                                                              opcode = refl;
                                                              low = refl;
                                                              atomic = λ registers pc x. tt;
                                                            },
                                                            inr (inr (inl refl)),
                                                          )),
                                                          (
                                                            (λ e. (
                                                              record {
                                                                mask = _;
                                                                value = _;
                                                                form = _;
                                                                fits = eqb-true _ _ e;
                                                                only = refl;
                                                                kept = refl;
                                                                opcode = refl;
                                                                low = refl;
                                                                atomic = λ registers pc x. tt;
                                                              },
                                                              inr (inr (inr refl)),
                                                            )),
                                                            (
                                                              (λ e. (
                                                                record {
                                                                  mask = _;
                                                                  value = _;
                                                                  form = _;
                                                                  fits = eqb-true _ _ e;
                                                                  only = refl;
                                                                  kept = refl;
                                                                  opcode = refl;
                                                                  low = refl;
                                                                  atomic = λ registers pc x. tt;
                                                                },
                                                                inr (inr (inl refl)),
                                                              )),
                                                              (
                                                                (λ e. (
                                                                  record {
                                                                    mask = _;
                                                                    value = _;
                                                                    form = _;
                                                                    fits = eqb-true _ _ e;
                                                                    only = refl;
                                                                    kept = refl;
                                                                    opcode = refl;
                                                                    low = refl;
                                                                    atomic = λ registers pc x. tt;
                                                                  },
                                                                  inr (inr (inr refl)),
                                                                )),
                                                                (
                                                                  (λ e. (
                                                                    record {
                                                                      mask = _;
                                                                      value = _;
                                                                      form = _;
                                                                      fits = eqb-true _ _ e;
                                                                      only = refl;
                                                                      kept = refl;
                                                                      opcode = refl;
                                                                      low = refl;
                                                                      atomic = λ registers pc x. tt;
                                                                    },
                                                                    inr (inr (inl refl)),
                                                                  )),
                                                                  (
                                                                    (λ e. (
                                                                      record {
                                                                        mask = _;
                                                                        value = _;
                                                                        form = _;
                                                                        fits = eqb-true _ _ e;
                                                                        only = refl;
                                                                        kept = refl;
                                                                        opcode = refl;
                                                                        low = refl;
                                                                        atomic = λ registers pc x. tt;
                                                                      },
                                                                      inr (inr (inr refl)),
                                                                    )),
                                                                    (
                                                                      (λ e. (
                                                                        record {
                                                                          mask = _;
                                                                          value = _;
                                                                          form = _;
                                                                          fits = eqb-true _ _ e;
                                                                          only = refl;
                                                                          kept = refl;
                                                                          opcode = refl;
                                                                          low = refl;
                                                                          atomic = λ registers pc x. tt;
                                                                        },
                                                                        inr (inr (inl refl)),
                                                                      )),
                                                                      (
                                                                        (λ e. (
                                                                          record {
                                                                            mask = _;
                                                                            value = _;
                                                                            form = _;
                                                                            fits = eqb-true _ _ e;
                                                                            only = refl;
                                                                            kept = refl;
                                                                            opcode = refl;
                                                                            low = refl;
                                                                            atomic = λ registers pc x. tt;
                                                                          },
                                                                          inr (inr (inr refl)),
                                                                        )),
                                                                        (
                                                                          (λ e. (
                                                                            record {
                                                                              mask = _;
                                                                              value = _;
                                                                              form = _;
                                                                              fits = eqb-true _ _ e;
                                                                              only = refl;
                                                                              kept = refl;
                                                                              opcode = refl;
                                                                              low = refl;
                                                                              atomic = λ registers pc x. tt;
                                                                            },
                                                                            inr (inr (inl refl)),
                                                                          )),
                                                                          (
                                                                            (λ e. (
                                                                              record {
                                                                                mask = _;
                                                                                value = _;
                                                                                form = _;
                                                                                fits = eqb-true _ _ e;
                                                                                only = refl;
                                                                                kept = refl;
                                                                                opcode = refl;
                                                                                low = refl;
                                                                                atomic = λ registers pc x. tt;
                                                                              },
                                                                              inr (inr (inr refl)),
                                                                            )),
                                                                            (
                                                                              (λ e. (
                                                                                record {
                                                                                  mask = _;
                                                                                  value = _;
                                                                                  form = _;
                                                                                  fits = eqb-true _ _ e;
                                                                                  only = refl;
                                                                                  kept = refl;
                                                                                  opcode = refl;
                                                                                  low = refl;
                                                                                  atomic = λ registers pc x. tt;
                                                                                },
                                                                                inr (inr (inl refl)),
                                                                              )),
                                                                              (
                                                                                (λ e. (
                                                                                  record {
                                                                                    mask = _;
                                                                                    value = _;
                                                                                    form = _;
                                                                                    fits = eqb-true _ _ e;
                                                                                    only = refl;
                                                                                    kept = refl;
                                                                                    opcode = refl;
                                                                                    low = refl;
                                                                                    atomic = λ registers pc x. tt;
                                                                                  },
                                                                                  inr (inr (inr refl)),
                                                                                )),
                                                                                rows_tell_from_80 w,
                                                                              ),
                                                                            ),
                                                                          ),
                                                                        ),
                                                                      ),
                                                                    ),
                                                                  ),
                                                                ),
                                                              ),
                                                            ),
                                                          ),
                                                        ),
                                                      ),
                                                    ),
                                                  ),
                                                ),
                                              ),
                                            ),
                                          ),
                                        ),
                                      ),
                                    ),
                                  ),
                                ),
                              ),
                            ),
                          ),
                        ),
                      ),
                    ),
                  ),
                ),
              ),
            ),
          ),
        ),
      ),
    ),
  ),
)

rows_tell : (w : ℕ) → AllTell w rows
unfolding rows effect_of
rows_tell w = (
  (λ e. tt),
  (
    (λ e. tt),
    (
      (λ e. tt),
      (
        (λ e. tt),
        (
          (λ e. tt),
          (
            (λ e. tt),
            (
              (λ e. tt),
              (
                (λ e. tt),
                (
                  (λ e. tt),
                  (
                    (λ e. tt),
                    (
                      (λ e. (record { value = _; fits = eqb-true _ _ e; only = refl; opcode = refl }, refl)),
                      (
                        (λ e. (record { value = _; fits = eqb-true _ _ e; only = refl; opcode = refl }, refl)),
                        (
                          (λ e. (record { value = _; fits = eqb-true _ _ e; only = refl; opcode = refl }, refl)),
                          (
                            (λ e. (record { value = _; fits = eqb-true _ _ e; only = refl; opcode = refl }, refl)),
                            (
                              (λ e. (record { value = _; fits = eqb-true _ _ e; only = refl; opcode = refl }, refl)),
                              (
                                (λ e. (record { value = _; fits = eqb-true _ _ e; only = refl; opcode = refl }, refl)),
                                (
                                  (λ e. (record { value = _; fits = eqb-true _ _ e; only = refl; opcode = refl }, refl)),
                                  (
                                    (λ e. (record { value = _; fits = eqb-true _ _ e; only = refl; opcode = refl }, refl)),
                                    (
                                      (λ e. (record { value = _; fits = eqb-true _ _ e; only = refl; opcode = refl }, refl)),
                                      (
                                        (λ e. (record { value = _; fits = eqb-true _ _ e; only = refl; opcode = refl }, refl)),
                                        (
                                          (λ e. (record { value = _; fits = eqb-true _ _ e; only = refl; opcode = refl }, refl)),
                                          (
                                            (λ e. tt),
                                            (
                                              (λ e. tt),
                                              (
                                                (λ e. tt),
                                                (
                                                  (λ e. tt),
                                                  (
                                                    (λ e. tt),
                                                    (
                                                      (λ e. tt),
                                                      (
                                                        (λ e. tt),
                                                        (
                                                          (λ e. tt),
                                                          (
                                                            (λ e. tt),
                                                            (
                                                              (λ e. tt),
                                                              (
                                                                (λ e. tt),
                                                                (
                                                                  (λ e. tt),
                                                                  (
                                                                    (λ e. tt),
                                                                    (
                                                                      (λ e. tt),
                                                                      (
                                                                        (λ e. tt),
                                                                        (
                                                                          (λ e. tt),
                                                                          (
                                                                            (λ e. tt),
                                                                            (
                                                                              (λ e. tt),
                                                                              (
                                                                                (λ e. tt),
                                                                                rows_tell_from_40 w,
                                                                              ),
                                                                            ),
                                                                          ),
                                                                        ),
                                                                      ),
                                                                    ),
                                                                  ),
                                                                ),
                                                              ),
                                                            ),
                                                          ),
                                                        ),
                                                      ),
                                                    ),
                                                  ),
                                                ),
                                              ),
                                            ),
                                          ),
                                        ),
                                      ),
                                    ),
                                  ),
                                ),
                              ),
                            ),
                          ),
                        ),
                      ),
                    ),
                  ),
                ),
              ),
            ),
          ),
        ),
      ),
    ),
  ),
)

-- the row that is found tells
find_step : (w : ℕ) (row : Row) (rest : List Row) (b : Bool) → has_row w row ≡ b → RowTells w row
    → IfSome (option_map (instruction_in w) (find (has_row w) rest)) (Tells w) → IfSome (option_map (instruction_in w) (cond b (Some row) (find (has_row w) rest))) (Tells w)
find_step w row rest true e tells later = tells e
find_step w row rest false e tells later = later

find_tells : (w : ℕ) (rs : List Row) → AllTell w rs → IfSome (option_map (instruction_in w) (find (has_row w) rs)) (Tells w)
find_tells w [] all = tt
find_tells w (row ∷ rest) all = find_step w row rest (has_row w row) refl all.0 (find_tells w rest all.1)

word_tells : (w : ℕ) → IfSome (instruction_of w) (Tells w)
unfolding instruction_of
word_tells w = find_tells w rows (rows_tell w)

tells_by : (w : ℕ) (x : Option Instr) (i : Instr) → x ≡ Some i → IfSome x (Tells w) → Tells w i
tells_by w x i e all = subst (λ (y : Option Instr). IfSome y (Tells w)) e all

pub instruction_tells : (w : ℕ) (i : Instr) → instruction_of w ≡ Some i → Tells w i
instruction_tells w i e = tells_by w (instruction_of w) i e (word_tells w)
