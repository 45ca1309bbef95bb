-- One word is SRET's, by its low 32 bits.
use Rattle.std.proofs.Common.{◌≡◌, ℕ, List, [], ◌∷◌, refl, sym, ap, subst, Bool, true, false, cond}
use Rattle.std.specs.Prelude.{find, bit_and, ◌==◌, ◌&&◌, Some, if◌then◌else◌, Option}
use Rattle.std.specs.List.{list_all}
use Rattle.std.specs.Option.{option_map}
use Rattle.std.proofs.lemmas.Bool.{eqb-true, and_parts}
use Rattle.spec_processor.specs.declared.instruction.Instr.{Instr}
use Rattle.spec_processor.specs.Instructions.{Row, has_row, rows, instruction_of, instruction_in, plain, sret_word}
use Rattle.laws_processor.proofs.Decoding.{found}
use Rattle.spec_hardware.specs.Served.{is_sret, is_sret_word}

abbrev sret_row : ℕ → Row → Bool
sret_row w row = if is_sret (Some (row.form w)) then (row.mask == 0xFFFFFFFF && row.match == sret_word) else true

here : (w : ℕ) (row : Row) (b : Bool) → is_sret (Some (row.form w)) ≡ b → sret_row w row ≡ true → has_row w row ≡ true → b ≡ true → (bit_and w 0xFFFFFFFF == sret_word) ≡ true
here w row true e ok fits so =
    let parts : (row.mask == 0xFFFFFFFF && row.match == sret_word) ≡ true = subst (λ (b : Bool). (if b then (row.mask == 0xFFFFFFFF && row.match == sret_word) else true) ≡ true) e ok in
    let each = and_parts (row.mask == 0xFFFFFFFF) (row.match == sret_word) parts in
    let m : row.mask ≡ 0xFFFFFFFF = eqb-true row.mask 0xFFFFFFFF each.0 in
    let v : row.match ≡ sret_word = eqb-true row.match sret_word each.1 in
    subst (λ (n : ℕ). (bit_and w 0xFFFFFFFF == n) ≡ true) v (subst (λ (n : ℕ). (bit_and w n == row.match) ≡ true) m fits)
here w row false e ok fits so = cc

step : (w : ℕ) (row : Row) (b : Bool) (rest : Option Row) → has_row w row ≡ b → sret_row w row ≡ true
    → (is_sret (option_map (instruction_in w) rest) ≡ true → (bit_and w 0xFFFFFFFF == sret_word) ≡ true)
    → is_sret (option_map (instruction_in w) (cond b (Some row) rest)) ≡ true → (bit_and w 0xFFFFFFFF == sret_word) ≡ true
step w row true rest e ok later is = here w row (is_sret (Some (row.form w))) refl ok e is
step w row false rest e ok later is = later is

among : (w : ℕ) (rs : List Row) → list_all (sret_row w) rs ≡ true → is_sret (option_map (instruction_in w) (find (has_row w) rs)) ≡ true
    → (bit_and w 0xFFFFFFFF == sret_word) ≡ true
unfolding is_sret
among w [] all is = cc
among w (row ∷ rs) all is =
    let each = and_parts (sret_row w row) (list_all (sret_row w) rs) all in
    step w row (has_row w row) (find (has_row w) rs) refl each.0 (among w rs each.1) is

all_rows : (w : ℕ) → list_all (sret_row w) rows ≡ true
unfolding rows is_sret
all_rows w = refl

by_test : (w : ℕ) (a b : Bool) → (a ≡ true → b ≡ true) → (b ≡ true → a ≡ true) → a ≡ b
by_test w true true f g = refl
by_test w true false f g = sym (f refl)
by_test w false true f g = g refl
by_test w false false f g = refl

is_one : (w : ℕ) → (bit_and w 0xFFFFFFFF == sret_word) ≡ true → is_sret_word w ≡ true
unfolding is_sret rows
is_one w e = ap is_sret (found w 0xFFFFFFFF sret_word (plain Instr.Sret) (eqb-true (bit_and w 0xFFFFFFFF) sret_word e) refl)

pub sret_tested : (w : ℕ) → (bit_and w 0xFFFFFFFF == sret_word) ≡ is_sret_word w
unfolding instruction_of
sret_tested w = by_test w (bit_and w 0xFFFFFFFF == sret_word) (is_sret_word w) (is_one w) (among w rows (all_rows w))
