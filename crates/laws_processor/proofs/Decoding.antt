-- What is known of a word's fields leaves few rows that it can be in.
use Rattle.std.proofs.Common.{◌≡◌, ◌≢◌, ℕ, ◌+◌, ◌-◌, ◌*◌, ◌/◌, ◌%◌, ◌^◌, ◌<◌, List, [], ◌∷◌, refl, sym, ◌∙◌, ap, subst, Bool, true, false, cond, arith, inl, inr}
use Rattle.std.specs.Prelude.{find, filter, bit_and, ◌==◌, ◌&&◌, ◌||◌, Some, None}
use Rattle.std.specs.List.{list_all, list_any}
use Rattle.std.specs.Option.{option_map}
use Rattle.std.proofs.lemmas.Nat.{and_assoc, and_comm, and_block, and_mask, and_shr, and_mod, shr_split, pow_pos, mod_below}
use Rattle.std.proofs.Math.Nat.{mod-eq_of_lt}
use Rattle.std.proofs.lemmas.Bool.{eqb-true, eq-eqb, or_cases, and_parts}
use Rattle.spec_processor.specs.declared.instruction.Instr.{Instr}
use Rattle.spec_processor.specs.Instructions.{Row, bits, has_row, rows, instruction_of, instruction_in}

-- ---- narrowing by a mask

-- a row may be the one of a word whose bits under mask m are v
abbrev pub agrees : ℕ → ℕ → Row → Bool
agrees m v row = bit_and v row.mask == bit_and row.match m

-- (w & m) & mask = (w & mask) & m
and_swap : (w m mask : ℕ) → bit_and (bit_and w m) mask ≡ bit_and (bit_and w mask) m
and_swap w m mask = and_assoc mask w m ∙ ap (bit_and w) (and_comm m mask) ∙ sym (and_assoc m w mask)

has_row-agrees : (w m v : ℕ) (row : Row) → bit_and w m ≡ v → has_row w row ≡ true → agrees m v row ≡ true
has_row-agrees w m v row e f =
    let g = eqb-true (bit_and w row.mask) row.match f in
    let h : bit_and v row.mask ≡ bit_and row.match m =
    ap (λ (x : ℕ). bit_and x row.mask) (sym e) ∙ and_swap w m row.mask ∙ ap (λ (x : ℕ). bit_and x m) g in
    subst (λ (x : ℕ). (bit_and v row.mask == x) ≡ true) h (eq-eqb (bit_and v row.mask) (bit_and v row.mask) refl)

narrow_step : (w : ℕ) (row : Row) (b c : Bool) (rest kept : List Row) → has_row w row ≡ b → (b ≡ true → c ≡ true)
    → find (has_row w) rest ≡ find (has_row w) kept
    → cond b (Some row) (find (has_row w) rest) ≡ find (has_row w) (cond c (row ∷ kept) kept)
narrow_step w row true true rest kept e h r = rw e refl
narrow_step w row true false rest kept e h r = let f = h refl in cc
narrow_step w row false true rest kept e h r = rw e r
narrow_step w row false false rest kept e h r = r

narrow : (w m v : ℕ) (rs : List Row) → bit_and w m ≡ v → find (has_row w) rs ≡ find (has_row w) (filter (agrees m v) rs)
narrow w m v [] e = refl
narrow w m v (row ∷ rs) e =
    narrow_step w row (has_row w row) (agrees m v row) rs (filter (agrees m v) rs) refl (has_row-agrees w m v row e) (narrow w m v rs e)

-- the row that alone agrees with a word is the word's
abbrev pub IsOnlyRow : ℕ → ℕ → (ℕ → Instr) → Type 0
IsOnlyRow m v form = filter (agrees m v) rows ≡ record { mask = m; match = v; form = form } ∷ []

pub found : (w m v : ℕ) (form : ℕ → Instr) → bit_and w m ≡ v → IsOnlyRow m v form → instruction_of w ≡ Some (form w)
unfolding instruction_of
found w m v form e only =
    let row : Row = record { mask = m; match = v; form = form } in
    let fits : (bit_and w m == v) ≡ true = eq-eqb (bit_and w m) v e in
    let last : find (has_row w) (row ∷ []) ≡ Some row = rw fits refl in
    ap (option_map (instruction_in w)) (narrow w m v rows e ∙ ap (find (has_row w)) only ∙ last)

-- ---- no row

-- a row that has some of these numbers in the bits from low up to below high
abbrev pub has_field : (low high : ℕ) → List ℕ → Row → Bool
has_field low high values row =
    bits row.mask low high == 2 ^ (high - low) - 1 && list_any (λ value. bits row.match low high == value) values

-- a number differs from each of some
abbrev pub IsNoneOf : ℕ → List ℕ → Type 0
IsNoneOf x [] = Unit {0}
IsNoneOf x (value ∷ values) = (x ≢ value) × IsNoneOf x values

-- a row's whole field is the one of its words
field_of_row : (w low high : ℕ) (row : Row) → bit_and w row.mask ≡ row.match → bits row.mask low high ≡ 2 ^ (high - low) - 1
    → bits w low high ≡ bits row.match low high
field_of_row w low high row e whole =
    let n = high - low in
    let cut : bit_and w row.mask / 2 ^ low % 2 ^ n ≡ bit_and (bits w low high) (bits row.mask low high) =
    ap (λ (x : ℕ). x % 2 ^ n) (and_shr w row.mask low) ∙ and_mod (w / 2 ^ low) (row.mask / 2 ^ low) n in
    let kept : bit_and (bits w low high) (2 ^ n - 1) ≡ bits w low high % 2 ^ n = and_mask (bits w low high) n in
    let small : bits w low high % 2 ^ n ≡ bits w low high = mod-eq_of_lt (mod_below (w / 2 ^ low) (2 ^ n) (pow_pos n)) in
    sym (ap (λ (x : ℕ). bits x low high) (sym e) ∙ cut ∙ ap (bit_and (bits w low high)) whole ∙ kept ∙ small)

none_of : (x y : ℕ) (values : List ℕ) → x ≡ y → IsNoneOf x values → list_any (λ value. y == value) values ≡ true → ⊥
none_of x y [] e absent any = cc
none_of x y (value ∷ values) e absent any = none_step (y == value) refl any (λ rest. none_of x y values e absent.1 rest)
  where
    none_step : (b : Bool) → (y == value) ≡ b → (b || list_any (λ v. y == v) values) ≡ true → (list_any (λ v. y == v) values ≡ true → ⊥) → ⊥
    none_step true here any rest = absent.0 (e ∙ eqb-true y value here)
    none_step false here any rest = rest any

-- a word of a row that has some of these numbers in a place doesn't differ from them all there
other_field : (w low high : ℕ) (values : List ℕ) (row : Row) → has_row w row ≡ true → has_field low high values row ≡ true
    → IsNoneOf (bits w low high) values → ⊥
other_field w low high values row e h absent =
    let parts = and_parts (bits row.mask low high == 2 ^ (high - low) - 1) (list_any (λ value. bits row.match low high == value) values) h in
    let same = field_of_row w low high row (eqb-true (bit_and w row.mask) row.match e) (eqb-true (bits row.mask low high) (2 ^ (high - low) - 1) parts.0) in
    none_of (bits w low high) (bits row.match low high) values same absent parts.1

-- no row of some fits a word whose bits differ, in one of two places, from the numbers that each has there
no_row : (w low high low' high' : ℕ) (values values' : List ℕ) (rs : List Row) → IsNoneOf (bits w low high) values → IsNoneOf (bits w low' high') values'
    → list_all (λ row. has_field low high values row || has_field low' high' values' row) rs ≡ true → find (has_row w) rs ≡ None
no_row w low high low' high' values values' [] absent absent' all = refl
no_row w low high low' high' values values' (row ∷ rs) absent absent' all =
    no_row_step (has_row w row) refl (λ rest. no_row w low high low' high' values values' rs absent absent' rest)
  where
    facts : ((has_field low high values row || has_field low' high' values' row) ≡ true)
        × (list_all (λ row. has_field low high values row || has_field low' high' values' row) rs ≡ true)
    facts = and_parts (has_field low high values row || has_field low' high' values' row)
        (list_all (λ row. has_field low high values row || has_field low' high' values' row) rs) all

    no_row_step : (b : Bool) → has_row w row ≡ b
        → (list_all (λ row. has_field low high values row || has_field low' high' values' row) rs ≡ true → find (has_row w) rs ≡ None)
        → cond b (Some row) (find (has_row w) rs) ≡ None
    no_row_step false e rest = rest facts.1
    no_row_step true e rest = absurd (elim (or_cases (has_field low high values row) (has_field low' high' values' row) facts.0) [
      | inl h ↦ other_field w low high values row e h absent
      | inr h ↦ other_field w low' high' values' row e h absent'
    ])

-- no row fits a word of which the bits under m are v, where each row that agrees has, in one of two places, a number
-- that the word hasn't there
pub missing_either : (w m v low high low' high' : ℕ) (values values' : List ℕ) → bit_and w m ≡ v
    → IsNoneOf (bits w low high) values → IsNoneOf (bits w low' high') values'
    → list_all (λ row. has_field low high values row || has_field low' high' values' row) (filter (agrees m v) rows) ≡ true
    → instruction_of w ≡ None
unfolding instruction_of
missing_either w m v low high low' high' values values' e absent absent' all =
    ap (option_map (instruction_in w)) (narrow w m v rows e ∙ no_row w low high low' high' values values' (filter (agrees m v) rows) absent absent' all)

-- the same with one place
pub missing : (w m v low high : ℕ) (values : List ℕ) → bit_and w m ≡ v → IsNoneOf (bits w low high) values
    → list_all (λ row. has_field low high values row || has_field 0 1 [] row) (filter (agrees m v) rows) ≡ true → instruction_of w ≡ None
missing w m v low high values e absent all = missing_either w m v low high 0 1 values [] e absent tt all

-- ---- masks

-- a mask of a high and a low part
mask_parts : (w k high low : ℕ) → low < 2 ^ k → bit_and w (high * 2 ^ k + low) ≡ bit_and (w / 2 ^ k) high * 2 ^ k + bit_and (w % 2 ^ k) low
mask_parts w k high low h =
    ap (λ (x : ℕ). bit_and x (high * 2 ^ k + low)) (sym (shr_split w k)) ∙ and_block k (w / 2 ^ k) high (w % 2 ^ k) low (mod_below w (2 ^ k) (pow_pos k)) h

pub mask_opcode : (w o : ℕ) → bits w 0 7 ≡ o → bit_and w 0x7F ≡ o
mask_opcode w o e = omega (arith, and_mask w 7)

low_funct3 : (w : ℕ) → bit_and w 0x707F ≡ w / 2 ^ 12 % 8 * 2 ^ 12 + w % 128
low_funct3 w = omega (arith, mask_parts w 12 7 0x7F (omega arith), and_mask (w / 2 ^ 12) 3, and_mask (w % 2 ^ 12) 7)

pub mask_funct3 : (w o f : ℕ) → bits w 0 7 ≡ o → bits w 12 15 ≡ f → bit_and w 0x707F ≡ o + 2 ^ 12 * f
mask_funct3 w o f e g = omega (arith, low_funct3 w)

pub mask_funct7 : (w o f g : ℕ) → bits w 0 7 ≡ o → bits w 12 15 ≡ f → bits w 25 32 ≡ g
    → bit_and w 0xFE00707F ≡ o + 2 ^ 12 * f + 2 ^ 25 * g
mask_funct7 w o f g e h k = omega (arith, mask_parts w 25 127 0x707F (omega arith), and_mask (w / 2 ^ 25) 7, low_funct3 (w % 2 ^ 25))

-- the opcode with bits 25 to 31, or 27 to 31
pub mask_opcode_funct7 : (w o g : ℕ) → bits w 0 7 ≡ o → bits w 25 32 ≡ g → bit_and w 0xFE00007F ≡ o + 2 ^ 25 * g
mask_opcode_funct7 w o g e k = omega (arith, mask_parts w 25 127 0x7F (omega arith), and_mask (w / 2 ^ 25) 7, and_mask (w % 2 ^ 25) 7)

pub mask_opcode_funct5 : (w o g : ℕ) → bits w 0 7 ≡ o → bits w 27 32 ≡ g → bit_and w 0xF800007F ≡ o + 2 ^ 27 * g
mask_opcode_funct5 w o g e k = omega (arith, mask_parts w 27 31 0x7F (omega arith), and_mask (w / 2 ^ 27) 5, and_mask (w % 2 ^ 27) 7)

pub mask_none : (w : ℕ) → bit_and w 0 ≡ 0
mask_none w = omega (arith, and_mask w 0)

-- bits 26 to 31, and 27 to 31, alone
pub mask_funct6 : (w o f g : ℕ) → bits w 0 7 ≡ o → bits w 12 15 ≡ f → bits w 26 32 ≡ g
    → bit_and w 0xFC00707F ≡ o + 2 ^ 12 * f + 2 ^ 26 * g
mask_funct6 w o f g e h k = omega (arith, mask_parts w 26 63 0x707F (omega arith), and_mask (w / 2 ^ 26) 6, low_funct3 (w % 2 ^ 26))

pub mask_funct5 : (w o f g : ℕ) → bits w 0 7 ≡ o → bits w 12 15 ≡ f → bits w 27 32 ≡ g
    → bit_and w 0xF800707F ≡ o + 2 ^ 12 * f + 2 ^ 27 * g
mask_funct5 w o f g e h k = omega (arith, mask_parts w 27 31 0x707F (omega arith), and_mask (w / 2 ^ 27) 5, low_funct3 (w % 2 ^ 27))

-- with rs2 alongside them
low_rs2 : (w : ℕ) → bit_and w 0x1F0707F ≡ w / 2 ^ 20 % 32 * 2 ^ 20 + (w / 2 ^ 12 % 8 * 2 ^ 12 + w % 128)
low_rs2 w = omega (arith, mask_parts w 20 31 0x707F (omega arith), and_mask (w / 2 ^ 20) 5, low_funct3 (w % 2 ^ 20))

pub mask_funct5_rs2 : (w o f g n : ℕ) → bits w 0 7 ≡ o → bits w 12 15 ≡ f → bits w 27 32 ≡ g → bits w 20 25 ≡ n
    → bit_and w 0xF9F0707F ≡ o + 2 ^ 12 * f + 2 ^ 20 * n + 2 ^ 27 * g
mask_funct5_rs2 w o f g n e h k r = omega (arith, mask_parts w 27 31 0x1F0707F (omega arith), and_mask (w / 2 ^ 27) 5, low_rs2 (w % 2 ^ 27))

pub mask_funct7_rs2 : (w o f g n : ℕ) → bits w 0 7 ≡ o → bits w 12 15 ≡ f → bits w 25 32 ≡ g → bits w 20 25 ≡ n
    → bit_and w 0xFFF0707F ≡ o + 2 ^ 12 * f + 2 ^ 20 * n + 2 ^ 25 * g
mask_funct7_rs2 w o f g n e h k r = omega (arith, mask_parts w 25 127 0x1F0707F (omega arith), and_mask (w / 2 ^ 25) 7, low_rs2 (w % 2 ^ 25))

-- with rd alongside them
low_rd : (w : ℕ) → bit_and w 0x7FFF ≡ w % 2 ^ 15
low_rd w = and_mask w 15

pub mask_funct7_no_rd : (w o f g : ℕ) → bits w 0 7 ≡ o → bits w 12 15 ≡ f → bits w 25 32 ≡ g → bits w 7 12 ≡ 0
    → bit_and w 0xFE007FFF ≡ o + 2 ^ 12 * f + 2 ^ 25 * g
mask_funct7_no_rd w o f g e h k r = omega (arith, mask_parts w 25 127 0x7FFF (omega arith), and_mask (w / 2 ^ 25) 7, low_rd (w % 2 ^ 25))

pub mask_whole : (w v : ℕ) → w < 2 ^ 32 → w ≡ v → bit_and w 0xFFFFFFFF ≡ v
mask_whole w v h e = omega (arith, and_mask w 32)
