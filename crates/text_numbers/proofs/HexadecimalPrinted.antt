-- Hexadecimal digits, as the standard library prints them to a width.
use Rattle.std.proofs.Common.{◌≡◌, ℕ, zero, suc, ◌+◌, ◌-◌, ◌*◌, ◌/◌, ◌%◌, ◌^◌, ◌<◌, ◌≤◌, true, false, ◌==◌, if◌then◌else◌, eq-eqb, eqb-true}
use Rattle.std.proofs.Common.{List, [], ◌∷◌, ◌++◌, length, replicate, append_assoc, append-nil, refl, ap, sym, ◌∙◌, arith, pow-suc}
use Rattle.std.specs.Char.{digit_char}
use Rattle.std.specs.Fmt.{digits, digits_onto, digit_glyph, padded_integral, format_spec, char_count}
use Rattle.sv_types.specs.Output.{hexadecimal}

zeros_more : (j : ℕ) → ◌++◌ {A = ℕ} (replicate j 48) (48 ∷ []) ≡ replicate (suc j) 48
zeros_more zero = refl
zeros_more (suc j) = ap (λ (ds : List ℕ). 48 ∷ ds) (zeros_more j)

zeros : (j : ℕ) → hexadecimal j 0 ≡ replicate j 48
unfolding hexadecimal
zeros zero = refl
zeros (suc j) = ap (λ (ds : List ℕ). ds ++ 48 ∷ []) (zeros j) ∙ zeros_more j

-- zeros in front of the digits, and how many
pub record Filled (j n : ℕ) (acc shown : List ℕ) : Type 0 where
  pub missing : ℕ
  pub count : length shown + missing ≡ j + length acc
  pub same : replicate missing 48 ++ shown ≡ hexadecimal j n ++ acc

-- the last digit stands alone
last : (j n : ℕ) (acc : List ℕ) → n / 16 ≡ 0 → Filled (suc j) n acc (digit_glyph false (n % 16) ∷ acc)
unfolding hexadecimal
last j n acc none = record {
  missing = j;
  count = omega arith;
  same =
      ap (λ (ds : List ℕ). ds ++ digit_char (n % 16) ∷ acc) (sym (zeros j) ∙ ap (λ (m : ℕ). hexadecimal j m) (sym none))
      ∙ sym (append_assoc (hexadecimal j (n / 16)) (digit_char (n % 16) ∷ []) acc);
}

-- the last digit stands after the others
more : (j n : ℕ) (acc shown : List ℕ) → Filled j (n / 16) (digit_glyph false (n % 16) ∷ acc) shown → Filled (suc j) n acc shown
unfolding hexadecimal
more j n acc shown front = record {
  missing = front.missing;
  count = omega (arith, front.count);
  same = front.same ∙ sym (append_assoc (hexadecimal j (n / 16)) (digit_char (n % 16) ∷ []) acc);
}

filled : (k j n : ℕ) (acc : List ℕ) → j ≤ k → n < 16 ^ suc j → Filled (suc j) n acc (digits_onto (suc k) 16 false n acc)
filled k zero n acc short small = rw (eq-eqb (n / 16) 0 (omega arith)) (last zero n acc (omega arith))
filled zero (suc j) n acc short small = absurd (omega arith)
filled (suc k) (suc j) n acc short small =
    let glyph : ℕ = digit_glyph false (n % 16) in
    let power : n < 16 ^ suc j * 16 = rw pow-suc at small in
    elim (n / 16 == 0) as (λ b. (n / 16 == 0) ≡ b → Filled (suc (suc j)) n acc (if b then glyph ∷ acc else digits_onto (suc k) 16 false (n / 16) (glyph ∷ acc))) [
      | true ↦ λ is. last (suc j) n acc (eqb-true (n / 16) 0 is)
      | false ↦ λ is. more (suc j) n acc _ (filled k j (n / 16) (glyph ∷ acc) (omega arith) (omega arith))
    ] refl

-- a numeral that is filled up to a width
padded : (width : ℕ) (numeral : List ℕ) → padded_integral (format_spec 32 0 4 width (2 ^ 64 - 1)) false [] numeral ≡ replicate (width - length numeral) 48 ++ numeral
unfolding padded_integral char_count
padded width numeral =
    let missing : width - length numeral - 0 - 0 ≡ width - length numeral = omega arith in
    ap (λ (m : ℕ). replicate m 48 ++ (numeral ++ [])) missing
    ∙ ap (λ (ds : List ℕ). replicate (width - length numeral) 48 ++ ds) (append-nil numeral)

shown : (j n : ℕ) → j ≤ 63 → n < 16 ^ suc j → Filled (suc j) n [] (digits 16 false n)
unfolding digits
shown j n short small = filled 63 j n [] short small

by_width : (width n : ℕ) (numeral : List ℕ) → Filled width n [] numeral → padded_integral (format_spec 32 0 4 width (2 ^ 64 - 1)) false [] numeral ≡ hexadecimal width n
by_width width n numeral is =
    let missing : width - length numeral ≡ is.missing = omega (arith, is.count) in
    padded width numeral ∙ ap (λ (m : ℕ). replicate m 48 ++ numeral) missing ∙ is.same ∙ append-nil (hexadecimal width n)

-- a number of 64 bits, by 16 digits
pub sixteen_digits : (n : ℕ) → n < 2 ^ 64 → padded_integral (format_spec 32 0 4 16 (2 ^ 64 - 1)) false [] (digits 16 false n) ≡ hexadecimal 16 n
sixteen_digits n small = by_width 16 n (digits 16 false n) (shown 15 n (omega arith) (omega arith))
