-- Bytes that are no text write no address.
use Rattle.std.proofs.Common.{◌≡◌, ℕ, zero, suc, ◌<◌, Bool, true, false, List, [], ◌∷◌, ◌++◌, take, drop, codes, if◌then◌else◌, Option, Some, None, refl, sym, ap, subst, arith, ◌∙◌}
use Rattle.std.proofs.lemmas.Bool.{and_parts}
use Rattle.std.proofs.lemmas.Bool.Decides.{nat_tests}
use Rattle.std.proofs.lemmas.List.{take-append-drop}
use Rattle.std.proofs.lemmas.Slice.Eq.{bytes_eq-Decides}
use Rattle.std.proofs.lemmas.Str.{IsUtf8-from_ascii}
use Rattle.std.specs.Prelude.{nat_le, ◌&&◌, length}
use Rattle.std.specs.List.{list_all}
use Rattle.std.specs.Char.{is_ascii_hexdigit}
use Rattle.std.specs.Str.{bytes_eq, IsAscii, IsUtf8}
use Rattle.std.specs.Str.Parse.{digits_value}
use Rattle.sv_types.specs.Addresses.{is_hexadecimal, address_of}

low : (c : ℕ) → is_ascii_hexdigit c ≡ true → c < 128
low c is = grind (arith, nat_tests, is)

digits_ascii : (ds : List ℕ) → list_all is_ascii_hexdigit ds ≡ true → IsAscii ds
digits_ascii [] is i = omega arith
digits_ascii (c ∷ cs) is zero = low c (and_parts (is_ascii_hexdigit c) (list_all is_ascii_hexdigit cs) is).0
digits_ascii (c ∷ cs) is (suc i) = digits_ascii cs (and_parts (is_ascii_hexdigit c) (list_all is_ascii_hexdigit cs) is).1 i

prefix_ascii : (ds : List ℕ) → IsAscii ds → IsAscii (48 ∷ 120 ∷ ds)
prefix_ascii ds are zero = omega arith
prefix_ascii ds are (suc zero) = omega arith
prefix_ascii ds are (suc (suc i)) = are i

address_ascii : (text : List ℕ) → bytes_eq (take 2 text) (codes "0x") ≡ true → is_hexadecimal (drop 2 text) ≡ true → IsAscii text
address_ascii text begins are =
    let front : take 2 text ≡ 48 ∷ 120 ∷ [] = (bytes_eq-Decides (take 2 text) (codes "0x")).0 begins in
    let whole : 48 ∷ 120 ∷ drop 2 text ≡ text = ap (λ (f : List ℕ). f ++ drop 2 text) (sym front) ∙ take-append-drop 2 text in
    let digits = (and_parts (nat_le 1 (length (drop 2 text)) && nat_le (length (drop 2 text)) 16) (list_all is_ascii_hexdigit (drop 2 text)) are).1 in
    subst IsAscii whole (prefix_ascii (drop 2 text) (digits_ascii (drop 2 text) digits))

none_by : (text : List ℕ) (begins are : Bool) → ¬ (IsUtf8 text) → bytes_eq (take 2 text) (codes "0x") ≡ begins → is_hexadecimal (drop 2 text) ≡ are →
    (if begins then (if are then Some (digits_value 16 (drop 2 text)) else None) else None) ≡ None
none_by text false are other b d = refl
none_by text true false other b d = refl
none_by text true true other b d = absurd (other (IsUtf8-from_ascii text (address_ascii text b d)))

pub no_address : (text : List ℕ) → ¬ (IsUtf8 text) → address_of text ≡ None
unfolding address_of
no_address text other = none_by text (bytes_eq (take 2 text) (codes "0x")) (is_hexadecimal (drop 2 text)) other refl refl
