-- Fields of a file, read by `byteorder`.
use Rattle.std.proofs.Common.{◌≡◌, ℕ, zero, suc, ◌+◌, ◌-◌, ◌*◌, ◌≤◌, List, [], ◌∷◌, length, take, drop, get_or, refl, ap, sym, ◌∙◌, arith, drop-cons, length-drop}
use Rattle.std.proofs.lemmas.List.{take_all}
use Rattle.byteorder.specs.Endian.{little_from, little_number}
use Rattle.byteorder.specs.Numbers.{little_from-cons}
use Rattle.spec_processor.specs.Bytes.{word, little_endian}

number_of_front : (n : ℕ) (xs : List ℕ) → n ≤ length xs → little_from 0 n xs ≡ little_endian (take n xs)
number_of_front zero xs h = refl
number_of_front (suc n) [] h = absurd (omega arith)
number_of_front (suc n) (x ∷ xs) h =
    ap (λ (r : ℕ). x + 256 * r) (little_from-cons 0 n x xs ∙ number_of_front n xs (omega arith))

pub word_read : (n at : ℕ) (file : List ℕ) → at + n ≤ length file → little_number n (take (length file - at) (drop at file)) ≡ word file at n
unfolding word
word_read n at file h =
    let all : length (drop at file) ≤ length file - at = simp length-drop (omega arith) in
    rw (take_all (length file - at) (drop at file) all) (number_of_front n (drop at file) (simp length-drop (omega arith)))

pub word_of_byte : (at : ℕ) (file : List ℕ) → at + 1 ≤ length file → get_or file at 0 ≡ word file at 1
unfolding word
word_of_byte at file h =
    let e : drop at file ≡ get_or file at 0 ∷ drop (suc at) file = drop-cons file at 0 (omega arith) in
    let f : get_or file at 0 ≡ get_or file at 0 + 256 * 0 = omega arith in
    f ∙ sym (ap (λ (l : List ℕ). little_endian (take 1 l)) e)
