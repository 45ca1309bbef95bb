-- Reads and writes of byte lists.
use Rattle.std.proofs.Common.{◌≡◌, ℕ, zero, suc, ◌+◌, ◌-◌, ◌*◌, ◌/◌, ◌%◌, ◌^◌, ◌<◌, ◌≤◌, List, ◌++◌, length, take, drop, true, false, ltb}
use Rattle.std.proofs.Common.{refl, sym, ◌∙◌, ap, subst, arith, length-append, length-take, length-drop, append_assoc, lit<, ◌⊎◌, inl, inr}
use Rattle.std.proofs.Math.Nat.{pow-suc, mod-one}
use Rattle.std.proofs.Math.Arith.{mod-mul}
use Rattle.std.proofs.Math.Seq.{take-append_seam, drop-append-add, take-append-add}
use Rattle.std.proofs.lemmas.List.{take-append-le, drop-append-le, drop-take, take-take, drop-drop, length-replicate, drop_at}
use borrow.Author.Tests.{ltb-true, ltb-false}
use Rattle.spec_processor.specs.Bytes.{word, overwrite, write_word, low_bytes, little_endian, with_padding, part, page_bytes, page_size}

pub lt_or_le : (a b : ℕ) → (a < b) ⊎ (b ≤ a)
lt_or_le a b = elim (ltb a b) as (λ t. ltb a b ≡ t → (a < b) ⊎ (b ≤ a)) [ true ↦ λ e. inl (ltb-true a b e) | false ↦ λ e. inr (ltb-false a b e) ] refl

-- ---- lengths

pub length_low_bytes : (n value : ℕ) → length (low_bytes n value) ≡ n
length_low_bytes zero value = refl
length_low_bytes (suc n) value = ap suc (length_low_bytes n (value / 256))

pub length_overwrite : (list bytes : List ℕ) (at : ℕ) → at + length bytes ≤ length list → length (overwrite list at bytes) ≡ length list
unfolding overwrite
length_overwrite list bytes at fits = simp (length-append, length-take, length-drop) (omega arith)

pub length_write_word : (list : List ℕ) (at n value : ℕ) → at + n ≤ length list → length (write_word list at n value) ≡ length list
length_write_word list at n value fits =
    let len = length_low_bytes n value in length_overwrite list (low_bytes n value) at (omega arith)

pub length_padded : (bytes : List ℕ) (n : ℕ) → length bytes ≤ n → length (with_padding bytes n) ≡ n
length_padded bytes n short = simp (length-append, length-replicate) (omega arith)

pub length_part : (list : List ℕ) (at n : ℕ) → at + n ≤ length list → length (part list at n) ≡ n
length_part list at n fits = let a = length-take n (drop at list) in let b = length-drop at list in omega arith

-- ---- words and their bytes

power_pos : (n : ℕ) → 0 < 256 ^ n
power_pos zero = lit< tt
power_pos (suc n) = let h = power_pos n in rw pow-suc (omega arith)

pub word_of_bytes : (n value : ℕ) → little_endian (low_bytes n value) ≡ value % 256 ^ n
word_of_bytes zero value = sym (mod-one value)
word_of_bytes (suc n) value =
    let h = word_of_bytes n (value / 256) in
    let e = mod-mul value {m = 256 ^ n} {c = 256} (power_pos n) (lit< tt) in
    rw (pow-suc, e, h) (omega arith)

-- ---- a part of what was written

pub length_before : (list : List ℕ) (at : ℕ) → at ≤ length list → length (take at list) ≡ at
length_before list at h = simp length-take (omega arith)

pub part_written : (list bytes : List ℕ) (at : ℕ) → at + length bytes ≤ length list → part (overwrite list at bytes) at (length bytes) ≡ bytes
unfolding overwrite
part_written list bytes at fits =
    let e = drop_at (take at list) (bytes ++ drop (at + length bytes) list) at (length_before list at (omega arith)) in
    rw e (take-append_seam bytes (drop (at + length bytes) list))

pub part_before : (list bytes : List ℕ) (at from n : ℕ) → at + length bytes ≤ length list → from + n ≤ at → part (overwrite list at bytes) from n ≡ part list from n
unfolding overwrite
part_before list bytes at from n fits below =
    let short = length_before list at (omega arith) in
    let e = drop-append-le from (take at list) (bytes ++ drop (at + length bytes) list) (omega arith) in
    let f = take-append-le n (drop from (take at list)) (bytes ++ drop (at + length bytes) list) (simp length-drop (omega arith)) in
    let split : at ≡ from + (at - from) = omega arith in
    let g = subst (λ (k : ℕ). drop from (take k list) ≡ take (at - from) (drop from list)) (sym split) (drop-take from (at - from) list) in
    rw e (f ∙ ap {B = List ℕ} (take n) g ∙ take-take n (at - from) (drop from list) (omega arith))

pub part_after : (list bytes : List ℕ) (at from n : ℕ) → at + length bytes ≤ length list → at + length bytes ≤ from → part (overwrite list at bytes) from n ≡ part list from n
unfolding overwrite
part_after list bytes at from n fits above =
    let front : List ℕ = take at list ++ bytes in
    let rest : List ℕ = drop (at + length bytes) list in
    let short = length_before list at (omega arith) in
    let e : take at list ++ (bytes ++ rest) ≡ front ++ rest = sym (append_assoc (take at list) bytes rest) in
    let len : length front ≡ at + length bytes = simp length-append (omega arith) in
    let k : ℕ = from - (at + length bytes) in
    let split : length front + k ≡ from = omega arith in
    let p : drop (length front + k) (front ++ rest) ≡ drop (length front + k) list =
    drop-append-add front rest k ∙ drop-drop k (at + length bytes) list ∙ ap (λ (m : ℕ). drop (m + k) list) (sym len) in
    let q = subst (λ (m : ℕ). drop m (front ++ rest) ≡ drop m list) split p in
    ap (λ (ys : List ℕ). take n (drop from ys)) e ∙ ap {B = List ℕ} (take n) q

-- ---- words that were written

pub word_written : (list : List ℕ) (at n value : ℕ) → at + n ≤ length list → word (write_word list at n value) at n ≡ value % 256 ^ n
unfolding word
word_written list at n value fits =
    let len = length_low_bytes n value in
    let e = part_written list (low_bytes n value) at (omega arith) in
    let f = subst (λ (m : ℕ). part (overwrite list at (low_bytes n value)) at m ≡ low_bytes n value) len e in
    rw f (word_of_bytes n value)

pub word_elsewhere : (list : List ℕ) (at n value from m : ℕ) → at + n ≤ length list → (from + m ≤ at) ⊎ (at + n ≤ from)
    → word (write_word list at n value) from m ≡ word list from m
unfolding word
word_elsewhere list at n value from m fits apart =
    let len = length_low_bytes n value in
    elim apart [
      | inl below ↦ ap little_endian (part_before list (low_bytes n value) at from m (omega arith) below)
      | inr above ↦ ap little_endian (part_after list (low_bytes n value) at from m (omega arith) (omega arith))
    ]

-- ---- two lists, one after the other

pub part_behind : (front rest : List ℕ) (at n : ℕ) → part (front ++ rest) (length front + at) n ≡ part rest at n
part_behind front rest at n = ap {B = List ℕ} (take n) (drop-append-add front rest at)

pub part_in_front : (front rest : List ℕ) (at n : ℕ) → at + n ≤ length front → part (front ++ rest) at n ≡ part front at n
part_in_front front rest at n fits =
    let e = drop-append-le at front rest (omega arith) in
    rw e (take-append-le n (drop at front) rest (simp length-drop (omega arith)))

pub word_after : (front rest : List ℕ) (at n : ℕ) → word (front ++ rest) (length front + at) n ≡ word rest at n
unfolding word
word_after front rest at n = ap little_endian (part_behind front rest at n)

pub word_in_front : (front rest : List ℕ) (at n : ℕ) → at + n ≤ length front → word (front ++ rest) at n ≡ word front at n
unfolding word
word_in_front front rest at n fits = ap little_endian (part_in_front front rest at n fits)

pub overwrite_after : (front rest bytes : List ℕ) (at : ℕ) → overwrite (front ++ rest) (length front + at) bytes ≡ front ++ overwrite rest at bytes
unfolding overwrite
overwrite_after front rest bytes at =
    let e : drop (length front + at + length bytes) (front ++ rest) ≡ drop (at + length bytes) rest =
    subst (λ (m : ℕ). drop m (front ++ rest) ≡ drop (at + length bytes) rest) (omega arith) (drop-append-add front rest (at + length bytes)) in
    rw (take-append-add front rest at, e) (append_assoc front (take at rest) (bytes ++ drop (at + length bytes) rest))

pub overwrite_in_front : (front rest bytes : List ℕ) (at : ℕ) → at + length bytes ≤ length front
    → overwrite (front ++ rest) at bytes ≡ overwrite front at bytes ++ rest
unfolding overwrite
overwrite_in_front front rest bytes at fits =
    let e = take-append-le at front rest (omega arith) in
    let f = drop-append-le (at + length bytes) front rest fits in
    rw (e, f) (simp append_assoc)

-- ---- pages

-- a page is left as it is by what is written inside another
pub page_elsewhere : (ram bytes : List ℕ) (at p q : ℕ) → at + length bytes ≤ length ram → page_size * q ≤ at → at + length bytes ≤ page_size * (q + 1)
    → (p < q) ⊎ (q < p) → page_bytes (overwrite ram at bytes) p ≡ page_bytes ram p
page_elsewhere ram bytes at p q fits low high apart =
    elim apart [
      | inl below ↦ part_before ram bytes at (page_size * p) page_size fits (omega arith)
      | inr above ↦ part_after ram bytes at (page_size * p) page_size fits (omega arith)
    ]

pub part_of_part : (list : List ℕ) (at n i m : ℕ) → i + m ≤ n → part (part list at n) i m ≡ part list (at + i) m
part_of_part list at n i m fits =
    let split : n ≡ i + (n - i) = omega arith in
    let e = subst (λ (k : ℕ). drop i (take k (drop at list)) ≡ take (n - i) (drop i (drop at list))) (sym split) (drop-take i (n - i) (drop at list)) in
    rw (e, drop-drop) (take-take m (n - i) (drop (at + i) list) (omega arith))

-- a word of a page is the word of RAM at the same place
pub word_in_page_bytes : (ram : List ℕ) (page at n : ℕ) → at + n ≤ page_size → word (page_bytes ram page) at n ≡ word ram (page_size * page + at) n
unfolding word
word_in_page_bytes ram page at n fits = ap little_endian (part_of_part ram (page_size * page) page_size at n fits)
