-- Spans of pages, and the bytes of a page of a list that may end before.
use Rattle.std.proofs.Common.{◌≡◌, ℕ, zero, suc, ◌+◌, ◌-◌, ◌*◌, ◌<◌, ◌≤◌, ◌⊎◌, inl, inr, List, [], take, drop, length, min, refl, sym, ◌∙◌, arith, length-drop}
use Rattle.std.specs.Prelude.{slice_range}
use Rattle.std.proofs.lemmas.List.{take_all, drop_all}
use Rattle.spec_processor.specs.Bytes.{page_size, page_bytes, part}

-- ---- bytes of a page

either_way : (a b : ℕ) → (a ≤ b) ⊎ (b < a)
either_way zero b = inl (omega arith)
either_way (suc a) zero = inr (omega arith)
either_way (suc a) (suc b) = elim (either_way a b) [
  | inl less ↦ inl (omega (arith, less))
  | inr more ↦ inr (omega (arith, more))
]

take_same : (xs : List ℕ) (j k : ℕ) → length xs ≤ j → length xs ≤ k → take j xs ≡ take k xs
take_same xs j k e f = take_all j xs e ∙ sym (take_all k xs f)

clipped_by : (xs : List ℕ) (at n : ℕ) → (at + n ≤ length xs) ⊎ (length xs < at + n) → at ≤ length xs
    → take (min (length xs) (at + n) - min (length xs) at) (drop (min (length xs) at) xs) ≡ part xs at n
clipped_by xs at n (inl fits) inside =
    let start : min (length xs) at ≡ at = omega (arith, inside) in
    let size : min (length xs) (at + n) - at ≡ n = omega (arith, fits) in
    rw (start, size) refl
clipped_by xs at n (inr short) inside =
    let start : min (length xs) at ≡ at = omega (arith, inside) in
    let left : length (drop at xs) ≡ length xs - at = length-drop at xs in
    rw start (take_same (drop at xs) (min (length xs) (at + n) - at) n (omega (arith, left, short)) (omega (arith, left, short)))

no_bytes : (xs : List ℕ) (at n j : ℕ) → length xs ≤ at → take j (drop (length xs) xs) ≡ part xs at n
no_bytes xs at n j past =
    let one : drop (length xs) xs ≡ [] = drop_all (length xs) xs (omega arith) in
    let two : drop at xs ≡ [] = drop_all at xs past in
    rw (one, two) (take_same [] j n (omega arith) (omega arith))

-- the bytes from a place on, of which the list may have fewer
clipped : (xs : List ℕ) (at n : ℕ) → (at ≤ length xs) ⊎ (length xs < at)
    → take (min (length xs) (at + n) - min (length xs) at) (drop (min (length xs) at) xs) ≡ part xs at n
clipped xs at n (inl inside) = clipped_by xs at n (either_way (at + n) (length xs)) inside
clipped xs at n (inr past) =
    let start : min (length xs) at ≡ length xs = omega (arith, past) in
    rw start (no_bytes xs at n (min (length xs) (at + n) - length xs) (omega (arith, past)))

pub page_clipped : (ram : List ℕ) (page : ℕ)
    → slice_range ram (min (length ram) (page_size * page)) (min (length ram) (page_size * page + page_size)) ≡ page_bytes ram page
page_clipped ram page = clipped ram (page_size * page) page_size (either_way (page_size * page) (length ram))
