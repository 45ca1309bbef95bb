-- Bytes written one after the other.
use Rattle.std.proofs.Common.{◌≡◌, ℕ, zero, suc, ◌+◌, ◌-◌, ◌<◌, ◌≤◌, List, [], ◌∷◌, ◌++◌, refl, get_or, inl, inr, Bool, true, false}
use Rattle.std.proofs.Common.{length-take, length, take, drop, sym, ◌∙◌, ap, arith, length-append, append_assoc, replicate}
use Rattle.std.proofs.Math.Seq.{drop-append-add}
use Rattle.std.proofs.lemmas.List.{drop-drop, take-append-drop, length-replicate, take_at}
use Rattle.std.specs.Prelude.{max, min, ◌*◌, ◌/◌, ◌==◌, nat_le, nat_lt, ◌&&◌, if◌then◌else◌}
use Rattle.std.proofs.lemmas.Bool.Decides.{nat_tests}
use Rattle.spec_processor.specs.Bytes.{overwrite, with_padding, part, page_size}
use Rattle.spec_processor.specs.Regions.{Region}
use Rattle.laws_processor.proofs.ByteLemmas.{lt_or_le, length_before, length_overwrite, length_padded}
use Rattle.elf64_load.proofs.LoadedBytes.{at_before, at_written, at_after, at_padded, at_part}

-- what is written after bytes that were written is written with them
pub overwrite_joined : (list front rest : List ℕ) (at : ℕ) → at + (length front + length rest) ≤ length list
    → overwrite (overwrite list at front) (at + length front) rest ≡ overwrite list at (front ++ rest)
unfolding overwrite
overwrite_joined list front rest at fits =
    let before = length_before list at (omega arith) in
    let behind = drop (at + length front) list in
    let start = take at list ++ front in
    let size : length start ≡ at + length front = length-append (take at list) front ∙ ap (λ n. n + length front) before in
    let joined : take at list ++ (front ++ behind) ≡ start ++ behind = sym (append_assoc (take at list) front behind) in
    let first : take (at + length front) (take at list ++ (front ++ behind)) ≡ start =
    ap (take (at + length front)) joined ∙ take_at start behind (at + length front) size in
    let place : at + length front + length rest ≡ length start + length rest = ap (λ n. n + length rest) (sym size) in
    let end : at + length front + length rest ≡ at + length (front ++ rest) = rw length-append (omega arith) in
    let last : drop (at + length front + length rest) (take at list ++ (front ++ behind)) ≡ drop (at + length (front ++ rest)) list =
    ap (drop (at + length front + length rest)) joined ∙ ap (λ n. drop n (start ++ behind)) place ∙ drop-append-add start behind (length rest)
    ∙ drop-drop (length rest) (at + length front) list ∙ ap (λ n. drop n list) end in
    rw (first, last) (append_assoc (take at list) front (rest ++ drop (at + length (front ++ rest)) list)
    ∙ ap (λ xs. take at list ++ xs) (sym (append_assoc front rest (drop (at + length (front ++ rest)) list))))

pub nothing_written : (list : List ℕ) (at : ℕ) → overwrite list at [] ≡ list
unfolding overwrite
nothing_written list at = let e : at + 0 ≡ at = omega arith in rw e (take-append-drop at list)

replicate_joined : (m n : ℕ) → ◌++◌ {A = ℕ} (replicate m 0) (replicate n 0) ≡ replicate (m + n) 0
replicate_joined zero n = let e : 0 + n ≡ n = omega arith in rw e refl
replicate_joined (suc m) n = let e : suc m + n ≡ suc (m + n) = omega arith in rw e (ap (◌∷◌ 0) (replicate_joined m n))

-- zeros after zeros
pub more_zeros : (list : List ℕ) (at done next : ℕ) → at + (done + next) ≤ length list
    → overwrite (overwrite list at (replicate done 0)) (at + done) (replicate next 0) ≡ overwrite list at (replicate (done + next) 0)
more_zeros list at done next fits =
    let size : length {A = ℕ} (replicate done 0) ≡ done = length-replicate done 0 in
    let size_next : length {A = ℕ} (replicate next 0) ≡ next = length-replicate next 0 in
    ap (λ n. overwrite (overwrite list at (replicate done 0)) (at + n) (replicate next 0)) (sym size)
    ∙ overwrite_joined list (replicate done 0) (replicate next 0) at (omega arith)
    ∙ ap (overwrite list at) (replicate_joined done next)

pub zeros_fit : (list : List ℕ) (at done count : ℕ) → at + count ≤ length list → done ≤ count → length (overwrite list at (replicate done 0)) ≡ length list
zeros_fit list at done count fits some =
    let size : length {A = ℕ} (replicate done 0) ≡ done = length-replicate done 0 in length_overwrite list (replicate done 0) at (omega arith)

-- ---- regions

pub zeros_put : (old m new : Region) (place done next at : ℕ) (bytes : List ℕ) → place + (done + next) ≤ length old.ram
    → at ≡ length old.tables + place + done → bytes ≡ replicate next 0
    → m ≡ record { tables = old.tables; ram = overwrite old.ram place (replicate done 0) }
    → (length m.tables ≤ at → new ≡ record { tables = m.tables; ram = overwrite m.ram (at - length m.tables) bytes })
    → new ≡ record { tables = old.tables; ram = overwrite old.ram place (replicate (done + next) 0) }
zeros_put old m new place done next at bytes fits at_is bytes_is m_is copied =
    let t : m.tables ≡ old.tables = ap (λ (r : Region). r.tables) m_is in
    let r : m.ram ≡ overwrite old.ram place (replicate done 0) = ap (λ (r : Region). r.ram) m_is in
    let size : length m.tables ≡ length old.tables = ap length t in
    let e : at - length m.tables ≡ place + done = omega arith in
    let made : overwrite m.ram (at - length m.tables) bytes ≡ overwrite old.ram place (replicate (done + next) 0) =
    rw (e, r, bytes_is) (more_zeros old.ram place done next fits) in
    copied (omega arith) ∙ rw (made, t) refl

-- ---- a part of a segment

pub part_put : (old m new : Region) (place at from count filled : ℕ) (bytes piece : List ℕ) → length piece ≡ filled → place + count ≤ length old.ram → at ≡ length old.tables + place
    → piece ≡ part bytes from count
    → (length old.tables ≤ at → m ≡ record { tables = old.tables; ram = overwrite old.ram (at - length old.tables) piece })
    → new ≡ record { tables = m.tables; ram = overwrite m.ram (place + filled) (replicate (count - filled) 0) }
    → new ≡ record { tables = old.tables; ram = overwrite old.ram place (with_padding (part bytes from count) count) }
part_put old m new place at from count filled bytes piece filled_is fits at_is piece_is copied zeros_put =
    let m_is = copied (omega arith) in
    let e : at - length old.tables ≡ place = omega arith in
    let t : m.tables ≡ old.tables = ap (λ (r : Region). r.tables) m_is in
    let r : m.ram ≡ overwrite old.ram place piece = ap (λ (r : Region). r.ram) m_is ∙ ap (λ n. overwrite old.ram n piece) e in
    let short : length (part bytes from count) ≤ count = let most = length-take count (drop from bytes) in omega arith in
    let few : length piece ≤ count = let same = ap length piece_is in omega arith in
    let size : length {A = ℕ} (replicate (count - length piece) 0) ≡ count - length piece = length-replicate (count - length piece) 0 in
    let made : overwrite m.ram (place + filled) (replicate (count - filled) 0) ≡ overwrite old.ram place (with_padding (part bytes from count) count) =
    rw (sym filled_is, r) (overwrite_joined old.ram piece (replicate (count - length piece) 0) place (omega arith))
    ∙ ap (λ (xs : List ℕ). overwrite old.ram place (with_padding xs count)) piece_is in
    zeros_put ∙ rw (made, t) refl

pub part_size : (old m : Region) (place at : ℕ) (piece : List ℕ) → place + length piece ≤ length old.ram → at ≡ length old.tables + place
    → (length old.tables ≤ at → m ≡ record { tables = old.tables; ram = overwrite old.ram (at - length old.tables) piece })
    → length m.ram ≡ length old.ram
part_size old m place at piece fits at_is copied =
    ap (λ (r : Region). length r.ram) (copied (omega arith)) ∙ length_overwrite old.ram piece (at - length old.tables) (omega arith)

pub padded_fits : (ram bytes : List ℕ) (place from count : ℕ) → place + count ≤ length ram
    → length (overwrite ram place (with_padding (part bytes from count) count)) ≡ length ram
padded_fits ram bytes place from count fits =
    let most = length-take count (drop from bytes) in
    let size : length (with_padding (part bytes from count) count) ≡ count = length_padded (part bytes from count) count (omega arith) in
    length_overwrite ram (with_padding (part bytes from count) count) place (omega arith)

-- the bytes of a list with a part written in it
pub part_byte : (ram bytes : List ℕ) (place start count at : ℕ) → place ≤ start → start + count ≤ length ram
    → (b : Bool) → b ≡ (nat_le start at && nat_lt at (start + count))
    → get_or (overwrite ram start (with_padding (part bytes (start - place) count) count)) at 0 ≡ (if b then get_or bytes (at - place) 0 else get_or ram at 0)
part_byte ram bytes place start count at order fits b is =
    let piece = part bytes (start - place) count in
    let most = length-take count (drop (start - place) bytes) in
    let size : length (with_padding piece count) ≡ count = length_padded piece count (omega arith) in
    elim (lt_or_le at start) [
      | inl before ↦
          let test : (nat_le start at && nat_lt at (start + count)) ≡ false = grind (arith, nat_tests) in
          rw (is, test) (at_before ram (with_padding piece count) start at (omega arith) before)
      | inr from ↦ elim (lt_or_le at (start + count)) [
        | inl inside ↦
            let test : (nat_le start at && nat_lt at (start + count)) ≡ true = grind (arith, nat_tests) in
            let e : start - place + (at - start) ≡ at - place = omega arith in
            rw (is, test) (at_written ram (with_padding piece count) start at (omega arith) from (omega arith) ∙ at_padded piece count (at - start)
            ∙ at_part bytes (start - place) count (at - start) (omega arith) ∙ ap (λ n. get_or bytes n 0) e)
        | inr behind ↦
            let test : (nat_le start at && nat_lt at (start + count)) ≡ false = grind (arith, nat_tests) in
            rw (is, test) (at_after ram (with_padding piece count) start at (omega arith) (omega arith))
      ]
    ]

pub in_piece : (place memory page start end at : ℕ) → start ≡ max place (page_size * page) → end ≡ min (place + memory) (page_size * page + page_size) → start < end
    → (at / page_size == page && (nat_le place at && nat_lt at (place + memory))) ≡ (nat_le start at && nat_lt at (start + (end - start)))
in_piece place memory page start end at start_is end_is some = elim (lt_or_le at start) [
  | inl before ↦
      let right : (nat_le start at && nat_lt at (start + (end - start))) ≡ false = grind (arith, nat_tests) in
      let left : (at / page_size == page && (nat_le place at && nat_lt at (place + memory))) ≡ false = grind (arith, nat_tests) in left ∙ sym right
  | inr from ↦ elim (lt_or_le at end) [
    | inl inside ↦
        let right : (nat_le start at && nat_lt at (start + (end - start))) ≡ true = grind (arith, nat_tests) in
        let left : (at / page_size == page && (nat_le place at && nat_lt at (place + memory))) ≡ true = grind (arith, nat_tests) in left ∙ sym right
    | inr behind ↦
        let right : (nat_le start at && nat_lt at (start + (end - start))) ≡ false = grind (arith, nat_tests) in
        let left : (at / page_size == page && (nat_le place at && nat_lt at (place + memory))) ≡ false = grind (arith, nat_tests) in left ∙ sym right
  ]
]
