-- Words as the library's integers read and write their bytes.
use Rattle.std.proofs.Common.{◌≡◌, ℕ, suc, ◌+◌, ◌*◌, ◌%◌, ◌<◌, ◌≤◌, ◌-◌, List, [], ◌∷◌, ◌++◌, length, take, drop, get_or, set, add-one, refl, ◌∙◌, ap, arith}
use Rattle.std.proofs.lemmas.List.{append-nil, drop_more, drop_all, drop-drop, set_split, take_all}
use Rattle.std.specs.Int.{from_le_bytes, w16, w32, w64}
use borrow.Rule.Slice.PartMut.{put_mid}
use Rattle.spec_processor.specs.Bytes.{word, write_word, overwrite, low_bytes}
use Rattle.laws_processor.proofs.ByteLemmas.{length_low_bytes}

-- ---- reading

-- a word is its lowest byte and the word after it
word_more : (list : List ℕ) (at next n : ℕ) → next ≡ at + 1 → at < length list → word list at (suc n) ≡ get_or list at 0 + 256 * word list next n
unfolding word
word_more list at next n e within = rw (e, drop_more list at 0 within) refl

word_none : (list : List ℕ) (at : ℕ) → word list at 0 ≡ 0
unfolding word
word_none list at = refl

pub word_1 : (list : List ℕ) (at n : ℕ) → n ≡ 1 → at + 1 ≤ length list → word list at n ≡ get_or list at 0
word_1 list at n e fits =
    let more = word_more list at (at + 1) 0 refl (omega arith) in
    let none = word_none list (at + 1) in
    rw e (omega arith)

pub word_2 : (list : List ℕ) (at n : ℕ) → n ≡ 2 → at + 2 ≤ length list → word list at n ≡ from_le_bytes w16 (get_or list at 0 ∷ get_or list (at + 1) 0 ∷ [])
word_2 list at n e fits =
    let more0 = word_more list at (at + 1) 1 refl (omega arith) in
    let more1 = word_more list (at + 1) (at + 2) 0 (omega arith) (omega arith) in
    let none = word_none list (at + 2) in
    rw e (omega arith)

pub word_4 : (list : List ℕ) (at n : ℕ) → n ≡ 4 → at + 4 ≤ length list
    → word list at n ≡ from_le_bytes w32 (get_or list at 0 ∷ get_or list (at + 1) 0 ∷ get_or list (at + 2) 0 ∷ get_or list (at + 3) 0 ∷ [])
word_4 list at n e fits =
    let more0 = word_more list at (at + 1) 3 refl (omega arith) in
    let more1 = word_more list (at + 1) (at + 2) 2 (omega arith) (omega arith) in
    let more2 = word_more list (at + 2) (at + 3) 1 (omega arith) (omega arith) in
    let more3 = word_more list (at + 3) (at + 4) 0 (omega arith) (omega arith) in
    let none = word_none list (at + 4) in
    rw e (omega arith)

pub word_8 : (list : List ℕ) (at n : ℕ) → n ≡ 8 → at + 8 ≤ length list
    → word list at n ≡
    from_le_bytes w64 (get_or list at 0 ∷ get_or list (at + 1) 0 ∷ get_or list (at + 2) 0 ∷ get_or list (at + 3) 0 ∷ get_or list (at + 4) 0 ∷ get_or list (at +
    5) 0 ∷ get_or list (at + 6) 0 ∷ get_or list (at + 7) 0 ∷ [])
word_8 list at n e fits =
    let more0 = word_more list at (at + 1) 7 refl (omega arith) in
    let more1 = word_more list (at + 1) (at + 2) 6 (omega arith) (omega arith) in
    let more2 = word_more list (at + 2) (at + 3) 5 (omega arith) (omega arith) in
    let more3 = word_more list (at + 3) (at + 4) 4 (omega arith) (omega arith) in
    let more4 = word_more list (at + 4) (at + 5) 3 (omega arith) (omega arith) in
    let more5 = word_more list (at + 5) (at + 6) 2 (omega arith) (omega arith) in
    let more6 = word_more list (at + 6) (at + 7) 1 (omega arith) (omega arith) in
    let more7 = word_more list (at + 7) (at + 8) 0 (omega arith) (omega arith) in
    let none = word_none list (at + 8) in
    rw e (omega arith)

-- ---- writing

-- a list written over all of another of its length
pub written_over : (len : ℕ) (new old : List ℕ) → length new ≡ len → length old ≡ len → take len (new ++ drop (length new) old) ≡ new
written_over len new old same full =
    let none : drop (length new) old ≡ [] = drop_all (length new) old (omega (arith, same, full)) in
    ap (λ (rest : List ℕ). take len (new ++ rest)) none ∙ ap (take len) (append-nil new) ∙ take_all len new (omega (arith, same))

-- what stands after a write to a part of a slice
pub part_put : (list bytes : List ℕ) (at stop : ℕ) → stop ≡ at + length bytes → put_mid at (stop - at) list bytes ≡ overwrite list at bytes
unfolding overwrite
part_put list bytes at stop e =
    let k : stop - at ≡ length bytes = omega arith in
    rw (k, drop-drop) refl

-- the lowest bytes of a value, written there
pub word_put : (list bytes : List ℕ) (at stop n m value : ℕ) → m ≡ n → bytes ≡ low_bytes n value → stop ≡ at + n
    → put_mid at (stop - at) list bytes ≡ write_word list at m value
word_put list bytes at stop n m value same is end =
    let len = length_low_bytes n value in
    rw (same, is) (part_put list (low_bytes n value) at stop (omega arith))

pub byte_put : (list : List ℕ) (at m value b : ℕ) → m ≡ 1 → b ≡ value % 256 → at < length list → set list at b ≡ write_word list at m value
unfolding overwrite
byte_put list at m value b same is within = rw (same, is, set_split list at (value % 256) within, add-one) refl
