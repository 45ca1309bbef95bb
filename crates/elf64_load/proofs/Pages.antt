-- Numbers in a row, headers one after the other, and parts of lists.
use Rattle.std.proofs.Common.{◌≡◌, ℕ, zero, suc, ◌+◌, ◌-◌, ◌*◌, inl, inr, min, true, false, List, [], ◌∷◌, ◌++◌, length, take, drop, map, filter, flat_map, refl, ap, sym, ◌∙◌, arith, length-drop}
use Rattle.std.proofs.lemmas.List.{take_min, map-append, append-nil}
use Rattle.std.proofs.lemmas.List.Elements.{All-weaker, filter-append, filter_passes}
use Rattle.std.proofs.lemmas.Bool.{and_parts, ltb-true}
use Rattle.std.specs.Prelude.{nat_lt, ◌==◌, All}
use Rattle.elf64_load.specs.Headers.{HasMemory}
use Rattle.std.proofs.lemmas.Grind.{flat_map-append}
use Rattle.std.proofs.Math.ListN.{drop_of_length-le}
use Rattle.elf64_load.proofs.Numbers.{numbers-suc}
use Rattle.spec_processor.specs.Bytes.{part}
use Rattle.sv_types.specs.Kernel.{header_at, is_loaded, loaded_among, table_place}
use Rattle.sv_types.specs.ApprovedPages.{numbers_from}
use Rattle.sv_types.specs.declared.kernel.ProgramHeader.{ProgramHeader}
use Rattle.laws_processor.proofs.ByteLemmas.{lt_or_le}

pub flat_map-more : {X : Type 0} (f : ℕ → List X) (n : ℕ) → flat_map f (numbers_from 0 (n + 1)) ≡ flat_map f (numbers_from 0 n) ++ f n
flat_map-more {X = X} f n =
    ap {B = List X} (flat_map f) (numbers-suc n) ∙ flat_map-append f (numbers_from 0 n) (n ∷ [])
    ∙ ap (λ (ys : List X). flat_map f (numbers_from 0 n) ++ ys) (append-nil (f n))

-- ---- headers

pub one_more : (file : List ℕ) (i : ℕ)
    → loaded_among file (i + 1) ≡ loaded_among file i ++ filter is_loaded (header_at file (table_place file + 56 * i) ∷ [])
unfolding loaded_among
one_more file i =
    let at : ℕ → ProgramHeader = λ (k : ℕ). header_at file (table_place file + 56 * k) in
    ap (λ (ns : List ℕ). filter is_loaded (map at ns)) (numbers-suc i)
    ∙ ap (filter is_loaded) (map-append at (numbers_from 0 i) (i ∷ []))
    ∙ filter-append is_loaded (map at (numbers_from 0 i)) (at i ∷ [])

-- a header more: it joins the others, or is passed over
pub one_more_loaded : (file : List ℕ) (i table : ℕ) (h : ProgramHeader) (hs : List ProgramHeader) → table ≡ table_place file
    → h ≡ header_at file (table + 56 * i) → is_loaded h ≡ true → hs ≡ loaded_among file i → hs ++ h ∷ [] ≡ loaded_among file (i + 1)
one_more_loaded file i table h hs place is loaded so_far =
    let here : h ≡ header_at file (table_place file + 56 * i) = is ∙ ap (λ (t : ℕ). header_at file (t + 56 * i)) place in
    let kept : filter is_loaded (h ∷ []) ≡ h ∷ [] = rw loaded refl in
    sym (one_more file i ∙ sym (ap (λ (k : ProgramHeader). loaded_among file i ++ filter is_loaded (k ∷ [])) here)
    ∙ ap (λ (ks : List ProgramHeader). loaded_among file i ++ ks) kept
    ∙ sym (ap (λ (ks : List ProgramHeader). ks ++ h ∷ []) so_far))

pub one_more_passed : (file : List ℕ) (i table : ℕ) (h : ProgramHeader) (hs : List ProgramHeader) → table ≡ table_place file
    → h ≡ header_at file (table + 56 * i) → is_loaded h ≡ false → hs ≡ loaded_among file i → hs ≡ loaded_among file (i + 1)
one_more_passed file i table h hs place is loaded so_far =
    let here : h ≡ header_at file (table_place file + 56 * i) = is ∙ ap (λ (t : ℕ). header_at file (t + 56 * i)) place in
    let kept : filter is_loaded (h ∷ []) ≡ [] = rw loaded refl in
    sym (one_more file i ∙ sym (ap (λ (k : ProgramHeader). loaded_among file i ++ filter is_loaded (k ∷ [])) here)
    ∙ ap (λ (ks : List ProgramHeader). loaded_among file i ++ ks) kept
    ∙ append-nil (loaded_among file i)
    ∙ sym so_far)

has_memory : (h : ProgramHeader) → is_loaded h ≡ true → HasMemory h
has_memory h loaded = ltb-true 0 h.memory_size (and_parts (h.kind == 1) (nat_lt 0 h.memory_size) loaded).1

-- loaded segments have memory
pub memory_of_loaded : (file : List ℕ) (n : ℕ) → All HasMemory (loaded_among file n)
unfolding loaded_among
memory_of_loaded file n =
    let at : ℕ → ProgramHeader = λ (k : ℕ). header_at file (table_place file + 56 * k) in
    let loaded = map at (numbers_from 0 n) in
    All-weaker (λ h. is_loaded h ≡ true) HasMemory has_memory (filter is_loaded loaded) (filter_passes is_loaded loaded)

-- ---- parts

take_none : (k : ℕ) → take {A = ℕ} k [] ≡ []
take_none zero = refl
take_none (suc k) = refl

-- a part that ends with the list
pub part_within : (list : List ℕ) (start n : ℕ)
    → take (min (start + n) (length list) - min start (length list)) (drop (min start (length list)) list) ≡ part list start n
part_within list start n = elim (lt_or_le start (length list)) [
  | inl below ↦
      let from : min start (length list) ≡ start = omega arith in
      let size : min (start + n) (length list) - start ≡ min n (length (drop start list)) = simp length-drop (omega arith) in
      rw (from, size) (take_min n (drop start list))
  | inr above ↦
      let none : drop start list ≡ [] = drop_of_length-le list above in
      let from : min start (length list) ≡ length list = omega arith in
      let all : drop (length list) list ≡ [] = drop_of_length-le list (omega arith) in
      rw (from, all, none) (take_none (min (start + n) (length list) - length list) ∙ sym (take_none n))
]
