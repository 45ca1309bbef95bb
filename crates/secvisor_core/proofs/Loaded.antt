-- The bytes of RAM, one segment after another.
use Rattle.std.proofs.Common.{◌≡◌, ℕ, zero, suc, ◌+◌, ◌-◌, ◌*◌, ◌/◌, ◌<◌, inl, inr, Bool, true, false, List, [], ◌∷◌, ◌++◌, length, take, get_or, refl, sym, ◌∙◌, ap, subst, arith, replicate, add-one}
use Rattle.std.specs.Prelude.{max, fold, nat_le, nat_lt, ◌==◌, ◌&&◌, if◌then◌else◌}
use Rattle.std.specs.List.{All}
use Rattle.std.proofs.Math.Seq.{take-suc}
use Rattle.std.proofs.lemmas.Bool.Decides.{nat_tests}
use Rattle.std.proofs.lemmas.List.{length-replicate, ext_get_or}
use Rattle.std.proofs.lemmas.List.Elements.{All-head, All-tail, All-take, All-get_or}
use Rattle.std.proofs.lemmas.List.Sums.{fold-append}
use Rattle.spec_processor.specs.Bytes.{with_padding, page_size, ram_offset}
use Rattle.sv_types.specs.Kernel.{LoadedSegment, with_segment}
use Rattle.laws_processor.proofs.ByteLemmas.{lt_or_le, length_padded}
use Rattle.elf64_load.proofs.LoadedBytes.{at_before, at_written, at_after, at_padded, zero_at}
use Rattle.elf64_load.specs.Images.{IsPlaced}
use Rattle.secvisor_core.specs.Whole.{byte_of, covers, has_byte, loaded_byte, nothing, segment_at, IsLastWhole}
use Rattle.elf64_load.proofs.LoadedBytes.{length_with_segment}
use Rattle.laws_processor.proofs.GuestViews.{and_false}

-- ---- one segment

segment_byte : (ram : List ℕ) (s : LoadedSegment) (at : ℕ) → IsPlaced (length ram) s
    → get_or (with_segment ram s) at 0 ≡ (if has_byte s at then byte_of s at else get_or ram at 0)
segment_byte ram s at placed =
    let len = length_padded s.bytes s.memory placed.short in
    let inside = placed.inside in
    elim (lt_or_le at (ram_offset s.gpa)) [
      | inl before ↦
          let test : has_byte s at ≡ false = grind (arith, nat_tests) in
          rw test (at_before ram (with_padding s.bytes s.memory) (ram_offset s.gpa) at (omega arith) before)
      | inr from ↦ elim (lt_or_le at (ram_offset s.gpa + s.memory)) [
        | inl within ↦
            let test : has_byte s at ≡ true = grind (arith, nat_tests) in
            rw test (at_written ram (with_padding s.bytes s.memory) (ram_offset s.gpa) at (omega arith) from (omega arith) ∙ at_padded s.bytes s.memory (at - ram_offset s.gpa))
        | inr behind ↦
            let test : has_byte s at ≡ false = grind (arith, nat_tests) in
            rw test (at_after ram (with_padding s.bytes s.memory) (ram_offset s.gpa) at (omega arith) (omega arith))
      ]
    ]

pub all_fit : (size : ℕ) (ss : List LoadedSegment) (ram : List ℕ) → All (IsPlaced size) ss → length ram ≡ size → length (fold with_segment ram ss) ≡ size
all_fit size [] ram placed whole = whole
all_fit size (s ∷ ss) ram placed whole =
    let here : IsPlaced (length ram) s = subst (λ (n : ℕ). IsPlaced n s) (sym whole) (All-head (IsPlaced size) s ss placed) in
    all_fit size ss (with_segment ram s) (All-tail (IsPlaced size) s ss placed) (length_with_segment ram s here ∙ whole)

pub next_byte : (size : ℕ) (ss : List LoadedSegment) (k at : ℕ) → k < length ss → All (IsPlaced size) ss
    → loaded_byte size ss (k + 1) at ≡ (if has_byte (segment_at ss k) at then byte_of (segment_at ss k) at else loaded_byte size ss k at)
next_byte size ss k at more placed =
    let front = fold with_segment (replicate size 0) (take k ss) in
    let s = segment_at ss k in
    let cut : take (k + 1) ss ≡ take k ss ++ (s ∷ []) = rw add-one (take-suc ss k nothing more) in
    let whole : length front ≡ size = all_fit size (take k ss) (replicate size 0) (All-take (IsPlaced size) k ss placed) (length-replicate {A = ℕ} size 0) in
    let here : IsPlaced (length front) s = subst (λ (n : ℕ). IsPlaced n s) (sym whole) (All-get_or (IsPlaced size) ss k nothing more placed) in
    ap (λ (xs : List LoadedSegment). get_or (fold with_segment (replicate size 0) xs) at 0) cut
    ∙ ap (λ (ram : List ℕ). get_or ram at 0) (fold-append with_segment (replicate size 0) (take k ss) (s ∷ []))
    ∙ segment_byte front s at here

pub first_byte : (size : ℕ) (ss : List LoadedSegment) (at : ℕ) → loaded_byte size ss 0 at ≡ 0
first_byte size ss at = zero_at size at

-- ---- pages

covered : (s : LoadedSegment) (at page : ℕ) → covers page s ≡ true → at / page_size ≡ page → has_byte s at ≡ true
covered s at page whole here = grind (arith, nat_tests)

-- a byte after the pages so far have their owners
pub owned_byte : (size : ℕ) (ss : List LoadedSegment) (n owner page at : ℕ) → n ≡ length ss → All (IsPlaced size) ss → IsLastWhole ss n page owner → at / page_size ≡ page
    → loaded_byte size ss owner at ≡ (if nat_lt 0 owner && has_byte (segment_at ss (owner - 1)) at then byte_of (segment_at ss (owner - 1)) at else 0)
owned_byte size ss n zero page at all placed last here = first_byte size ss at
owned_byte size ss n (suc k) page at all placed last here =
    let within = last.within in
    let some : nat_lt 0 (suc k) ≡ true = grind (arith, nat_tests) in
    let e : suc k - 1 ≡ k = omega arith in
    let whole : has_byte (segment_at ss (suc k - 1)) at ≡ true = covered (segment_at ss (suc k - 1)) at page (last.whole (omega arith)) here in
    let whole_k : has_byte (segment_at ss k) at ≡ true = rw e at whole in
    let next = next_byte size ss k at (omega arith) placed in
    let one : k + 1 ≡ suc k = omega arith in
    rw (some, whole) (ap (λ (m : ℕ). loaded_byte size ss m at) (sym one) ∙ (rw whole_k at next) ∙ ap (λ (m : ℕ). byte_of (segment_at ss m) at) (sym e))

-- the next page
pub next_owned : (size : ℕ) (ss : List LoadedSegment) (n page owner at old new value : ℕ) → n ≡ length ss → All (IsPlaced size) ss → IsLastWhole ss n page owner
    → old ≡ (if nat_lt (at / page_size) page then value else 0) → (at / page_size ≡ page → value ≡ loaded_byte size ss owner at)
    → new ≡ (if nat_lt 0 owner && (at / page_size == page && has_byte (segment_at ss (owner - 1)) at) then byte_of (segment_at ss (owner - 1)) at else old)
    → new ≡ (if nat_lt (at / page_size) (page + 1) then value else 0)
next_owned size ss n page owner at old new value all placed last before value_is changed = elim (lt_or_le (at / page_size) page) [
  | inl less ↦
      let other : (at / page_size == page) ≡ false = grind (arith, nat_tests) in
      let was : nat_lt (at / page_size) page ≡ true = grind (arith, nat_tests) in
      let is : nat_lt (at / page_size) (page + 1) ≡ true = grind (arith, nat_tests) in
      let old_is : old ≡ value = rw was at before in
      rw is (changed ∙ apart (nat_lt 0 owner) (at / page_size == page) (has_byte (segment_at ss (owner - 1)) at) (byte_of (segment_at ss (owner - 1)) at) old other ∙ old_is)
  | inr from ↦
      let was : nat_lt (at / page_size) page ≡ false = grind (arith, nat_tests) in
      let old_is : old ≡ 0 = rw was at before in
      elim (lt_or_le page (at / page_size)) [
        | inl more ↦
            let other : (at / page_size == page) ≡ false = grind (arith, nat_tests) in
            let is : nat_lt (at / page_size) (page + 1) ≡ false = grind (arith, nat_tests) in
            rw is (changed ∙ apart (nat_lt 0 owner) (at / page_size == page) (has_byte (segment_at ss (owner - 1)) at) (byte_of (segment_at ss (owner - 1)) at) old other ∙ old_is)
        | inr up ↦
            let same : at / page_size ≡ page = omega arith in
            let equal : (at / page_size == page) ≡ true = grind (arith, nat_tests) in
            let is : nat_lt (at / page_size) (page + 1) ≡ true = grind (arith, nat_tests) in
            let whole = owned_byte size ss n owner page at all placed last same in
            rw is (changed ∙ together (nat_lt 0 owner) (at / page_size == page) (has_byte (segment_at ss (owner - 1)) at) (byte_of (segment_at ss (owner - 1)) at) old equal old_is
            ∙ sym whole ∙ sym (value_is same))
      ]
]
  where
    apart : (a b c : Bool) (x y : ℕ) → b ≡ false → (if a && (b && c) then x else y) ≡ y
    apart true true c x y e = absurd (cc)
    apart true false c x y e = refl
    apart false b c x y e = refl

    together : (a b c : Bool) (x y : ℕ) → b ≡ true → y ≡ 0 → (if a && (b && c) then x else y) ≡ (if a && c then x else 0)
    together a false c x y e zero_is = absurd (cc)
    together true true true x y e zero_is = refl
    together true true false x y e zero_is = zero_is
    together false true c x y e zero_is = zero_is

-- ---- edges

-- two pages of a segment after one another, where none of those between is due
pub edges_byte : (due due_first due_last first last has : Bool) (byte old : ℕ) → (first ≡ true → due_first ≡ due) → (last ≡ true → due_last ≡ due)
    → (has ≡ true → first ≡ false → last ≡ false → due ≡ false)
    → (if due_last && (last && has) then byte else if due_first && (first && has) then byte else old) ≡ (if due && has then byte else old)
edges_byte due df dl first last false byte old ef el between = none due df dl first last byte old
  where
    not_has : (a b : Bool) → (a && (b && false)) ≡ false
    not_has true true = refl
    not_has true false = refl
    not_has false b = refl

    none : (due df dl first last : Bool) (byte old : ℕ) → (if dl && (last && false) then byte else if df && (first && false) then byte else old) ≡ (if due && false then byte else old)
    none due df dl first last byte old = rw (not_has dl last, not_has df first, and_false due) refl
edges_byte true df true first true true byte old ef el between = refl
edges_byte false df false true true true byte old ef el between = let e = ef refl in rw e refl
edges_byte false df false false true true byte old ef el between = not_first df byte old
  where
    not_first : (df : Bool) (byte old : ℕ) → (if df && (false && true) then byte else old) ≡ old
    not_first true byte old = refl
    not_first false byte old = refl
edges_byte true df false first true true byte old ef el between = let e = el refl in absurd (cc)
edges_byte false df true first true true byte old ef el between = let e = el refl in absurd (cc)
edges_byte due df dl true false true byte old ef el between = let e = ef refl in rw e (not_last dl due byte old)
  where
    not_last : (dl due : Bool) (byte old : ℕ) → (if dl && (false && true) then byte else if due && (true && true) then byte else old) ≡ (if due && true then byte else old)
    not_last true true byte old = refl
    not_last true false byte old = refl
    not_last false true byte old = refl
    not_last false false byte old = refl
edges_byte due df dl false false true byte old ef el between = let e = between refl refl refl in rw e (neither dl df byte old)
  where
    neither : (dl df : Bool) (byte old : ℕ) → (if dl && (false && true) then byte else if df && (false && true) then byte else old) ≡ old
    neither true true byte old = refl
    neither true false byte old = refl
    neither false true byte old = refl
    neither false false byte old = refl

-- the next segment
pub next_edge : (size : ℕ) (ss : List LoadedSegment) (i owner at old new : ℕ) → All (IsPlaced size) ss → i < length ss
    → old ≡ loaded_byte size ss (max i owner) at
    → new ≡ (if nat_le owner i && has_byte (segment_at ss i) at then byte_of (segment_at ss i) at else old)
    → new ≡ loaded_byte size ss (max (i + 1) owner) at
next_edge size ss i owner at old new placed more before changed = elim (lt_or_le i owner) [
  | inl less ↦
      let due : nat_le owner i ≡ false = grind (arith, nat_tests) in
      let same : max i owner ≡ max (i + 1) owner = omega arith in
      changed ∙ rw due refl ∙ before ∙ ap (λ (k : ℕ). loaded_byte size ss k at) same
  | inr from ↦
      let due : nat_le owner i ≡ true = grind (arith, nat_tests) in
      let this : max i owner ≡ i = omega arith in
      let that : i + 1 ≡ max (i + 1) owner = omega arith in
      let old_is : old ≡ loaded_byte size ss i at = before ∙ ap (λ (k : ℕ). loaded_byte size ss k at) this in
      changed ∙ rw (due, old_is) refl ∙ sym (next_byte size ss i at more placed) ∙ ap (λ (k : ℕ). loaded_byte size ss k at) that
]

pub between_edges : (s : LoadedSegment) (at : ℕ) → has_byte s at ≡ true → (at / page_size == ram_offset s.gpa / page_size) ≡ false
    → (at / page_size == (ram_offset s.gpa + s.memory - 1) / page_size) ≡ false → covers (at / page_size) s ≡ true
between_edges s at inside first last = grind (arith, nat_tests)

pub page_below : (s : LoadedSegment) (at size pages : ℕ) → has_byte s at ≡ true → IsPlaced size s → size ≡ page_size * pages → at / page_size < pages
page_below s at size pages inside placed whole = let within = placed.inside in grind (arith, nat_tests)

-- ---- all segments

take_all : (ss : List LoadedSegment) → take (length ss) ss ≡ ss
take_all [] = refl
take_all (s ∷ ss) = ap (◌∷◌ s) (take_all ss)

pub all_loaded : (size : ℕ) (ss : List LoadedSegment) (n : ℕ) (ram : List ℕ) → n ≡ length ss → All (IsPlaced size) ss → length ram ≡ size
    → ((at : ℕ) → at < size → get_or ram at 0 ≡ loaded_byte size ss n at) → ram ≡ fold with_segment (replicate size 0) ss
all_loaded size ss n ram all placed whole bytes =
    ext_get_or 0 ram (fold with_segment (replicate size 0) ss)
    (whole ∙ sym (all_fit size ss (replicate size 0) placed (length-replicate {A = ℕ} size 0)))
    (λ at below.
    bytes at (omega arith) ∙ ap (λ (m : ℕ). loaded_byte size ss m at) all ∙ ap (λ (xs : List LoadedSegment). get_or (fold with_segment (replicate size 0) xs) at 0) (take_all ss))
