-- The last segment that covers a page whole, from the last segment on.
use Rattle.std.proofs.Common.{◌≡◌, ℕ, zero, suc, ◌+◌, ◌-◌, ◌<◌, ◌≤◌, inl, inr, Bool, true, false, List, [], ◌∷◌, length, map, get_or, refl, subst, arith}
use Rattle.std.specs.Prelude.{◌==◌, ◌&&◌, if◌then◌else◌}
use Rattle.std.specs.List.{All}
use Rattle.std.proofs.lemmas.Bool.Decides.{nat_tests}
use Rattle.std.proofs.lemmas.List.Elements.{All-head, All-tail}
use Rattle.sv_types.specs.Kernel.{LoadedSegment}
use Rattle.laws_processor.proofs.ByteLemmas.{lt_or_le}
use Rattle.elf64_load.specs.Images.{segment_of, IsPlaced}
use Rattle.elf64_load.specs.declared.image.Segment.{Segment}
use Rattle.secvisor_core.specs.Whole.{covers, segment_at}

-- the last segment from place i on that covers a page
pub record IsLastFrom (ss : List LoadedSegment) (i n page owner : ℕ) : Type 0 where
  pub within : owner ≤ n
  pub from : 0 < owner → i < owner
  pub whole : 0 < owner → covers page (segment_at ss (owner - 1)) ≡ true
  pub behind : (k : ℕ) → i ≤ k → owner ≤ k → k < n → covers page (segment_at ss k) ≡ false

pub next_owner : (ss : List LoadedSegment) (i n page owner : ℕ) (covered : Bool) → i < n → covers page (segment_at ss i) ≡ covered
    → IsLastFrom ss (i + 1) n page owner → IsLastFrom ss i n page (if owner == 0 && covered then i + 1 else owner)
next_owner ss i n page zero true before is last = record {
  within = omega arith;
  from = λ some. omega arith;
  whole = λ some. let e : i + 1 - 1 ≡ i = omega arith in rw e is;
  behind = λ k from high low. last.behind k (omega arith) (omega arith) low;
}
next_owner ss i n page zero false before is last = record {
  within = omega arith;
  from = λ some. absurd (omega arith);
  whole = λ some. absurd (omega arith);
  behind = λ k from high low. elim (lt_or_le i k) [
    | inl later ↦ last.behind k (omega arith) (omega arith) low
    | inr here ↦ let e : i ≡ k = omega arith in subst (λ (m : ℕ). covers page (segment_at ss m) ≡ false) e is
  ];
}
next_owner ss i n page (suc owner) covered before is last =
    let from = last.from (omega arith) in
    let owned : (suc owner == 0 && covered) ≡ false = grind (arith, nat_tests) in
    rw owned (record {
      within = last.within;
      from = λ some. omega arith;
      whole = last.whole;
      behind = λ k low high less. last.behind k (omega arith) high less;
    })

-- a segment of the list
pub item_at : (items : List Segment) (i : ℕ) (d : Segment) → i < length items → segment_of (get_or items i d) ≡ segment_at (map segment_of items) i
item_at [] i d before = absurd (omega arith)
item_at (x ∷ items) zero d before = refl
item_at (x ∷ items) (suc i) d before = item_at items i d (omega arith)

pub placed_item : (size : ℕ) (items : List Segment) (i : ℕ) (d : Segment) → i < length items → All (IsPlaced size) (map segment_of items) → IsPlaced size (segment_of (get_or items i d))
placed_item size [] i d before all = absurd (omega arith)
placed_item size (x ∷ items) zero d before all = All-head (IsPlaced size) (segment_of x) (map segment_of items) all
placed_item size (x ∷ items) (suc i) d before all = placed_item size items i d (omega arith) (All-tail (IsPlaced size) (segment_of x) (map segment_of items) all)
