-- The pages of a segment, one after another, from the first on: each that is free gets an owner, and a skip after them all.
use Rattle.std.proofs.Common.{◌≡◌, ℕ, ◌+◌, ◌<◌, ◌≤◌, inl, inr, Bool, true, false, List, length, get_or, set, refl, sym, ap, ◌∙◌, arith}
use Rattle.std.specs.Prelude.{max, ◌==◌, ◌&&◌, nat_le, nat_lt, if◌then◌else◌}
use Rattle.std.proofs.lemmas.Bool.Decides.{nat_tests}
use Rattle.std.proofs.lemmas.Bool.{cases_eq}
use Rattle.std.proofs.lemmas.List.{get_or-set_same, get_or-set_other, length-set}
use Rattle.laws_processor.proofs.ByteLemmas.{lt_or_le}
use Rattle.secvisor_core.specs.Whole.{SkipsOwned}

-- the pages before this one have owners; their skips may lead after the last page of the segment already
pub record IsWalk (first end number : ℕ) (owners_old skips_old owners skips : List ℕ) (page : ℕ) : Type 0 where
  pub size : length owners ≡ length owners_old
  pub count : length skips ≡ length skips_old
  pub from : first ≤ page
  pub claimed : (q : ℕ) → q < length owners_old
      → get_or owners q 0 ≡ (if get_or owners_old q 0 == 0 && (nat_le first q && (nat_lt q end && nat_lt q page)) then number else get_or owners_old q 0)
  pub ahead : (q : ℕ) → page ≤ q → get_or skips q 0 ≡ get_or skips_old q 0
  pub owned : (p q : ℕ) → p < q → q < get_or skips p 0 → q < length owners_old → (page ≤ q → end ≤ q) → 0 < get_or owners q 0

free_claimed : (number b : ℕ) (free : Bool) → (if free then number else b) ≡ (if free && true then number else b)
free_claimed number b true = refl
free_claimed number b false = refl

-- a page's owner after a turn
owner_next : (first end number page next q b o p o1 : ℕ) → first ≤ page → page < end → page < next → (page < q → q < next → 0 < b)
    → o ≡ (if b == 0 && (nat_le first q && (nat_lt q end && nat_lt q page)) then number else b)
    → (q ≡ page → p ≡ o)
    → o1 ≡ (if q == page && p == 0 then number else o)
    → o1 ≡ (if b == 0 && (nat_le first q && (nat_lt q end && nat_lt q next)) then number else b)
owner_next first end number page next q b o p o1 from some on over old same new = elim (lt_or_le q page) [
  | inl before ↦
      let other : (q == page) ≡ false = grind (arith, nat_tests) in
      let now : nat_lt q page ≡ true = grind (arith, nat_tests) in
      let later : nat_lt q next ≡ true = grind (arith, nat_tests) in
      let kept : o1 ≡ o = new ∙ rw other refl in
      kept ∙ old ∙ rw (now, later) refl
  | inr high ↦
      let none : (b == 0 && (nat_le first q && (nat_lt q end && nat_lt q page))) ≡ false = grind (arith, nat_tests) in
      let is : o ≡ b = old ∙ rw none refl in
      elim (lt_or_le page q) [
        | inr low ↦
            let here : q ≡ page = omega arith in
            let test : (q == page) ≡ true = grind (arith, nat_tests) in
            let start : nat_le first q ≡ true = grind (arith, nat_tests) in
            let inside : nat_lt q end ≡ true = grind (arith, nat_tests) in
            let later : nat_lt q next ≡ true = grind (arith, nat_tests) in
            let p_is : p ≡ b = same here ∙ is in
            new ∙ rw (test, p_is, is, start, inside, later) (free_claimed number b (b == 0))
        | inl behind ↦
            let other : (q == page) ≡ false = grind (arith, nat_tests) in
            let kept : o1 ≡ b = new ∙ rw other is in
            elim (lt_or_le q next) [
              | inl between ↦
                  let taken : 0 < b = over behind between in
                  let test : (b == 0 && (nat_le first q && (nat_lt q end && nat_lt q next))) ≡ false = grind (arith, nat_tests) in kept ∙ rw test refl
              | inr far ↦
                  let test : (b == 0 && (nat_le first q && (nat_lt q end && nat_lt q next))) ≡ false = grind (arith, nat_tests) in kept ∙ rw test refl
            ]
      ]
]

still_owned : (number o o1 : ℕ) (free : Bool) → 0 < number → 0 < o → o1 ≡ (if free then number else o) → 0 < o1
still_owned number o o1 true some was is = rw is some
still_owned number o o1 false some was is = rw is was

now_owned : (number o o1 : ℕ) (free : Bool) → 0 < number → free ≡ (o == 0) → o1 ≡ (if free then number else o) → 0 < o1
now_owned number o o1 true some none is = rw is some
now_owned number o o1 false some none is = let owned : 0 < o = grind (arith, nat_tests) in rw is owned

pub next_page : (first end number : ℕ) (owners_old skips_old owners skips owners_new skips_new : List ℕ) (page next : ℕ)
    → 0 < number → end ≤ length owners_old → length skips_old ≡ length owners_old → SkipsOwned owners_old skips_old → page < end
    → IsWalk first end number owners_old skips_old owners skips page
    → next ≡ max (get_or skips page 0) (page + 1)
    → length owners_new ≡ length owners
    → ((q : ℕ) → get_or owners_new q 0 ≡ (if q == page && get_or owners page 0 == 0 then number else get_or owners q 0))
    → skips_new ≡ set skips page (max next end)
    → IsWalk first end number owners_old skips_old owners_new skips_new next
next_page first end number owners_old skips_old owners skips owners_new skips_new page next some within sized all more walk next_is size made skips_is =
    let over : (q : ℕ) → page < q → q < next → q < length owners_old → 0 < get_or owners_old q 0 = λ q behind before below.
    let skip : get_or skips page 0 ≡ get_or skips_old page 0 = walk.ahead page (omega arith) in
    all page q behind (omega arith) below in
    let grow : (q : ℕ) → 0 < get_or owners q 0 → 0 < get_or owners_new q 0 = λ q was.
    still_owned number (get_or owners q 0) (get_or owners_new q 0) (q == page && get_or owners page 0 == 0) some was (made q) in
    let from = walk.from in
    let count = walk.count in
    let fits : page < length skips = omega arith in
    let kept : (p : ℕ) → (p ≡ page → ⊥) → get_or skips_new p 0 ≡ get_or skips p 0 = λ p other.
    ap (λ (xs : List ℕ). get_or xs p 0) skips_is ∙ get_or-set_other skips page p (max next end) 0 other in
    let here : get_or skips_new page 0 ≡ max next end =
    ap (λ (xs : List ℕ). get_or xs page 0) skips_is ∙ get_or-set_same skips page (max next end) 0 fits in
    record {
      size = size ∙ walk.size;
      count = ap length skips_is ∙ length-set skips page (max next end) ∙ walk.count;
      from = omega arith;
      claimed = λ q below.
          owner_next first end number page next q (get_or owners_old q 0) (get_or owners q 0) (get_or owners page 0) (get_or owners_new q 0) from more (omega arith)
          (λ behind before. over q behind before below) (walk.claimed q below) (λ same. ap (λ n. get_or owners n 0) (sym same)) (made q);
      ahead = λ q high. kept q (λ same. omega arith) ∙ walk.ahead q (omega arith);
      owned = λ p q order reach below out. elim (lt_or_le q next) [
        | inl before ↦ elim (lt_or_le q page) [
          | inl low ↦
              let skip = kept p (λ same. omega arith) in
              grow q (walk.owned p q order (omega arith) below (λ up. absurd (omega arith)))
          | inr high ↦ elim (lt_or_le page q) [
            | inl behind ↦
                let test : (get_or owners_old q 0 == 0 && (nat_le first q && (nat_lt q end && nat_lt q page))) ≡ false = grind (arith, nat_tests) in
                let same : get_or owners q 0 ≡ get_or owners_old q 0 = walk.claimed q below ∙ rw test refl in
                let was = over q behind before below in
                grow q (omega arith)
            | inr same ↦
                let e : q ≡ page = omega arith in
                let test : (q == page) ≡ true = grind (arith, nat_tests) in
                let o : get_or owners q 0 ≡ get_or owners page 0 = ap (λ n. get_or owners n 0) e in
                now_owned number (get_or owners page 0) (get_or owners_new q 0) (get_or owners page 0 == 0) some refl (made q ∙ rw (test, o) refl)
          ]
        ]
        | inr far ↦
            let past = out far in
            elim (cases_eq p page) [
              | inl e ↦
                  let skip : get_or skips_new p 0 ≡ max next end = ap (λ n. get_or skips_new n 0) e ∙ here in
                  absurd (omega arith)
              | inr other ↦
                  let skip = kept p other in
                  grow q (walk.owned p q order (omega arith) below (λ up. past))
            ]
      ];
    }
