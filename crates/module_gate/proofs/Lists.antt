-- Lists of modules: how they are searched, and that they ascend.
use Rattle.std.proofs.Common.{◌≡◌, ℕ, suc, ◌+◌, ◌<◌, ◌≤◌, List, [], ◌∷◌, length, refl, ap, Bool, true, false, not, arith}
use Rattle.std.specs.Prelude.{Option, Some, None, find, position, unwrap_or, ◌==◌, if◌then◌else◌, nat_lt}
use Rattle.std.specs.List.{insert, position_or_len}
use Rattle.std.proofs.lemmas.Bool.{eq-eqb}
use Rattle.std.proofs.lemmas.Bool.Decides.{nat_tests}
use Rattle.std.proofs.lemmas.List.Sums.{prefix_len-le-length}
use Rattle.sv_types.specs.declared.saved.ModulePlacement.{ModulePlacement}
use Rattle.spec_reference.specs.States.{find_module, with_module, without_module}
use Rattle.module_gate.specs.Ascending.{AscendsFrom}

-- the first module of the id
pub found_is : (modules : List ModulePlacement) (id : ℕ) → find (λ (m : ModulePlacement). m.id == id) modules ≡ find_module modules id
unfolding find_module
found_is [] id = refl
found_is (m ∷ modules) id = ap (λ (rest : Option ModulePlacement). if m.id == id then Some m else rest) (found_is modules id)

-- ---- the place of a module

pub place_inside : (test : ModulePlacement → Bool) (modules : List ModulePlacement) → position_or_len test modules ≤ length modules
place_inside test modules = prefix_len-le-length (λ (m : ModulePlacement). not (test m)) modules

pub place_is : (test : ModulePlacement → Bool) (modules : List ModulePlacement) → unwrap_or (position test modules) (length modules) ≡ position_or_len test modules
place_is test modules = by (position_or_len test modules) (length modules) (nat_lt (position_or_len test modules) (length modules)) refl (place_inside test modules)
  where
    by : (n size : ℕ) (b : Bool) → nat_lt n size ≡ b → n ≤ size → unwrap_or (if b then Some n else None) size ≡ n
    by n size true test less = refl
    by n size false test less = grind (arith, nat_tests)

pub inserted_is : (modules : List ModulePlacement) (m : ModulePlacement) → insert modules (position_or_len (λ (k : ModulePlacement). nat_lt m.id k.id) modules) m ≡ with_module modules m
unfolding with_module
inserted_is [] m = refl
inserted_is (first ∷ modules) m = by (nat_lt m.id first.id) (inserted_is modules m)
  where
    by : (b : Bool) → insert modules (position_or_len (λ (k : ModulePlacement). nat_lt m.id k.id) modules) m ≡ with_module modules m
        → insert (first ∷ modules) (if not b then 1 + position_or_len (λ (k : ModulePlacement). nat_lt m.id k.id) modules else 0) m ≡
        (if b then m ∷ (first ∷ modules) else first ∷ with_module modules m)
    by true e = refl
    by false e = let one : 1 + position_or_len (λ (k : ModulePlacement). nat_lt m.id k.id) modules ≡
        suc (position_or_len (λ (k : ModulePlacement). nat_lt m.id k.id) modules) = omega arith in rw one (ap (λ (rest : List ModulePlacement). first ∷ rest) e)

-- ---- ascending lists

pub lower : (low high : ℕ) (modules : List ModulePlacement) → low ≤ high → AscendsFrom high modules → AscendsFrom low modules
lower low high [] less up = omega (arith, less, up)
lower low high (m ∷ modules) less up = let first : high ≤ m.id = up.0 in (omega (arith, less, first), up.1)

kept_or_gone : (gone : Bool) (low : ℕ) (m : ModulePlacement) (rest : List ModulePlacement) → low ≤ m.id → AscendsFrom (m.id + 1) rest → AscendsFrom low (if not gone then m ∷ rest else rest)
kept_or_gone true low m rest first up = lower low (m.id + 1) rest (omega (arith, first)) up
kept_or_gone false low m rest first up = (first, up)

pub ascends_without : (low : ℕ) (modules : List ModulePlacement) (gone : ℕ) → AscendsFrom low modules → AscendsFrom low (without_module modules gone)
ascends_without low [] gone up = up
ascends_without low (m ∷ modules) gone up = kept_or_gone (m.id == gone) low m (without_module modules gone) up.0 (ascends_without (m.id + 1) modules gone up.1)

with_by : (before : Bool) (low : ℕ) (m first : ModulePlacement) (rest : List ModulePlacement) → nat_lt m.id first.id ≡ before → (first.id == m.id) ≡ false → low ≤ m.id → low ≤ first.id
    → AscendsFrom (first.id + 1) rest → (first.id + 1 ≤ m.id → AscendsFrom (first.id + 1) (with_module rest m)) → m.id < 64
    → AscendsFrom low (if before then m ∷ (first ∷ rest) else first ∷ with_module rest m)
with_by true low m first rest test other a b up more below = let less : m.id + 1 ≤ first.id = grind (arith, nat_tests) in (a, (less, up))
with_by false low m first rest test other a b up more below =
    let apart : first.id ≡ m.id → ⊥ = λ same. let there : (first.id == m.id) ≡ true = eq-eqb first.id m.id same in cc in
    let less : first.id + 1 ≤ m.id = grind (arith, nat_tests, apart) in (b, more less)

other_first : (first : ModulePlacement) (id : ℕ) (b : Bool) (rest : Option ModulePlacement) → (if b then Some first else rest) ≡ None → (b ≡ false) × (rest ≡ None)
other_first first id true rest e = absurd (cc)
other_first first id false rest e = (refl, e)

pub ascends_with : (low : ℕ) (modules : List ModulePlacement) (m : ModulePlacement) → AscendsFrom low modules → low ≤ m.id → m.id < 64 → find_module modules m.id ≡ None →
    AscendsFrom low (with_module modules m)
unfolding with_module find_module
ascends_with low [] m up from below none = (from, omega (arith, below))
ascends_with low (first ∷ rest) m up from below none =
    let other = other_first first m.id (first.id == m.id) (find_module rest m.id) none in
    with_by (nat_lt m.id first.id) low m first rest refl other.0 from up.0 up.1 (λ more. ascends_with (first.id + 1) rest m up.1 more below other.1) below

pub length_with : (modules : List ModulePlacement) (m : ModulePlacement) → length (with_module modules m) ≡ suc (length modules)
unfolding with_module
length_with [] m = refl
length_with (first ∷ rest) m = by (nat_lt m.id first.id) (length_with rest m)
  where
    by : (b : Bool) → length (with_module rest m) ≡ suc (length rest) → length (if b then m ∷ (first ∷ rest) else first ∷ with_module rest m) ≡ suc (suc (length rest))
    by true e = refl
    by false e = ap suc e

pub few_modules : (low : ℕ) (modules : List ModulePlacement) → AscendsFrom low modules → low + length modules ≤ 64
few_modules low [] up = omega (arith, up)
few_modules low (m ∷ modules) up = let rest = few_modules (m.id + 1) modules up.1 in let first : low ≤ m.id = up.0 in omega (arith, rest, first)
