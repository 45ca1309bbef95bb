-- What stands at the places of the trees.
use Rattle.std.proofs.Common.{◌≡◌, ◌≢◌, ℕ, ◌+◌, ◌*◌, ◌<◌, ◌≤◌, Bool, true, false, refl}
use Rattle.std.specs.Prelude.{◌==◌, nat_lt}
use borrow.Author.Tests.{lt-ltb, le-ltb, ne_eqb, eq-eqb}
use Rattle.sv_types.specs.Views.{Sight}
use Rattle.sv_types.specs.declared.protection.Protection.{Protection}
use Rattle.sv_types.specs.declared.protection.Protection.TheVariants.{Free}
use Rattle.gstage_tables.specs.Layout.{pointer, leaf, root_word, middle_word, leaf_word}

pub root_two : (trees tree i : ℕ) → i ≡ 2 → root_word trees tree i ≡ pointer (4 * trees + tree)
unfolding root_word
root_two trees tree i same = let e : (i == 2) ≡ true = eq-eqb i 2 same in rw e refl

pub root_other : (trees tree i : ℕ) → i ≢ 2 → root_word trees tree i ≡ 0
unfolding root_word
root_other trees tree i ne = let e : (i == 2) ≡ false = ne_eqb i 2 ne in rw e refl

-- the level-0 table of a block that isn't whole
pub middle_there : (trees t n : ℕ) (sight : Sight) (tree i : ℕ) (whole : Bool) → i < t → whole ≡ false
    → middle_word trees t n sight tree i whole ≡ pointer (5 * trees + tree * t + i)
unfolding middle_word
middle_there trees t n sight tree i whole l is = let e : nat_lt i t ≡ true = lt-ltb i t l in rw (e, is) refl

-- the leaf of a whole block
pub middle_whole : (trees t n : ℕ) (sight : Sight) (tree i : ℕ) (whole : Bool) → i < t → whole ≡ true
    → middle_word trees t n sight tree i whole ≡ leaf sight (512 * i) Free (n + 512 * i)
unfolding middle_word
middle_whole trees t n sight tree i whole l is = let e : nat_lt i t ≡ true = lt-ltb i t l in rw (e, is) refl

pub middle_past : (trees t n : ℕ) (sight : Sight) (tree i : ℕ) (whole : Bool) → t ≤ i → middle_word trees t n sight tree i whole ≡ 0
unfolding middle_word
middle_past trees t n sight tree i whole l = let e : nat_lt i t ≡ false = le-ltb i t l in rw e refl

pub leaf_there : (pages n : ℕ) (sight : Sight) (ps : ℕ → Protection) (p : ℕ) → p < pages → leaf_word pages n sight ps p ≡ leaf sight p (ps p) (n + p)
unfolding leaf_word
leaf_there pages n sight ps p l = let e : nat_lt p pages ≡ true = lt-ltb p pages l in rw e refl

pub leaf_past : (pages n : ℕ) (sight : Sight) (ps : ℕ → Protection) (p : ℕ) → pages ≤ p → leaf_word pages n sight ps p ≡ 0
unfolding leaf_word
leaf_past pages n sight ps p l = let e : nat_lt p pages ≡ false = le-ltb p pages l in rw e refl
