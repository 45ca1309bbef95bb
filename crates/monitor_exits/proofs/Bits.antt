-- The harts that a mask names, bit by bit.
use Rattle.std.proofs.Common.{◌≡◌, ℕ, suc, ◌+◌, ◌-◌, ◌<◌, ◌≤◌, true, false, ◌&&◌, refl, ap, arith, ◌∙◌}
use Rattle.std.specs.Prelude.{◌==◌, ◌||◌}
use Rattle.spec_reference.specs.Calls.{mask_exists, all_harts}
use Rattle.monitor_exits.specs.Masks.{exists_one, all_exist}

first_of : (harts mask base i k : ℕ) → all_exist harts mask base i (suc k) ≡ (exists_one harts mask base i && all_exist harts mask base (i + 1) k)
unfolding all_exist
first_of harts mask base i k = refl

-- the bit at i, and those after it
pub at_bit : (harts mask base i : ℕ) → i < 64
    → all_exist harts mask base i (64 - i) ≡ (exists_one harts mask base i && all_exist harts mask base (i + 1) (64 - (i + 1)))
at_bit harts mask base i below =
    let left : 64 - i ≡ suc (64 - (i + 1)) = omega arith in
    rw left (first_of harts mask base i (64 - (i + 1)))

pub next_exists : (harts mask base i : ℕ) → i < 64 → exists_one harts mask base i ≡ true
    → all_exist harts mask base i (64 - i) ≡ all_exist harts mask base (i + 1) (64 - (i + 1))
next_exists harts mask base i below here = at_bit harts mask base i below ∙ ap (λ b. b && all_exist harts mask base (i + 1) (64 - (i + 1))) here

pub none_exists : (harts mask base i : ℕ) → i < 64 → exists_one harts mask base i ≡ false → all_exist harts mask base i (64 - i) ≡ false
none_exists harts mask base i below here = at_bit harts mask base i below ∙ ap (λ b. b && all_exist harts mask base (i + 1) (64 - (i + 1))) here

pub none_left : (harts mask base i : ℕ) → 64 ≤ i → all_exist harts mask base i (64 - i) ≡ true
unfolding all_exist
none_left harts mask base i past = let left : 64 - i ≡ 0 = omega arith in rw left refl

pub by_bits : (harts mask base : ℕ) → mask_exists harts mask base ≡ (base == all_harts || all_exist harts mask base 0 64)
unfolding mask_exists all_exist
by_bits harts mask base = refl
