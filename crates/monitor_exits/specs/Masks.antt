-- Whether the harts exist that a mask and a base name, bit by bit. This project's own.
use Rattle.std.specs.Prelude.{ℕ, ◌+◌, Bool, not, ◌||◌, nat_lt}
use Rattle.std.specs.List.{list_all}
use Rattle.spec_processor.specs.Bits.{bit}
use Rattle.sv_types.specs.ApprovedPages.{numbers_from}

abbrev pub exists_one : (harts mask base i : ℕ) → Bool
exists_one harts mask base i = not (bit mask i) || nat_lt (base + i) harts

-- of `count` bits from one on
unfoldable pub all_exist : (harts mask base first count : ℕ) → Bool
all_exist harts mask base first count = list_all (exists_one harts mask base) (numbers_from first count)
