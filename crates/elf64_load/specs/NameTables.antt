-- Tables of numbers by names: the addresses that symbols define, the bases of exported names.
use Rattle.std.specs.Prelude.{ℕ, List, Option}
use Rattle.std.specs.BTreeMap.{BTreeMap, get_by}
use Rattle.std.specs.Borrow.{Bor}
use Rattle.std.specs.Cmp.Lexicographic.{slice_cmp}
use Rattle.std.specs.Ordering.{nat_cmp}

-- what the table has at a name
abbrev pub number_by_name : BTreeMap (Bor (List ℕ)) ℕ → List ℕ → Option ℕ
number_by_name numbers name = get_by (λ k. slice_cmp nat_cmp name k.now) numbers
