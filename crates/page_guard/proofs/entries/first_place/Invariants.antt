use Rattle.std.proofs.Common.{◌≡◌, true}
use Rattle.page_guard.proofs.Places.{is_not_among}
use Rattle.page_guard.proofs.entries.first_place.Given as goal

-- no place so far has the address
abbrev pub invariant-sought : goal.invariant-sought
invariant-sought l = is_not_among l.list l.target l.place ≡ true
