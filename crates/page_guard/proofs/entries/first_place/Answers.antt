use Rattle.std.proofs.Common.{rules, ◌≡◌, ◌≤◌, arith, false, refl, get_or, length, sym}
use Rattle.std.specs.Prelude.{◌==◌}
use Rattle.page_guard.proofs.Places.{is_not_among, missed_more, found_there, none_there}
use Rattle.page_guard.proofs.entries.first_place.Goals as goal

pub sought-init : goal.sought-init
unfolding is_not_among
sought-init c = refl

pub returns-then-list-place : goal.returns-then-list-place
returns-then-list-place c =
    let read : get_or c.args.list.now c.sought.place 0 ≡ c.args.target = search rules in
    sym (found_there c.args.list.now c.args.bound.now c.args.target c.sought.place 0 (omega (arith, c.requires.along, c.sought-test.true)) c.sought-test.true c.sought.invariant read)

pub sought-preserved : goal.sought-preserved
sought-preserved c =
    let other : (get_or c.args.list.now c.sought.place 0 == c.args.target) ≡ false = search rules in
    missed_more c.args.list.now c.args.target c.sought.place 0 (omega (arith, c.requires.along, c.sought-test.true)) c.sought.invariant other

pub returns : goal.returns
returns c =
    let all : length c.args.bound.now ≤ c.sought.place = omega (arith, c.sought-test.false) in
    sym (none_there c.args.list.now c.args.bound.now c.args.target c.sought.place all c.sought.invariant)
