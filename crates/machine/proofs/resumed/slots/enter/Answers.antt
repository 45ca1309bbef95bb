use Rattle.std.proofs.Common.{◌∙◌, refl, sym}
use Rattle.machine.proofs.Seated.{came_in, first_at, not_forbidden, rules_with}
use Rattle.machine.proofs.resumed.slots.enter.Goals as goal

pub unreachable-requires-in_default-enter : goal.unreachable-requires-in_default-enter
unreachable-requires-in_default-enter c =
    let e = c.args.entries.now in
    let is = first_at e c.args.place c.in-Some.target c.requires (sym c.in-Some.is ∙ c.address.ensures) in
    not_forbidden e c.leave.new.self c.args.place c.in-Some.target c.leave.ensures is (c.in_default-enter.ensures.forbidden (rules_with e) refl)

pub returns : goal.returns
returns c =
    let e = c.args.entries.now in
    let is = first_at e c.args.place c.in-Some.target c.requires (sym c.in-Some.is ∙ c.address.ensures) in
    came_in e c.leave.new.self c.enter.new.self c.args.place c.in-Some.target c.leave.ensures is (c.in-Ok.ensures.entered (rules_with e) refl refl)
