use Rattle.std.proofs.Common.{rules, ◌<◌, ◌∙◌, length}
use Rattle.machine.proofs.Looking.{place_there}
use Rattle.machine.proofs.seen.fetch_place_among.Goals as goal

pub returns : goal.returns
returns c =
    let below : c.args.hart < length c.args.slots.now = search rules in
    c.place_in.ensures ∙ place_there c.args.slots.now c.args.hart c.index-slots-h.result below c.index-slots-h.is
