use Rattle.std.proofs.Common.{refl, rules}
use Rattle.hart.specs.Cores.{core_of}
use Rattle.hart.proofs.Places.{walk_places, bare_place, some_further}
use Rattle.hart.proofs.memory.held_place.Goals as goal
use Rattle.laws_processor.proofs.Walks.{apart_inside}

pub returns-then-core-eq-BARE-clause-value : goal.returns-then-core-eq-BARE-clause-value
returns-then-core-eq-BARE-clause-value c =
    some_further c.held_place.result
    (λ hpa walked. bare_place c.args.mem.now (core_of c.args.core.now c.args.regs.now) c.args.request.address hpa c.args.request.htinst c.args.request.access (search rules) walked)
    c.held_place.ensures.walk

pub returns-then-core-eq-BARE-clause-place : goal.returns-then-core-eq-BARE-clause-place
returns-then-core-eq-BARE-clause-place c =
    some_further c.held_place.result
    (λ hpa walked width is_width aligned. walk_places c.args.mem.now c.args.regs.now.hgatp c.args.request.address c.args.request.address hpa width c.args.request.access
    c.table_bytes-table_bytes.ensures.region (apart_inside c.args.mem.now c.args.regs.now.hgatp c.requires.apart) is_width aligned refl walked)
    c.held_place.ensures.walk
