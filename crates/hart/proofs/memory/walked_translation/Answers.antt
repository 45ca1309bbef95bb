use Rattle.std.proofs.Common.{◌∙◌, sym, arith}
use Rattle.spec_processor.specs.GStage.{WalksApart}
use Rattle.sv39_walk.specs.Regimes.{settings_of}
use Rattle.hart.proofs.Places.{stages_place, stages_after}
use Rattle.hart.proofs.memory.walked_translation.Goals as goal
use Rattle.laws_processor.proofs.Walks.{apart_inside}

pub returns-in-Ok-clause-place : goal.returns-in-Ok-clause-place
returns-in-Ok-clause-place c =
    let apart : WalksApart c.args.mem.now c.regime.result.hgatp = rw c.regime.ensures.hgatp c.requires.ready.apart in
    λ width is_width aligned. stages_place c.args.mem.now c.regime.result.hgatp c.args.request.address width (settings_of c.regime.result) c.regime.result.mode
    c.args.request.access c.in-Ok.place c.table_bytes-table_bytes.ensures.region (apart_inside c.args.mem.now c.regime.result.hgatp apart) (omega arith)
    (sym c.translate_through.ensures.value ∙ c.in-Ok.is) is_width aligned

pub returns-in-Ok-clause-ram : goal.returns-in-Ok-clause-ram
returns-in-Ok-clause-ram c =
    let apart : WalksApart c.args.mem.now c.regime.result.hgatp = rw c.regime.ensures.hgatp c.requires.ready.apart in
    stages_after c.args.mem.now c.regime.result.hgatp c.args.request.address (settings_of c.regime.result) c.regime.result.mode
    c.args.request.access c.in-Ok.place apart (sym c.translate_through.ensures.value ∙ c.in-Ok.is)
