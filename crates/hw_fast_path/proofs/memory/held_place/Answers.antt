use Rattle.std.proofs.Common.{refl, rules, arith}
use Rattle.spec_processor.specs.GStage.{WalksApart}
use Rattle.hart.specs.Cores.{core_of}
use Rattle.hart.proofs.Places.{walk_places, bare_place, some_further}
use Rattle.hw_fast_path.proofs.Reaching.{leads_translated, leads_place, leads_after}
use Rattle.hw_fast_path.proofs.memory.held_place.Goals as goal
use Rattle.laws_processor.proofs.Walks.{apart_inside}

pub returns-then-core-eq-BARE-clause-value : goal.returns-then-core-eq-BARE-clause-value
returns-then-core-eq-BARE-clause-value c =
    some_further c.held_place.result
    (λ hpa walked htinst. bare_place c.args.mem.now (core_of c.args.core.now c.args.regs.now) c.args.reference.address hpa htinst c.args.reference.access (search rules) walked)
    c.held_place.ensures.walk

pub returns-then-core-eq-BARE-clause-place : goal.returns-then-core-eq-BARE-clause-place
returns-then-core-eq-BARE-clause-place c =
    some_further c.held_place.result
    (λ hpa walked width is_width aligned. walk_places c.args.mem.now c.args.regs.now.hgatp c.args.reference.address c.args.reference.address hpa width c.args.reference.access
    c.table_bytes-table_bytes.ensures.region (apart_inside c.args.mem.now c.args.regs.now.hgatp c.requires.apart) is_width aligned refl walked)
    c.held_place.ensures.walk

pub returns-else-core-eq-BARE-clause-value : goal.returns-else-core-eq-BARE-clause-value
returns-else-core-eq-BARE-clause-value c =
    some_further c.held_place-else-core-eq-BARE.result
    (λ hpa leads htinst. leads_translated c.args.mem.now (core_of c.args.core.now c.args.regs.now) c.regime_for.result c.args.reference.access c.args.reference.address hpa htinst
    c.regime_for.ensures.alike leads)
    c.held_place-else-core-eq-BARE.ensures.leads

pub returns-else-core-eq-BARE-clause-place : goal.returns-else-core-eq-BARE-clause-place
returns-else-core-eq-BARE-clause-place c =
    let apart : WalksApart c.args.mem.now c.regime_for.result.hgatp = rw c.regime_for.ensures.hgatp c.requires.apart in
    some_further c.held_place-else-core-eq-BARE.result
    (λ hpa leads width is_width aligned. leads_place c.args.mem.now c.regime_for.result c.args.reference.access c.args.reference.address hpa width
    c.table_bytes-table_bytes.ensures.region apart (omega arith) leads is_width aligned)
    c.held_place-else-core-eq-BARE.ensures.leads

pub returns-else-core-eq-BARE-clause-ram : goal.returns-else-core-eq-BARE-clause-ram
returns-else-core-eq-BARE-clause-ram c =
    let apart : WalksApart c.args.mem.now c.regime_for.result.hgatp = rw c.regime_for.ensures.hgatp c.requires.apart in
    some_further c.held_place-else-core-eq-BARE.result
    (λ hpa leads. leads_after c.args.mem.now c.regime_for.result c.args.reference.access c.args.reference.address hpa apart leads)
    c.held_place-else-core-eq-BARE.ensures.leads
