use Rattle.std.proofs.Common.{◌∙◌, sym, arith}
use Rattle.spec_processor.specs.GStage.{WalksApart}
use Rattle.hart.specs.Cores.{core_of}
use Rattle.hw_fast_path.proofs.Reaching.{some_where, leads_translated, leads_place, leads_after}
use Rattle.hw_fast_path.proofs.memory.walk_to.Goals as goal

pub returns-clause-value : goal.returns-clause-value
returns-clause-value c = λ htinst.
    some_where c.walk.result
    (λ hpa is. leads_translated c.args.mem.now (core_of c.args.core.now c.args.regs.now) c.regime_for.result c.args.access c.args.address hpa htinst
    c.regime_for.ensures.alike (sym c.walk.ensures.value ∙ is))

pub returns-clause-place : goal.returns-clause-place
returns-clause-place c =
    let apart : WalksApart c.args.mem.now c.regime_for.result.hgatp = rw c.regime_for.ensures.hgatp c.requires.may.walk.apart in
    λ width is_width aligned. some_where c.walk.result
    (λ hpa is. leads_place c.args.mem.now c.regime_for.result c.args.access c.args.address hpa width c.table_bytes-table_bytes.ensures.region apart
    (omega arith) (sym c.walk.ensures.value ∙ is) is_width aligned)

pub returns-clause-ram : goal.returns-clause-ram
returns-clause-ram c =
    let apart : WalksApart c.args.mem.now c.regime_for.result.hgatp = rw c.regime_for.ensures.hgatp c.requires.may.walk.apart in
    some_where c.walk.result
    (λ hpa is. leads_after c.args.mem.now c.regime_for.result c.args.access c.args.address hpa apart (sym c.walk.ensures.value ∙ is))
