use Rattle.std.proofs.Common.{◌∙◌, sym}
use Rattle.hw_tlb.proofs.Stages.{bare_led}
use Rattle.hw_tlb.proofs.lines.Reach.walk.Goals as goal

pub returns-then-regime-eq-BARE-clause-value : goal.returns-then-regime-eq-BARE-clause-value
returns-then-regime-eq-BARE-clause-value c =
    c.lead.ensures.value ∙ sym (bare_led c.args.mem.now c.args.regime.now c.args.access c.args.va c.if-regime-eq-BARE.true)
