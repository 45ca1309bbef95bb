use Rattle.std.proofs.Common.{◌≡◌, ℕ, ◌∙◌, sym, ap, bit_and}
use Rattle.spec_processor.specs.HypervisorRegisters.{HypervisorRegisters}
use Rattle.csr_file.proofs.Quiet.{none_pending}
use Rattle.csr_file.proofs.interrupt.pending.Goals as goal

pub returns-then-hip-csrs-eq0 : goal.returns-then-hip-csrs-eq0
returns-then-hip-csrs-eq0 c =
    let enabled : c.csrs.inside.hie ≡ c.args.csrs.now.hie = ap (λ (r : HypervisorRegisters). r.hie) c.csrs.view_is in
    sym (none_pending c.args.regs.now c.args.csrs.now c.args.lines.now
    (ap (λ (h : ℕ). bit_and h c.args.csrs.now.hie) (sym c.hip.ensures) ∙ ap (λ (e : ℕ). bit_and c.hip.result e) (sym enabled) ∙ c.if-hip-csrs-eq0.true))
