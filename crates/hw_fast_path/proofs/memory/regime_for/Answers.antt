use Rattle.std.proofs.Common.{subst, sym, false}
use Rattle.hart.specs.Cores.{core_of}
use Rattle.spec_processor.specs.declared.access.Access.{Access}
use Rattle.hw_fast_path.specs.Reaching.{LeadsAlike}
use Rattle.hw_fast_path.proofs.Reaching.{fetch_alike}
use Rattle.hw_fast_path.proofs.memory.regime_for.Goals as goal

pub returns-in-Fetch-clause-alike : goal.returns-in-Fetch-clause-alike
returns-in-Fetch-clause-alike c =
    let whole = c.regime-whole.result in
    subst (λ (access : Access). LeadsAlike (core_of c.args.core.now c.args.regs.now) access (record whole { sum = false; mxr = false })) (sym c.in-Fetch.is)
    (fetch_alike (core_of c.args.core.now c.args.regs.now) whole c.regime-whole.ensures.hgatp c.regime-whole.ensures.mode c.regime-whole.ensures.settings)
