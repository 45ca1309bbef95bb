use Rattle.std.proofs.Common.{ℕ, List, ◌∙◌, sym, ap}
use Rattle.debug_session.specs.Places.{place_name}
use Rattle.cli_debug.proofs.target.debugged.DebuggedMachineTarget.place_name.Goals as goal

pub returns : goal.returns
returns g c = λ run at. c.in_ok-name.ensures ∙ ap (λ (kernel : List ℕ). place_name kernel c.args.place) (sym at.kernel_is)
