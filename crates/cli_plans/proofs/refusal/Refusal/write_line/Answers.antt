use Rattle.std.proofs.Common.{sym, subst}
use Rattle.host_io.specs.Outside.{BreaksOff}
use Rattle.cli_plans.specs.declared.refusal.Refusal.{Refusal}
use Rattle.cli_plans.specs.Refusals.{refusal_line}
use Rattle.cli_plans.proofs.refusal.Refusal.write_line.Goals as goal

pub returns-in-File-clause-failed : goal.returns-in-File-clause-failed
returns-in-File-clause-failed g c = λ is.
    subst (λ (r : Refusal). BreaksOff (g.O.Sink.state c.args.out.now) (g.O.Sink.state c.write_file_line.new.out) (refusal_line r)) (sym c.in-File.is)
    (c.write_file_line.ensures.failed is)
