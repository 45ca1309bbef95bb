use Rattle.std.proofs.Common.{ℕ, List, ◌∙◌, refl, subst}
use Rattle.host_io.specs.Outside.{BreaksOff}
use Rattle.cli_plans.proofs.refusal.write_file_line.Goals as goal

pub returns-in_err-write_all-in-Some-clause-failed : goal.returns-in_err-write_all-in-Some-clause-failed
returns-in_err-write_all-in-Some-clause-failed g c = λ is.
    subst (λ (bytes : List ℕ). BreaksOff (g.O.Sink.state c.args.out.now) (g.O.Sink.state c.write_all.new.out) bytes) (c.as_bytes.ensures.value ∙ c.in-Some.ensures.line c.in-Some.line refl)
    c.in_err-write_all-in-Some.ensures.failed
