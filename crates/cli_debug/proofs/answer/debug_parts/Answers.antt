use Rattle.std.proofs.Common.{rules, ◌≡◌, Err}
use Rattle.host_io.specs.declared.trouble.Trouble.TheVariants.{Memory}
use Rattle.cli_debug.proofs.AnswerLemmas.{wanted_before}
use Rattle.cli_debug.proofs.answer.debug_parts.Goals as goal

pub returns-in_err-beginning : goal.returns-in_err-beginning
returns-in_err-beginning g c = λ given reads.
    let memory : c.from_residual.result ≡ Err Memory = search rules in
    wanted_before _ _ _ _ memory
