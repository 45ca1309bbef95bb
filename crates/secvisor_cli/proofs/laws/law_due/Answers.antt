use Rattle.secvisor_cli.proofs.DueLemmas.{comes_to_due}
use Rattle.secvisor_cli.proofs.laws.law_due.Goals as goal

pub returns : goal.returns
returns c = record { due = comes_to_due }
