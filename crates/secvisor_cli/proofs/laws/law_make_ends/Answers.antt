use Rattle.secvisor_cli.proofs.DueLemmas.{make_ends}
use Rattle.secvisor_cli.proofs.laws.law_make_ends.Goals as goal

pub returns : goal.returns
returns c = make_ends
