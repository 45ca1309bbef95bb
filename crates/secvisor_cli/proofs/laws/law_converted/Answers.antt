use Rattle.secvisor_cli.proofs.ConvertDone.{converted_done}
use Rattle.secvisor_cli.proofs.laws.law_converted.Goals as goal

pub returns : goal.returns
returns c = converted_done
