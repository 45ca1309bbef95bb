use Rattle.secvisor_cli.proofs.converting.converted_line.Goals as goal

pub returns : goal.returns
returns c = c.format.ensures.ok
