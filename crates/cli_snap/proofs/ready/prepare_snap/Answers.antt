use Rattle.cli_snap.proofs.ready.prepare_snap.Goals as goal

pub returns-clause-boots : goal.returns-clause-boots
returns-clause-boots g c = c.prepare_measured.ensures.prepares
