use Rattle.gstage_tables.proofs.Trees.set.Given as goal

abbrev pub ghosts-set_on : goal.ghosts-set_on
ghosts-set_on a = record { name = a.blank.name; parts = a.blank.parts }
