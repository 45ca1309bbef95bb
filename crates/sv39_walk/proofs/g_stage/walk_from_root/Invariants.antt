use Rattle.sv39_walk.proofs.g_stage.walk_from_root.Given as goal

abbrev pub ghosts-walk_on : goal.ghosts-walk_on
ghosts-walk_on a = record { name = a.blank.name; parts = a.blank.parts }
