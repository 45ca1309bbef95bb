use Rattle.std.proofs.Common.{◌≡◌}
use Rattle.spec_processor.specs.Translation.{walk, permits_access}
use Rattle.spec_processor.specs.GStage.{entry_through}
use Rattle.sv39_walk.specs.Levels.{indices_of, IsTable}
use Rattle.sv39_walk.specs.Regimes.{settings_of}
use Rattle.sv39_walk.specs.Passing.{Passed}
use Rattle.sv39_walk.proofs.first_stage.walk_levels.Given as goal

-- the walk goes on from the table as it would from the root
abbrev pub invariant-levels : goal.invariant-levels
invariant-levels g l = record {
  table : IsTable l.table;
  same : walk (entry_through l.mem l.regime.hgatp) (permits_access (settings_of l.regime) l.regime.mode l.access) (indices_of 3 l.va) l.root l.va
      ≡ walk (entry_through l.mem l.regime.hgatp) (permits_access (settings_of l.regime) l.regime.mode l.access) (indices_of l.below l.va) l.table l.va;
  passed : Passed g.S.GStage.serves g.S.GStage.walked l.mem l.regime.hgatp l.initial.second l.second;
}
