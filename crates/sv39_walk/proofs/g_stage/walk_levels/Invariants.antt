use Rattle.std.proofs.Common.{◌≡◌, ◌+◌, ◌≤◌}
use Rattle.spec_processor.specs.Translation.{walk}
use Rattle.spec_processor.specs.GStage.{entry_in_region, permits_guest}
use Rattle.spec_processor.specs.declared.access.Access.{Access}
use Rattle.sv39_walk.specs.Levels.{indices_of, IsTable}
use Rattle.sv39_walk.proofs.g_stage.walk_levels.Given as goal

-- the walk goes on from the table as it would from the root
abbrev pub invariant-levels : goal.invariant-levels
invariant-levels g l = record {
  table : IsTable l.table;
  same : (access : Access) → walk (entry_in_region l.mem) (permits_guest access) (indices_of 3 l.gpa) l.root l.gpa
      ≡ walk (entry_in_region l.mem) (permits_guest access) (indices_of l.below l.gpa) l.table l.gpa;
  steps : l.steps + l.below ≤ l.initial.steps + 3;
}
