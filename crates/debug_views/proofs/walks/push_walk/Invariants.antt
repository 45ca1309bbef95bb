use Rattle.std.proofs.Common.{◌≡◌, ◌<◌, ◌^◌, ◌++◌}
use Rattle.std.specs.Prelude.{string_bytes}
use Rattle.spec_processor.specs.Translation.{root_of, sv39_indices}
use Rattle.sv39_walk.specs.Levels.{indices_of}
use Rattle.debug_views.specs.Walks.{settings_of_hart, walk_lines}
use Rattle.debug_views.proofs.walks.push_walk.Given as goal

-- the lines so far, and those of the walk that goes on from the table
abbrev pub invariant-levels : goal.invariant-levels
invariant-levels l = record {
  table : l.table < 2 ^ 57;
  lines : string_bytes l.text ++ walk_lines l.ram (settings_of_hart l.hart) (indices_of l.below l.va) l.table
      ≡ string_bytes l.fn.text ++ walk_lines l.ram (settings_of_hart l.hart) (sv39_indices l.va) (root_of l.hart.satp);
}
