-- What a load's fields stand for, and what is true of them.
use Rattle.std.specs.Prelude.{◌≡◌, ◌<◌, ◌≤◌}
use Rattle.sv_types.specs.Limits.{max_modules, max_module_pages}
use Rattle.module_gate.specs.Gates.{Progress, pages_at}
use Rattle.module_gate.specs.declared.load.Load.TheInside.{Inside}

abbrev pub progress_of : Inside → Progress
progress_of l = record { about = l.about; pages = l.pages; left = l.left; right = l.right }

-- the module's pages are the ones that are held, no more than a module may have, and no more are left to count
pub record IsSoundLoad (l : Inside) : Type 0 where
  pub hold : l.hold ≡ pages_at l.about.gpa l.pages
  pub few : l.pages ≤ max_module_pages
  pub left : l.left ≤ l.pages
  pub id : l.about.id < max_modules
