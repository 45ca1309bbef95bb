-- The files that runs begin from, as `run` reads them. This project's own.
use Rattle.std.specs.Prelude.{◌≡◌, ◌%◌, ℕ, List, length, IsTrue, Some, Result, Ok, Err}
use Rattle.sv_types.specs.Policies.{Rules}
use Rattle.sv_types.specs.Schedule.{Schedule, first_events}
use Rattle.spec_reference.specs.BlockDisk.{sector_size}
use Rattle.policy.specs.Text.{rules_of_text}
use Rattle.host_io.specs.Outside.{FilesState}
use Rattle.cli_plans.specs.CommandLine.{RunWords}
use Rattle.cli_plans.specs.Plans.{Due, RunFrom, kernel_part, boot_plan, run_plan, start_with}
use Rattle.cli_plans.specs.Reading.{Follows}
use Rattle.secvisor_cli.specs.Ready.{Prepares}
use Rattle.secvisor_cli.specs.declared.ready.Stop.{Stop}
use Rattle.cli_trials.specs.declared.parts.Parts.{Parts}
use Rattle.cli_trials.specs.declared.parts.AfterImage.{AfterImage}
use Rattle.cli_trials.specs.Orders.{IsAccepted, order_schedule}

-- what is due of a run from these files
abbrev pub run_due : RunWords → Rules → (file disk : List ℕ) → Schedule → Due
run_due words rules file disk schedule = RunFrom (start_with words.kind rules file disk) (first_events words.events schedule) words.save

-- from a policy that is accepted and an image, a run begins with this disk and this order; or it is refused, or memory ran out
abbrev pub BootsFrom : RunWords → Rules → (file : List ℕ) → FilesState → FilesState → Result AfterImage Stop → Type 0
BootsFrom words rules file old new (Ok rest) =
    Follows (kernel_part rules file (boot_plan words rules file)) old new
    (Some (run_due words rules file rest.disk.items (order_schedule rules.harts rest.order)))
BootsFrom words rules file old new (Err stop) = Prepares (kernel_part rules file (boot_plan words rules file)) old new (Err stop)

-- the run begins from these files
pub record BeginsFrom (words : RunWords) (parts : Parts) (old new : FilesState) : Type 0 where
  pub rules : Rules
  pub reads : rules_of_text parts.policy.items ≡ Ok rules
  pub sectors : length parts.disk.items % sector_size ≡ 0
  pub accepted : IsAccepted parts.order
  -- the image is what its name holds, where the files tell what they hold
  pub held : IsTrue old.tells → old.held words.image ≡ Some parts.image.items
  pub follows : Follows (run_plan words) old new (Some (run_due words rules parts.image.items parts.disk.items (order_schedule rules.harts parts.order)))

abbrev pub PartsRead : RunWords → FilesState → FilesState → Result Parts Stop → Type 0
PartsRead words old new (Ok parts) = BeginsFrom words parts old new
PartsRead words old new (Err stop) = Prepares (run_plan words) old new (Err stop)
