-- Where a run begins that is debugged from files. This project's own.
use Rattle.std.specs.Prelude.{◌≡◌, ℕ, List}
use Rattle.sv_types.specs.Policies.{Rules, rules_of}
use Rattle.sv_types.specs.Schedule.{Schedule}
use Rattle.spec_reference.specs.Start.{boot_start}
use Rattle.spec_reference.specs.States.{State}
use Rattle.cli_trials.specs.Orders.{order_schedule}
use Rattle.cli_trials.specs.declared.parts.Parts.{Parts}
use Rattle.cli_debug.specs.declared.beginning.FilesBeginning.{FilesBeginning}

-- the kernel's file
abbrev pub kernel_of : FilesBeginning → List ℕ
kernel_of b = b.parts.image.items

-- the boot from the files under the policy's rules, and the events of their order
abbrev pub start_of : FilesBeginning → State
start_of b = boot_start (rules_of b.policy) b.parts.image.items b.parts.disk.items

abbrev pub schedule_of : FilesBeginning → Schedule
schedule_of b = order_schedule (rules_of b.policy).harts b.parts.order

-- it is the boot from these files
pub record BeginsAs (b : FilesBeginning) (rules : Rules) (parts : Parts) : Type 0 where
  pub kernel_is : kernel_of b ≡ parts.image.items
  pub start_is : start_of b ≡ boot_start rules parts.image.items parts.disk.items
  pub schedule_is : schedule_of b ≡ order_schedule rules.harts parts.order
