-- What stands outside where `convert` is done.
use Rattle.std.specs.Prelude.{◌≡◌, true, ℕ, List, length, IsTrue, Some, Ok}
use Rattle.cli_plans.specs.Commands.{ConvertSplit}
use Rattle.std.specs.List.{list_all}
use Rattle.sv_types.specs.Kernel.{kernel_segments}
use Rattle.sv_types.specs.Policies.{Rules}
use Rattle.policy.specs.Text.{rules_of_text}
use Rattle.policy_making.specs.Binding.{bound_rules}
use Rattle.policy_making.specs.InText.{is_in_text}
use Rattle.host_io.specs.Outside.{FilesState, after_taking}
use Rattle.secvisor_cli.specs.Answers.{Outside}
use Rattle.cli_plans.specs.Plans.{converted_line, policy_saving}
use Rattle.cli_plans.specs.Reading.{Saved}

-- a name holds these bytes, where the files tell it
abbrev pub Holds : FilesState → (name bytes : List ℕ) → Type 0
Holds files name bytes = IsTrue files.tells → files.held name ≡ Some bytes

-- a policy whose entries are bound to their places in a kernel, each to an address in its text; both are what the names hold
pub record IsBoundOf (words : ConvertSplit) (files : FilesState) (rules : Rules) : Type 0 where
  -- what the policy was read from, and what it says
  pub text : List ℕ
  pub given : Rules
  -- the kernel's file
  pub file : List ℕ
  pub policy : Holds files words.given text
  pub kernel : Holds files words.kernel file
  pub read : rules_of_text text ≡ Ok given
  pub bound : bound_rules given (kernel_segments file) ≡ Ok rules
  pub within : list_all (is_in_text (kernel_segments file)) rules.bound ≡ true

-- the line of the entries was written, and a text was saved that reads as that policy
pub record IsConverted (words : ConvertSplit) (old new : Outside) : Type 0 where
  pub rules : Rules
  -- the files once they were read
  pub read : FilesState
  pub is : IsBoundOf words old.files rules
  pub saved : Saved (policy_saving words.out rules) read new.files
  pub line : new.sink ≡ after_taking old.sink (converted_line (length rules.entries))
