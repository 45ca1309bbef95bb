-- The numbers of a policy's faults in the line that refuses it. This project's own.
use Rattle.std.specs.Prelude.{ℕ}
use Rattle.policy_limits.specs.declared.policy_fault.PolicyFault.{PolicyFault}
use Rattle.policy_limits.specs.declared.policy_fault.PolicyFault.TheVariants.{NotToml, MissingKey, UnknownKey, WrongKind, BadHexadecimal}
use Rattle.policy_limits.specs.declared.policy_fault.PolicyFault.TheVariants.{BeyondLimit, RepeatedName, OtherFormat, NotAscending}
use Rattle.policy_limits.specs.declared.policy_fault.PolicyFault.TheVariants.{RepeatedEntry}

abbrev pub policy_fault_number : PolicyFault → ℕ
policy_fault_number NotToml = 1
policy_fault_number MissingKey = 2
policy_fault_number UnknownKey = 3
policy_fault_number WrongKind = 4
policy_fault_number BadHexadecimal = 5
policy_fault_number BeyondLimit = 6
policy_fault_number RepeatedName = 7
policy_fault_number OtherFormat = 8
policy_fault_number NotAscending = 9
policy_fault_number RepeatedEntry = 10
