use Rattle.policy_making.specs.Making.{each_once}
use Rattle.policy_making.proofs.ExportNames.{export_names}
use Rattle.policy_making.proofs.NamesOnce.{once_sorted, some_once}
use Rattle.policy_making.proofs.laws.law_exports_of_names.Goals as goal

pub returns-clause-exported : goal.returns-clause-exported
returns-clause-exported c = λ kernel names exports is. export_names kernel (each_once names) exports is

pub returns-clause-rising : goal.returns-clause-rising
returns-clause-rising c = once_sorted

pub returns-clause-same : goal.returns-clause-same
returns-clause-same c = some_once
