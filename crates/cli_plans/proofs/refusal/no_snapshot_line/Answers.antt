use Rattle.std.proofs.Common.{refl}
use Rattle.std.specs.Fmt.{digits}
use Rattle.cli_plans.specs.Refusals.{refusal_line}
use Rattle.cli_plans.proofs.refusal.no_snapshot_line.Goals as goal

pub returns-in-TooLong : goal.returns-in-TooLong
unfolding refusal_line digits
returns-in-TooLong c = rw c.in-TooLong.is refl

pub returns-in-OtherLength : goal.returns-in-OtherLength
unfolding refusal_line digits
returns-in-OtherLength c = rw c.in-OtherLength.is refl

pub returns-in-OtherBeginning : goal.returns-in-OtherBeginning
unfolding refusal_line digits
returns-in-OtherBeginning c = rw c.in-OtherBeginning.is refl

pub returns-in-OutOfRange : goal.returns-in-OutOfRange
unfolding refusal_line digits
returns-in-OutOfRange c = rw c.in-OutOfRange.is refl
