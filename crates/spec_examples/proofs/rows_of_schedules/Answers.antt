use Rattle.spec_examples.proofs.ScheduleRowsHold.{schedule_rows}
use Rattle.spec_examples.proofs.rows_of_schedules.Goals as goal

pub returns : goal.returns
returns c = schedule_rows
