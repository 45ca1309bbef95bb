-- The numbers of refusals. This project's own.
use Rattle.std.specs.Prelude.{ℕ}
use Rattle.snapshot_format.specs.declared.refusal.SnapRefusal.TheVariants.{TooLong, OtherLength, OtherBeginning, OutOfRange}
use Rattle.snapshot_format.specs.declared.refusal.SnapRefusal.{SnapRefusal}

abbrev pub refusal_number : SnapRefusal → ℕ
refusal_number TooLong = 0
refusal_number OtherLength = 1
refusal_number OtherBeginning = 2
refusal_number OutOfRange = 3
