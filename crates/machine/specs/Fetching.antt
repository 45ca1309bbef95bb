-- Where a hart is about to fetch. This project's own.
use Rattle.std.specs.Prelude.{ℕ, if◌then◌else◌, Option, Some, None}
use Rattle.spec_reference.specs.States.{Hart}
use Rattle.spec_hardware.specs.Machine.{HwHart}

-- none where it is stopped
abbrev pub fetch_place : Hart → Option ℕ
fetch_place hart = if hart.started then Some hart.pc else None

-- the same of a hart as the hardware has it
abbrev pub hw_fetch_place : HwHart → Option ℕ
hw_fetch_place hw = if hw.started then Some hw.core.pc else None
