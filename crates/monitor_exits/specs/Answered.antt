-- A machine, whatever its other parts are, with one hart and the journal put in. This project's own.
use Rattle.std.specs.Prelude.{ℕ, slice_set}
use Rattle.spec_reference.specs.States.{Journal}
use Rattle.spec_hardware.specs.Machine.{Machine, HwHart}

abbrev pub with_hart : Machine → ℕ → HwHart → Journal → Machine
with_hart m h hw journal = record m { harts = slice_set m.harts h hw; journal = journal }
