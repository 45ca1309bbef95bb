-- What an exit of a hart may be answered. This project's own.
use Rattle.std.specs.Prelude.{◌≡◌, ◌<◌, true}
use Rattle.spec_processor.specs.IntegerRegisters.{register_count}
use Rattle.spec_processor.specs.declared.mode.Mode.{Mode}
use Rattle.spec_processor.specs.declared.mode.Mode.TheVariants.{Kernel}
use Rattle.spec_hardware.specs.declared.exits.ExitAnswer.{ExitAnswer}
use Rattle.spec_hardware.specs.declared.exits.ExitAnswer.TheVariants.{Returns, LoadsDevice}

-- only the kernel returns, and a load names a register
abbrev pub IsPossible : Mode → ExitAnswer → Type 0
IsPossible mode Returns = mode ≡ Kernel
IsPossible mode (LoadsDevice load) = load.rd < register_count
IsPossible mode _ = true ≡ true
