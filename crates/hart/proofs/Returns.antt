-- Where VTSR is set no mode carries out an SRET.
use Rattle.std.proofs.Common.{◌≡◌, ℕ, refl, true}
use Rattle.spec_processor.specs.declared.mode.Mode.{Mode}
use Rattle.spec_processor.specs.declared.mode.Mode.TheVariants.{Kernel, User}
use Rattle.spec_processor.specs.Hardware.{Core, raise}
use Rattle.spec_processor.specs.HardwareAttempt.{virtual_instruction, after_sret}

pub sret_raises : (core : Core) (w : ℕ) (mode : Mode) → core.hregs.vtsr ≡ true → after_sret core w mode ≡ raise core (virtual_instruction w)
unfolding after_sret
sret_raises core w Kernel vtsr = rw vtsr refl
sret_raises core w User vtsr = refl
