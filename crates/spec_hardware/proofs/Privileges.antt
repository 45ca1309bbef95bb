-- The registers that a side runs under.
use Rattle.std.proofs.Common.{◌≡◌, ℕ, refl}
use Rattle.std.specs.Prelude.{Option}
use Rattle.spec_processor.specs.declared.mode.Mode.{Mode}
use Rattle.spec_processor.specs.declared.mode.Mode.TheVariants.{Kernel, User}
use Rattle.spec_hardware.specs.StandsFor.{hregs_in}

pub same_mode : (mode : Mode) (entry : Option ℕ) → (hregs_in mode entry).mode ≡ mode
same_mode Kernel entry = refl
same_mode User entry = refl
