-- What a translation may go by in place of all that a core has. This project's own.
use Rattle.std.specs.Prelude.{◌≡◌, ℕ}
use Rattle.spec_processor.specs.Hardware.{Core}
use Rattle.spec_processor.specs.HardwareMemory.{settings_at}
use Rattle.spec_processor.specs.Regions.{Region}
use Rattle.spec_processor.specs.GStage.{two_stages}
use Rattle.spec_processor.specs.declared.access.Access.{Access}
use Rattle.sv39_walk.specs.Regimes.{settings_of}
use Rattle.sv39_walk.specs.declared.first_stage.Regime.{Regime}

-- such accesses are led, or refused, under the regime as under the core's registers
abbrev pub LeadsAlike : Core → Access → Regime → Type 0
LeadsAlike core access regime = (r : Region) (va : ℕ)
    → two_stages r regime.hgatp (settings_of regime) regime.mode va access ≡ two_stages r core.hregs.hgatp (settings_at core) core.hregs.mode va access
