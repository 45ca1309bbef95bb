-- Turns of one hart in a row, each of which carries out an instruction: what they ask for. This project's own.
use Rattle.std.specs.Prelude.{◌≡◌, ℕ, ◌%◌, List, None}
use Rattle.spec_processor.specs.Bytes.{instruction_size}
use Rattle.spec_processor.specs.Regions.{Region}
use Rattle.spec_processor.specs.GStage.{WalksApart}
use Rattle.spec_processor.specs.Roots.{IsSv39x4}
use Rattle.hart.specs.Conditions.{KeepsMode}
use Rattle.spec_hardware.specs.Machine.{HwHart}
use Rattle.hw_platform.specs.Attempts.{hart_in}

-- no hart has a reservation
abbrev pub AreFree : List HwHart → Type 0
AreFree harts = (h : ℕ) → (hart_in harts h).core.reservation ≡ None

-- a hart stands at an instruction, and its walks lead to RAM
pub record WalksUnderRoot (region : Region) (hw : HwHart) : Type 0 where
  pub aligned : hw.core.pc % instruction_size ≡ 0
  pub keeps : KeepsMode hw.core.hregs
  pub stage : IsSv39x4 hw.core.hregs.hgatp
  pub apart : WalksApart region hw.core.hregs.hgatp
