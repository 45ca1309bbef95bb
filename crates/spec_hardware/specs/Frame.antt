-- What no answer of SecVisor's changes. This project's own.
use Rattle.std.specs.Prelude.{◌≡◌, ℕ, ◌⊎◌, false, List, ◌++◌, length, ◌==◌, Option, Some, slice_get}
use Rattle.spec_hardware.specs.HardwareEvent.{Answers, hart_answered, software_set}
use Rattle.spec_hardware.specs.Machine.{Machine, HwHart}

-- another hart stays, or its software interrupt was set, or it was stopped
abbrev pub OtherStays : (hw : HwHart) → (found : Option HwHart) → Type 0
OtherStays hw found = (found ≡ Some hw) ⊎ ((found ≡ Some (software_set hw)) ⊎ (hw.started ≡ false))

-- the registers that an exit writes, and scounteren, are those that the hart had
pub record KeepsOwn (hw : HwHart) (found : Option HwHart) : Type 0 where
  pub next : HwHart
  pub there : found ≡ Some next
  pub same : next ≡ hart_answered next hw

-- so stays the hart itself, or it was stopped
abbrev pub OwnStays : (hw : HwHart) → (found : Option HwHart) → Type 0
OwnStays hw found = KeepsOwn hw found ⊎ (hw.started ≡ false)

pub record LeavesRest (before after : Machine) (h : ℕ) : Type 0 where
  pub ram : after.region.ram ≡ before.region.ram
  pub table_size : length after.region.tables ≡ length before.region.tables
  pub rules : after.rules ≡ before.rules
  pub time : after.devices.clock.time ≡ before.devices.clock.time
  -- bytes are printed after those that were
  pub more : List ℕ
  pub printed : after.journal.printed ≡ before.journal.printed ++ more
  pub cleared : after.cleared ≡ before.cleared
  pub attempts : after.attempts ≡ before.attempts
  pub others : (k : ℕ) (hw : HwHart) → (k == h) ≡ false → slice_get before.harts k ≡ Some hw → OtherStays hw (slice_get after.harts k)
  pub own : (hw : HwHart) → slice_get before.harts h ≡ Some hw → OwnStays hw (slice_get after.harts h)

abbrev pub FrameLaw : Type 0
FrameLaw = (before after : Machine) (h : ℕ) → Answers before h after → LeavesRest before after h
