-- Which harts are started, and which one an answer may start. This project's own.
use Rattle.std.specs.Prelude.{ℕ, ◌<◌, Bool, List, map, ⊤}
use Rattle.spec_reference.specs.declared.answers.SideEffect.{SideEffect}
use Rattle.spec_reference.specs.declared.answers.SideEffect.TheVariants.{StartsHart}
use Rattle.spec_hardware.specs.Machine.{HwHart}
use Rattle.monitor_exits.specs.HwOfSlots.{hw_harts_of}
use Rattle.monitor_exits.specs.declared.slots.HartSlot.{HartSlot}

abbrev pub started_of : List HartSlot → List Bool
started_of slots = map (λ (hw : HwHart). hw.started) (hw_harts_of slots)

-- a hart that is started is one of n
abbrev pub StartsOneOf : ℕ → SideEffect → Type 0
StartsOneOf n (StartsHart other pc opaque) = other < n
StartsOneOf n _ = ⊤
