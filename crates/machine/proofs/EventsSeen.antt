-- A hart of a system makes an attempt.
use Rattle.std.proofs.Common.{◌≡◌, ℕ, ◌<◌, true, false, length, subst}
use Rattle.std.specs.Prelude.{slice_index_or}
use Rattle.spec_hardware.specs.HardwareEvent.{is_loading}
use Rattle.spec_hardware.specs.Machine.{Machine}
use Rattle.monitor_exits.specs.declared.slots.HartSlot.{HartSlot}
use Rattle.hw_platform.proofs.HwOfSlots.{started_there}
use Rattle.hw_platform.specs.Attempts.{hart_in}
use Rattle.secvisor_core.specs.Visors.{machine_of}
use Rattle.machine.specs.Turns.{Attempts}
use Rattle.machine.specs.declared.events.system.System.TheInside.{Inside}

module _ (s : Inside) (now : Machine) (is : machine_of s.visor s.hardware s.journal ≡ now) where
  pub attempts_there : (h : ℕ) (old : HartSlot) → old ≡ slice_index_or s.hardware.slots.items h old → h < length s.hardware.slots.items → old.hart.started ≡ true
      → is_loading now.loading h ≡ false → Attempts now h
  attempts_there h old same below started free = record {
    started = subst (λ (m : Machine). (hart_in m.harts h).started ≡ true) is (started_there s.hardware.slots.items h old true below same started);
    free = free;
  }
