-- What follows a beat of the disk's device, and a write of an attacker's.
use Rattle.std.proofs.Common.{◌≡◌, ℕ, List, refl, Bool}
use Rattle.sv_types.specs.declared.event.Event.TheVariants.{Beat, Poke}
use Rattle.spec_reference.specs.Attacker.{poke_move}
use Rattle.spec_reference.specs.Counting.{count_beat}
use Rattle.spec_reference.specs.Disk.{disk_beat, is_writable}
use Rattle.spec_reference.specs.Move.{Move, Idle, FromRam, IntoRam, DeniedAt, OutsideRam}
use Rattle.dma_guard.specs.Transfers.{beat_of, after_move}
use Rattle.dma_guard.specs.declared.port.DmaStep.{DmaStep}
use Rattle.spec_hardware.specs.HwEvents.{after_hw_move, beat_served, event_served, poke_served, with_hw_disk}
use Rattle.spec_hardware.specs.Machine.{Machine, with_count_raised}
use Rattle.hw_platform.specs.Beats.{told_cleared}
use Rattle.machine.specs.Beats.{told_noted}

-- a move, and what follows it
told_after : (m : Machine) (x : Move) → told_noted (told_cleared (record m { region = after_move m.region x }) (beat_of x)) (beat_of x) ≡ after_hw_move m x
unfolding told_noted told_cleared after_hw_move
told_after m Idle = refl
told_after m (FromRam gpa) = refl
told_after m (IntoRam gpa bytes) = refl
told_after m (DeniedAt gpa) = refl
told_after m OutsideRam = refl

-- a beat, which was counted before, and what follows it
pub beat_follows : (m moved : Machine) (dma : List Bool) (told : DmaStep) → dma ≡ m.dma
    → told ≡ beat_of (disk_beat m.devices.disk m.region.ram (is_writable dma)).move
    → moved ≡ told_cleared (record (with_count_raised m count_beat) {
      region = after_move m.region (disk_beat m.devices.disk m.region.ram (is_writable dma)).move;
      devices = record m.devices { disk = (disk_beat m.devices.disk m.region.ram (is_writable dma)).disk };
    }) told
    → told_noted moved told ≡ event_served m Beat
unfolding event_served beat_served
beat_follows m moved dma told guard t made =
    let b = disk_beat m.devices.disk m.region.ram (is_writable m.dma) in
    rw (made, t, guard) (told_after (with_hw_disk (with_count_raised m count_beat) b.disk) b.move)

-- a write of an attacker's device, which was counted before, and what follows it
pub poke_follows : (m moved : Machine) (gpa value : ℕ) (dma : List Bool) (told : DmaStep) → dma ≡ m.dma
    → told ≡ beat_of (poke_move m.region.ram (is_writable dma) gpa value)
    → moved ≡ told_cleared (record (with_count_raised m count_beat) { region = after_move m.region (poke_move m.region.ram (is_writable dma) gpa value) }) told
    → told_noted moved told ≡ event_served m (Poke gpa value)
unfolding event_served poke_served
poke_follows m moved gpa value dma told guard t made =
    rw (made, t, guard) (told_after (with_count_raised m count_beat) (poke_move m.region.ram (is_writable m.dma) gpa value))
