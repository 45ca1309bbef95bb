use Rattle.std.proofs.Common.{ap, ◌∙◌}
use Rattle.dma_guard.specs.Transfers.{after_move}
use Rattle.spec_reference.specs.Disk.{disk_beat, is_writable}
use Rattle.spec_reference.specs.States.{Journal}
use Rattle.sv_types.specs.declared.event.Event.TheVariants.{Beat}
use Rattle.spec_hardware.specs.HwEvents.{event_served}
use Rattle.spec_hardware.specs.Machine.{Machine}
use Rattle.hw_platform.specs.Beats.{told_cleared}
use Rattle.secvisor_core.specs.Visors.{machine_of}
use Rattle.machine.proofs.BeatsFollow.{beat_follows}
use Rattle.machine.proofs.events.system.System.beat.Goals as goal

pub returns : goal.returns
returns c =
    let s = c.self.inside in
    let b = disk_beat s.hardware.devices.disk s.hardware.mem.ram (is_writable c.dma.result.now) in
    c.note_denied.ensures
    ∙ beat_follows (machine_of s.visor s.hardware s.journal) (machine_of s.visor c.beat-told.new.self c.count_beat.new.self) c.dma.result.now c.beat-told.result
    c.dma.ensures c.beat-told.ensures.told
    (c.beat-told.ensures.machine (machine_of s.visor s.hardware c.count_beat.new.self)
    ∙ ap (λ (j : Journal). told_cleared (record (machine_of s.visor s.hardware j) {
      region = after_move s.hardware.mem b.move;
      devices = record s.hardware.devices { disk = b.disk };
    }) c.beat-told.result)
    c.count_beat.ensures)
    ∙ ap (λ (m : Machine). event_served m Beat) c.self.view_is
