use Rattle.std.proofs.Common.{ap, ◌∙◌}
use Rattle.dma_guard.specs.Transfers.{after_move}
use Rattle.spec_reference.specs.Attacker.{poke_move}
use Rattle.spec_reference.specs.Disk.{is_writable}
use Rattle.spec_reference.specs.States.{Journal}
use Rattle.sv_types.specs.declared.event.Event.TheVariants.{Poke}
use Rattle.spec_hardware.specs.HwEvents.{event_served}
use Rattle.spec_hardware.specs.Machine.{Machine}
use Rattle.hw_platform.specs.Beats.{told_cleared}
use Rattle.secvisor_core.specs.Visors.{machine_of}
use Rattle.machine.proofs.BeatsFollow.{poke_follows}
use Rattle.machine.proofs.events.system.System.poke.Goals as goal

pub returns : goal.returns
returns c =
    let s = c.self.inside in
    let move = poke_move s.hardware.mem.ram (is_writable c.dma.result.now) c.args.gpa c.args.value in
    c.note_denied.ensures
    ∙ poke_follows (machine_of s.visor s.hardware s.journal) (machine_of s.visor c.poke-told.new.self c.count_beat.new.self) c.args.gpa c.args.value c.dma.result.now c.poke-told.result
    c.dma.ensures c.poke-told.ensures.told
    (c.poke-told.ensures.machine (machine_of s.visor s.hardware c.count_beat.new.self)
    ∙ ap (λ (j : Journal). told_cleared (record (machine_of s.visor s.hardware j) { region = after_move s.hardware.mem move }) c.poke-told.result) c.count_beat.ensures)
    ∙ ap (λ (m : Machine). event_served m (Poke c.args.gpa c.args.value)) c.self.view_is
