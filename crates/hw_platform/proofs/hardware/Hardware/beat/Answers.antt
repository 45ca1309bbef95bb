use Rattle.std.proofs.Common.{length, sym, ◌∙◌, ap, subst}
use Rattle.spec_processor.specs.Regions.{Region}
use Rattle.spec_reference.specs.Disk.{disk_beat, is_writable}
use Rattle.dma_guard.specs.declared.port.DmaStep.{DmaStep}
use Rattle.hw_platform.specs.Beats.{ToldInRam}
use Rattle.hw_platform.proofs.BeatsFit.{beat_fits, move_keeps_tables, move_keeps_size, told_inside}
use Rattle.hw_platform.proofs.hardware.Hardware.beat.Goals as goal

pub clear_written-requires-clause-inside : goal.clear_written-requires-clause-inside
clear_written-requires-clause-inside c =
    told_inside c.args.self.now.mem.ram c.beat-told.new.mem.ram c.beat-told.result
    (ap (λ (r : Region). length r.ram) c.beat-told.ensures.memory ∙
    move_keeps_size c.args.self.now.mem (disk_beat c.args.self.now.devices.disk c.args.self.now.mem.ram (is_writable c.args.dma.now)).move
    (beat_fits c.args.self.now.devices.disk c.args.self.now.mem.ram (is_writable c.args.dma.now)))
    (subst (λ (step : DmaStep). ToldInRam c.args.self.now.mem.ram step) (sym c.beat-told.ensures.told) (beat_fits c.args.self.now.devices.disk c.args.self.now.mem.ram (is_writable c.args.dma.now)))

pub returns-clause-kept : goal.returns-clause-kept
returns-clause-kept c = record {
  tables = ap (λ (r : Region). r.tables) (c.clear_written.ensures.memory ∙ c.beat-told.ensures.memory) ∙
      move_keeps_tables c.args.self.now.mem (disk_beat c.args.self.now.devices.disk c.args.self.now.mem.ram (is_writable c.args.dma.now)).move;
  ram = ap (λ (r : Region). length r.ram) (c.clear_written.ensures.memory ∙ c.beat-told.ensures.memory) ∙
      move_keeps_size c.args.self.now.mem (disk_beat c.args.self.now.devices.disk c.args.self.now.mem.ram (is_writable c.args.dma.now)).move
      (beat_fits c.args.self.now.devices.disk c.args.self.now.mem.ram (is_writable c.args.dma.now));
}
