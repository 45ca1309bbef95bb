use Rattle.std.proofs.Common.{length, sym, ◌∙◌, ap, subst}
use Rattle.spec_processor.specs.Regions.{Region}
use Rattle.spec_reference.specs.Attacker.{poke_move}
use Rattle.spec_reference.specs.Disk.{is_writable}
use Rattle.dma_guard.specs.declared.port.DmaStep.{DmaStep}
use Rattle.hw_platform.specs.Beats.{ToldInRam}
use Rattle.hw_platform.proofs.BeatsFit.{poke_fits, move_keeps_tables, move_keeps_size, told_inside}
use Rattle.hw_platform.proofs.hardware.Hardware.poke.Goals as goal

pub clear_written-requires-clause-inside : goal.clear_written-requires-clause-inside
clear_written-requires-clause-inside c =
    told_inside c.args.self.now.mem.ram c.poke-told.new.mem.ram c.poke-told.result
    (ap (λ (r : Region). length r.ram) c.poke-told.ensures.memory ∙
    move_keeps_size c.args.self.now.mem (poke_move c.args.self.now.mem.ram (is_writable c.args.dma.now) c.args.gpa c.args.value)
    (poke_fits c.args.self.now.mem.ram (is_writable c.args.dma.now) c.args.gpa c.args.value))
    (subst (λ (step : DmaStep). ToldInRam c.args.self.now.mem.ram step) (sym c.poke-told.ensures.told) (poke_fits c.args.self.now.mem.ram (is_writable c.args.dma.now) c.args.gpa c.args.value))

pub returns-clause-kept : goal.returns-clause-kept
returns-clause-kept c = record {
  tables = ap (λ (r : Region). r.tables) (c.clear_written.ensures.memory ∙ c.poke-told.ensures.memory) ∙
      move_keeps_tables c.args.self.now.mem (poke_move c.args.self.now.mem.ram (is_writable c.args.dma.now) c.args.gpa c.args.value);
  ram = ap (λ (r : Region). length r.ram) (c.clear_written.ensures.memory ∙ c.poke-told.ensures.memory) ∙
      move_keeps_size c.args.self.now.mem (poke_move c.args.self.now.mem.ram (is_writable c.args.dma.now) c.args.gpa c.args.value)
      (poke_fits c.args.self.now.mem.ram (is_writable c.args.dma.now) c.args.gpa c.args.value);
}
