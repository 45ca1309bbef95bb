use Rattle.std.proofs.Common.{ap}
use Rattle.spec_processor.specs.Regions.{Region}
use Rattle.elf64_load.specs.Images.{segments_of}
use Rattle.secvisor_core.proofs.Accepted.{image_placed}
use Rattle.test_parts.proofs.loading.ram_of_file.Goals as goal

pub fill_ram-requires-clause-zeros : goal.fill_ram-requires-clause-zeros
fill_ram-requires-clause-zeros c = ap (λ (r : Region). r.ram) c.in_ok-mem.ensures

pub fill_ram-requires-clause-placed : goal.fill_ram-requires-clause-placed
fill_ram-requires-clause-placed c =
    image_placed c.args.file.now c.args.ram_pages (segments_of c.in_ok-image.image) c.in_ok-image.ensures.accepted c.in_ok-image.ensures.segments
