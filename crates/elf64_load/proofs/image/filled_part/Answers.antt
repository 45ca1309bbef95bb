use Rattle.std.proofs.Common.{◌-◌, ◌*◌, ◌/◌}
use Rattle.spec_processor.specs.Bytes.{page_size, ram_base}
use Rattle.elf64_load.proofs.Pages.{part_within}
use Rattle.elf64_load.proofs.image.filled_part.Goals as goal

pub returns-clause-part : goal.returns-clause-part
returns-clause-part c =
    let start = page_size * (c.args.page - (c.args.segment.now.gpa - ram_base) / page_size) in
    let whole = part_within c.args.segment.now.bytes.now start page_size in
    rw (c.min-to.ensures, c.min-from.ensures, c.saturating_sub.ensures, c.ram_offset-place.ensures) whole
