use Rattle.elf64_load.specs.Sections.{sections_among}
use Rattle.elf64_load.proofs.Numbers.{one_section_more}
use Rattle.elf64_load.proofs.sections.sections.section_headers.Goals as goal

pub sections-init : goal.sections-init
unfolding sections_among
sections-init c = c.new-sections.ensures.items

pub sections-preserved : goal.sections-preserved
sections-preserved c =
    let more = one_section_more c.args.file.now c.sections.i c.double-table.result c.double-table.ensures in
    let items = c.in_ok-push.ensures.items in
    cc
