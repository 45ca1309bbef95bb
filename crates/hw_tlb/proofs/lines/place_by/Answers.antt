use Rattle.std.proofs.Common.{◌+◌, ◌%◌, arith}
use Rattle.spec_processor.specs.Bytes.{page_size}
use Rattle.hw_tlb.proofs.Holding.{line_leads}
use Rattle.hw_tlb.proofs.Stages.{led_fits}
use Rattle.hw_tlb.proofs.lines.place_by.Goals as goal

pub overflow_add-result : goal.overflow_add-result
overflow_add-result c =
    let fits = led_fits c.args.mem.now c.args.line.now.regime c.args.line.now.access c.args.va (c.args.line.now.host + c.args.va % page_size)
    (line_leads c.args.mem.now c.args.line.now c.args.va c.requires.agrees (c.are_there.ensures.yes c.if-are_there.true) c.requires.page) in omega arith
