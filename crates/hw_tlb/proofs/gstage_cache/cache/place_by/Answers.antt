use Rattle.std.proofs.Common.{◌∙◌, sym, refl, arith}
use Rattle.hw_tlb.proofs.GstageCacheLines.{line_answers, line_fits}
use Rattle.hw_tlb.proofs.gstage_cache.cache.place_by.Goals as goal

pub overflow_add-result : goal.overflow_add-result
overflow_add-result c =
    let fits = line_fits c.args.mem.now c.args.line.now c.args.gpa c.args.access c.requires.agrees c.requires.page (sym c.permits.ensures ∙ c.if-permits.true) in omega arith

pub returns-then-permits-clause-walk : goal.returns-then-permits-clause-walk
returns-then-permits-clause-walk c =
    rw (line_answers c.args.mem.now c.args.line.now c.args.gpa c.args.access c.requires.agrees c.requires.page, sym c.permits.ensures ∙ c.if-permits.true) refl

pub returns-else-permits-clause-walk : goal.returns-else-permits-clause-walk
returns-else-permits-clause-walk c =
    rw (line_answers c.args.mem.now c.args.line.now c.args.gpa c.args.access c.requires.agrees c.requires.page, sym c.permits.ensures ∙ c.if-permits.false) refl
