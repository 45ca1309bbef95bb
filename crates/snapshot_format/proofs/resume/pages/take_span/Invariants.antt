use Rattle.std.proofs.Common.{◌≡◌}
use Rattle.sv_types.specs.ApprovedPages.{numbers_from}
use Rattle.snapshot_format.specs.Judgements.{take_pages}
use Rattle.snapshot_format.proofs.TakenLoops.{span_left}
use Rattle.snapshot_format.proofs.resume.pages.take_span.Given as goal

-- the rest is to be taken after those that were
abbrev pub invariant-pages : goal.invariant-pages
invariant-pages l = take_pages l.protection l.fn.guard (numbers_from l.first l.count) ≡ take_pages l.protection l.guard (span_left l.first l.count l.i)
