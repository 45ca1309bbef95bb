use Rattle.std.proofs.Common.{◌≡◌}
use Rattle.sv_types.specs.Measure.{page_digests}
use Rattle.page_measure.proofs.digest_pages.Given as goal

-- the digests of the pages so far
abbrev pub invariant-pages : goal.invariant-pages
invariant-pages l = l.digests.items ≡ page_digests l.i l.pages
