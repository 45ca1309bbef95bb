use Rattle.std.proofs.Common.{◌≡◌, drop}
use Rattle.snapshot_format.specs.Judgements.{are_same}
use Rattle.snapshot_format.proofs.resume.pages.are_pairs_same.Given as goal

-- the rest decides
abbrev pub invariant-pages : goal.invariant-pages
invariant-pages l = are_same l.ones l.others ≡ are_same (drop l.page l.ones) (drop l.page l.others)
