use Rattle.std.proofs.Common.{◌≡◌}
use Rattle.laws_resume.specs.TextPages.{paired_among}
use Rattle.laws_resume.proofs.start.text.text_pages.Given as goal

abbrev pub invariant-pages : goal.invariant-pages
invariant-pages l = l.text.items ≡ paired_among l.protections l.digests l.page
