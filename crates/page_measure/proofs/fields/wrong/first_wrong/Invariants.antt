use Rattle.std.proofs.Common.{◌≡◌, drop}
use Rattle.page_measure.specs.Wrong.{first_wrong}
use Rattle.page_measure.proofs.fields.wrong.first_wrong.Given as goal

abbrev pub invariant-sites : goal.invariant-sites
invariant-sites l = first_wrong l.exports l.bases l.text (drop l.site-index l.sites) ≡ first_wrong l.exports l.bases l.text l.sites
