use Rattle.std.proofs.Common.{◌≡◌, length, drop}
use Rattle.spec_reference.specs.Relocations.{fields_right}
use Rattle.page_measure.specs.Pieces.{piece_sites}
use Rattle.page_measure.proofs.fields.pieces.fields_right.Given as goal

abbrev pub invariant-sites : goal.invariant-sites
invariant-sites l =
    fields_right l.exports l.bases (piece_sites l.first (length l.text) l.sites) l.text ≡ fields_right l.exports l.bases (piece_sites l.first (length l.text) (drop l.site-index l.sites)) l.text
