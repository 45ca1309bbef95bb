use Rattle.std.proofs.Common.{◌≡◌, length, drop}
use Rattle.spec_reference.specs.Relocations.{masked_text}
use Rattle.page_measure.specs.Pieces.{piece_sites}
use Rattle.page_measure.proofs.fields.pieces.mask.Given as goal

abbrev pub invariant-sites : goal.invariant-sites
invariant-sites l =
    masked_text l.text (piece_sites l.first (length l.text) (drop l.site-index l.sites)) ≡ masked_text l.initial.text (piece_sites l.first (length l.text) l.sites)
