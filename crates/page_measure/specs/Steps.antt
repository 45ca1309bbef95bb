-- One site of a piece.
use Rattle.std.specs.Prelude.{ℕ, Bool, true, List, length, if◌then◌else◌}
use Rattle.sv_types.specs.declared.module.Bases.{Bases}
use Rattle.sv_types.specs.declared.module.Site.{Site}
use Rattle.sv_types.specs.declared.policy.Export.{Export}
use Rattle.spec_reference.specs.Relocations.{clear_field, field_right}
use Rattle.page_measure.specs.Pieces.{lies_in, site_from}

-- the piece with the site's field cleared, if it begins there
abbrev pub cleared_in_piece : ℕ → List ℕ → Site → List ℕ
cleared_in_piece first text site = if lies_in first (length text) site then clear_field text (site_from first site) else text

-- the site's field is right, if it begins there
abbrev pub right_in_piece : List Export → Bases → ℕ → List ℕ → Site → Bool
right_in_piece exports bases first text site = if lies_in first (length text) site then field_right exports bases text (site_from first site) else true
