-- The fields of a piece of a module's text. This project's own.
use Rattle.std.specs.Prelude.{◌≡◌, ℕ, ◌-◌, ◌%◌, Bool, ◌&&◌, List, [], ◌∷◌, if◌then◌else◌, nat_le, nat_lt}
use Rattle.sv_types.specs.declared.module.Site.{Site}
use Rattle.spec_reference.specs.Relocations.{width_of}

-- a field begins in the piece of so many bytes from the first one on
abbrev pub lies_in : (first size : ℕ) → Site → Bool
lies_in first size site = nat_le first site.offset && nat_lt (site.offset - first) size

-- the site, with its offset counted from there
abbrev pub site_from : ℕ → Site → Site
site_from first site = record site { offset = site.offset - first }

-- the sites of a piece, in their order
unfoldable pub piece_sites : (first size : ℕ) → List Site → List Site
piece_sites first size [] = []
piece_sites first size (site ∷ sites) = if lies_in first size site then site_from first site ∷ piece_sites first size sites else piece_sites first size sites

-- the field's place is a multiple of its bytes
abbrev pub IsAligned : Site → Type 0
IsAligned site = site.offset % width_of site ≡ 0
