-- Clearing and judging the fields of a module's text piece by piece, and in the whole text. This project's own.
use Rattle.std.specs.Prelude.{◌≡◌, ℕ, ◌+◌, ◌<◌, ◌%◌, Bool, true, ◌&&◌, List, [], ◌∷◌, length, All}
use Rattle.std.specs.List.{concat}
use Rattle.sv_types.specs.declared.module.Bases.{Bases}
use Rattle.sv_types.specs.declared.module.Site.{Site}
use Rattle.sv_types.specs.declared.policy.Export.{Export}
use Rattle.spec_reference.specs.Relocations.{masked_text, fields_right}
use Rattle.page_measure.specs.Pieces.{piece_sites, IsAligned}
use Rattle.spec_processor.specs.Bytes.{page_size}

-- a text in pieces of whole pages, one after the other, and sites whose fields begin in it, each at a multiple of its bytes
pub record IsCut (pieces : List (List ℕ)) (sites : List Site) : Type 0 where
  pub pages : All (λ piece. length piece % page_size ≡ 0) pieces
  pub aligned : All IsAligned sites
  pub inside : All (λ site. site.offset < length (concat pieces)) sites

-- the pieces from the byte `first` on, each with its fields cleared
unfoldable pub cleared_from : (first : ℕ) → List (List ℕ) → List Site → List (List ℕ)
cleared_from first [] sites = []
cleared_from first (piece ∷ pieces) sites =
    masked_text piece (piece_sites first (length piece) sites) ∷ cleared_from (first + length piece) pieces sites

-- the fields of each piece from the byte `first` on are right
unfoldable pub right_from : List Export → Bases → (first : ℕ) → List (List ℕ) → List Site → Bool
right_from exports bases first [] sites = true
right_from exports bases first (piece ∷ pieces) sites =
    fields_right exports bases (piece_sites first (length piece) sites) piece && right_from exports bases (first + length piece) pieces sites

-- the cleared pieces, one after the other, are the cleared text
abbrev pub MaskLaw : Type 0
MaskLaw = (pieces : List (List ℕ)) (sites : List Site) → IsCut pieces sites → concat (cleared_from 0 pieces sites) ≡ masked_text (concat pieces) sites

-- all fields of the text are right exactly where those of each piece are
abbrev pub RightLaw : Type 0
RightLaw = (pieces : List (List ℕ)) (sites : List Site) (exports : List Export) (bases : Bases) → IsCut pieces sites
    → right_from exports bases 0 pieces sites ≡ fields_right exports bases sites (concat pieces)
