-- Where the fields of a module's text lie. This project's own.
use Rattle.std.specs.Prelude.{ℕ, ◌<◌, List, All}
use Rattle.page_measure.specs.Pieces.{IsAligned}
use Rattle.sv_types.specs.declared.module.Site.{Site}

-- each field begins in so many bytes, at a multiple of its own bytes
pub record LieIn (bytes : ℕ) (sites : List Site) : Type 0 where
  pub aligned : All IsAligned sites
  pub inside : All (λ (site : Site). site.offset < bytes) sites
