-- A walk that goes through a G-stage. This project's own.
use Rattle.std.specs.Prelude.{ℕ}
use Rattle.spec_processor.specs.Regions.{Region}
use Rattle.spec_processor.specs.GStage.{WalksInside}
use Rattle.spec_processor.specs.Roots.{IsSv39x4}

-- A walk may go through it: it is Sv39x4, no walk under it leads out of the region, and it may be asked.
pub record MayPass {S : Type 0} (serves : S → Region → ℕ → Type 0) (second : S) (r : Region) (hgatp : ℕ) : Type 0 where
  pub mode : IsSv39x4 hgatp
  pub inside : WalksInside r hgatp
  pub asked : serves second r hgatp

-- A walk went through it: it may be asked again, and is what walks under this hgatp value may make of it.
pub record Passed {S : Type 0} (serves : S → Region → ℕ → Type 0) (walked : Region → ℕ → S → S →
    Type 0) (r : Region) (hgatp : ℕ) (before after : S) : Type 0 where
  pub asked : serves after r hgatp
  pub walked_on : walked r hgatp before after
