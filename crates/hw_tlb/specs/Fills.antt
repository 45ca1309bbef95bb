-- Walks one after another. This project's own.
use Rattle.std.specs.Prelude.{Option}
use Rattle.std.proofs.Common.{◌≡◌, ℕ, ◌⊎◌, inl, inr, List, refl, ◌∙◌, sym, subst}
use Rattle.spec_processor.specs.CachedWalks.{line_at, IsFilled, FilledUnder}
use Rattle.spec_processor.specs.declared.cached.CacheLine.{CacheLine}

pub nothing_filled : (tables : List ℕ) (hgatp : ℕ) (lines : List (Option CacheLine)) → FilledUnder tables hgatp lines lines
nothing_filled tables hgatp lines = record { lines = λ i. inl refl }

then_filled : (tables : List ℕ) (hgatp : ℕ) (a b c : Option CacheLine) → (b ≡ a) ⊎ IsFilled tables hgatp b → (c ≡ b) ⊎ IsFilled tables hgatp c
    → (c ≡ a) ⊎ IsFilled tables hgatp c
then_filled tables hgatp a b c first (inr filled) = inr filled
then_filled tables hgatp a b c (inl before) (inl same) = inl (same ∙ before)
then_filled tables hgatp a b c (inr filled) (inl same) = inr (subst (λ (o : Option CacheLine). IsFilled tables hgatp o) (sym same) filled)

pub filled_further : (tables : List ℕ) (hgatp : ℕ) (a b c : List (Option CacheLine)) → FilledUnder tables hgatp a b → FilledUnder tables hgatp b c
    → FilledUnder tables hgatp a c
filled_further tables hgatp a b c first second = record {
  lines = λ i. then_filled tables hgatp (line_at a i) (line_at b i) (line_at c i) (first.lines i) (second.lines i);
}
