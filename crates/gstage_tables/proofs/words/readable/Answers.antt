use Rattle.std.proofs.Common.{ℕ, ◌∙◌, ap}
use Rattle.std.specs.Int.Bits.{bit_or}
use Rattle.gstage_tables.proofs.words.readable.Goals as goal

pub returns : goal.returns
returns c = c.union-3.ensures tt ∙ ap (λ (x : ℕ). bit_or x 64) (c.union-2.ensures tt ∙ ap (λ (x : ℕ). bit_or x 16) (c.union.ensures tt))
