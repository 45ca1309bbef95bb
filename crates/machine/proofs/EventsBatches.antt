-- The turns of a row, counted.
use Rattle.std.proofs.Common.{◌≡◌, ℕ, zero, suc, ◌+◌, refl, ◌∙◌, ap, arith}
use Rattle.spec_reference.specs.Counting.{with_count, count_turn, count_retired}
use Rattle.spec_reference.specs.States.{Journal}
use Rattle.machine_journal.specs.Journals.{count_batch}
use Rattle.machine.specs.Batches.{counted_batch}

pub batch_verdict : (n : ℕ) (j : Journal) → (counted_batch n j).verdict ≡ j.verdict
batch_verdict zero j = refl
batch_verdict (suc n) j = batch_verdict n j

pub batch_printed : (n : ℕ) (j : Journal) → (counted_batch n j).printed ≡ j.printed
batch_printed zero j = refl
batch_printed (suc n) j = batch_printed n j

-- ---- turns that are counted at once

counted_same : (j : Journal) (turns retired others more : ℕ) → turns ≡ others → retired ≡ more
    → record j { counts = record j.counts { turns = turns; retired = retired } } ≡ record j { counts = record j.counts { turns = others; retired = more } }
counted_same j turns retired others more same alike =
    ap (λ (n : ℕ). record j { counts = record j.counts { turns = n; retired = retired } }) same
    ∙ ap (λ (n : ℕ). record j { counts = record j.counts { turns = others; retired = n } }) alike

pub batch_counted : (n : ℕ) (j : Journal) → with_count (count_batch n) j ≡ counted_batch n j
batch_counted zero j = counted_same j (j.counts.turns + 0) (j.counts.retired + 0) j.counts.turns j.counts.retired (omega arith) (omega arith)
batch_counted (suc n) j =
    counted_same j (j.counts.turns + suc n) (j.counts.retired + suc n) (j.counts.turns + n + 1) (j.counts.retired + n + 1) (omega arith) (omega arith)
    ∙ ap (λ (x : Journal). with_count count_retired (with_count count_turn x)) (batch_counted n j)
