-- The measure of one page.
use Rattle.std.proofs.Common.{◌≡◌, ℕ, List, [], ◌∷◌, ◌/◌, length, take, sym, ap, ◌∙◌}
use Rattle.std.proofs.Math.Seq.{take-length}
use Rattle.spec_processor.specs.Bytes.{page_size}
use Rattle.sv_types.specs.Measure.{page_digest, page_digests, joined_digests, measure}

pub measure_of_page : (page : List ℕ) → length page ≡ page_size → measure page ≡ joined_digests (page_digest page ∷ [])
unfolding measure
measure_of_page page size =
    ap (λ (n : ℕ). joined_digests (page_digests (n / page_size) page)) size
    ∙ ap (λ (front : List ℕ). joined_digests (page_digest front ∷ [])) (ap (λ (n : ℕ). take n page) (sym size) ∙ take-length page)
