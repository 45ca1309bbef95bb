use Rattle.std.proofs.Common.{◌≡◌, ℕ, ◌+◌, ◌-◌, ◌*◌, ◌++◌, List, [], ◌∷◌, take, drop, add-one, sym, ◌∙◌, ap, arith}
use Rattle.spec_processor.specs.Bytes.{page_size}
use Rattle.sv_types.specs.Measure.{page_digest, page_digests}
use Rattle.page_measure.proofs.PageDigests.{one_page_more}
use Rattle.page_measure.proofs.digest_pages.Goals as goal

pub pages-preserved : goal.pages-preserved
pages-preserved c =
    let i = c.pages.i in
    let pages = c.args.pages.now in
    let width : page_size * (i + 1) - page_size * i ≡ page_size = omega arith in
    let digest : c.page_digest.result ≡ page_digest (take page_size (drop (page_size * i) pages)) =
    c.page_digest.ensures ∙ ap (λ (w : ℕ). page_digest (take w (drop (page_size * i) pages))) width in
    c.in_ok-push.ensures.items
    ∙ ap (λ (ds : List (List ℕ)). ds ++ c.page_digest.result ∷ []) c.pages.invariant
    ∙ ap (λ (d : List ℕ). page_digests i pages ++ d ∷ []) digest
    ∙ sym (one_page_more i pages) ∙ ap (λ (n : ℕ). page_digests n pages) (sym (add-one i))
