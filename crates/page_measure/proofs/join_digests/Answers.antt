use Rattle.std.proofs.Common.{◌≡◌, ℕ, ◌+◌, ◌++◌, List, [], ◌∷◌, take, get_or, sym, ◌∙◌, ap, subst}
use Rattle.std.specs.List.{concat}
use Rattle.std.proofs.lemmas.List.{take_more, append-nil}
use Rattle.std.proofs.lemmas.List.Folds.{concat-append}
use Rattle.sha2.specs.Hashers.{Holds256}
use Rattle.page_measure.proofs.join_digests.Goals as goal

pub loop-digest-preserved : goal.loop-digest-preserved
loop-digest-preserved c =
    let i = c.loop-digest.digest-index in
    let digests = c.args.digests.now in
    let digest = get_or digests i [] in
    let step = c.update.ensures (concat (take i digests)) c.loop-digest.invariant in
    let more : concat (take i digests) ++ digest ≡ concat (take (i + 1) digests) =
    ap (λ (d : List ℕ). concat (take i digests) ++ d) (sym (append-nil digest))
    ∙ sym (concat-append (take i digests) (digest ∷ [])) ∙ ap concat (sym (take_more digests i [] c.loop-digest-test.true)) in
    subst (λ (ds : List ℕ). Holds256 c.update.new.self ds) more step
