use Rattle.std.proofs.Common.{List, ℕ, ◌++◌, length, drop, replicate, ◌∙◌, ap}
use Rattle.std.proofs.lemmas.List.{drop-replicate}
use Rattle.sv_types.proofs.name.with_zeros.Goals as goal

pub returns : goal.returns
returns c =
    ap (λ (front : List ℕ). front ++ drop (length c.args.text.now) (replicate 64 0)) c.copy_from_slice.ensures.after
    ∙ ap (λ (zeros : List ℕ). c.args.text.now ++ zeros) (drop-replicate (length c.args.text.now) 64 0)
