use Rattle.std.proofs.Common.{◌≡◌, ◌-◌, ◌∙◌, ◌++◌, List, length, drop, replicate, ap}
use Rattle.std.proofs.lemmas.List.{drop-replicate}
use Rattle.spec_reference.specs.VirtioChain.{no_part}
use Rattle.sv_types.specs.declared.virtio.VirtioPart.{VirtioPart}
use Rattle.virtio_blk.proofs.accept.padded_parts.Goals as goal

pub returns : goal.returns
returns c =
    let parts = c.args.parts.now in
    let rest : drop (length parts) c.empty_parts-all.result ≡ replicate (34 - length parts) no_part =
    ap (drop (length parts)) c.empty_parts-all.ensures ∙ drop-replicate (length parts) 34 no_part in
    ap (λ (first : List VirtioPart). first ++ drop (length parts) c.empty_parts-all.result) c.copy_from_slice.ensures.after
    ∙ ap (λ (last : List VirtioPart). parts ++ last) rest
