use Rattle.std.proofs.Common.{rules, ◌≡◌, ◌∙◌, map, sum}
use Rattle.sv_types.specs.declared.virtio.VirtioPart.{VirtioPart}
use Rattle.snapshot_format.proofs.VirtioReads.{sum_of_bytes}
use Rattle.snapshot_format.proofs.reader.virtio.bytes_in.Goals as goal

pub returns : goal.returns
returns c =
    let total : c.sum.result ≡ sum (map (λ (part : VirtioPart). part.len) c.args.parts.now) = search rules in
    total ∙ sum_of_bytes c.args.parts.now
