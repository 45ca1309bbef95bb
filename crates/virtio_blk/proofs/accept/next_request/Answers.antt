use Rattle.std.proofs.Common.{◌∙◌, List, sym, ap, subst}
use Rattle.spec_reference.specs.VirtioDevice.{Request}
use Rattle.spec_reference.specs.VirtioRequests.{type_of, sector_of, result_by}
use Rattle.spec_reference.specs.VirtioChain.{data_of}
use Rattle.spec_reference.specs.VirtioStates.{request_of}
use Rattle.virtio_blk.specs.Held.{IsPlaced, IsOnDisk}
use Rattle.sv_types.specs.declared.virtio.VirtioMove.{VirtioMove}
use Rattle.virtio_blk.proofs.Accepting.{new_moves}
use Rattle.virtio_blk.proofs.NewRequests.{new_placed, new_on_disk, size_some, size_most}
use Rattle.virtio_blk.proofs.accept.next_request.Goals as goal

pub returns-clause-request : goal.returns-clause-request
returns-clause-request c = λ accepted.
    let ram = c.args.ram.now in
    let parts = c.args.parts.now in
    let result = result_by ram c.args.disk_size (type_of ram parts) (sector_of ram parts) (data_of parts) in
    ap (request_of accepted) c.new_request.ensures
    ∙ ap (λ (moves : List VirtioMove). let r : Request = record { moves = moves; result = result; written = 0 } in r)
    (new_moves accepted c.args.head (sector_of ram parts) c.args.size c.args.used result parts c.requires.header.few)

pub returns-clause-placed : goal.returns-clause-placed
returns-clause-placed c =
    let ram = c.args.ram.now in
    let parts = c.args.parts.now in
    let size = c.args.size in
    subst IsPlaced (sym c.new_request.ensures)
    (new_placed ram c.args.disk_size (type_of ram parts) c.args.head (sector_of ram parts) size c.args.used parts c.requires.header.few c.requires.most
    (size_some size c.requires.size) (size_most size c.requires.size) c.requires.aligned c.requires.used c.requires.small)

pub returns-clause-on_disk : goal.returns-clause-on_disk
returns-clause-on_disk c =
    let ram = c.args.ram.now in
    let parts = c.args.parts.now in
    subst (IsOnDisk c.args.disk_size) (sym c.new_request.ensures)
    (new_on_disk ram c.args.disk_size (type_of ram parts) c.args.head (sector_of ram parts) c.args.size c.args.used parts c.requires.header.few)
