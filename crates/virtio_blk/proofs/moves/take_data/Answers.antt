use Rattle.std.proofs.Common.{◌≡◌, ℕ, ◌+◌, ◌-◌, ◌∷◌, ◌∙◌, sym, ap, subst, arith}
use Rattle.spec_reference.specs.VirtioRequests.{piece_size, piece}
use Rattle.spec_reference.specs.VirtioStates.{part_at, disk_offset, moves_left}
use Rattle.virtio_blk.specs.Held.{CanBeMade}
use Rattle.sv_types.specs.declared.virtio.VirtioMove.{VirtioMove}
use Rattle.virtio_blk.proofs.DataMoves.{piece_size_most}
use Rattle.virtio_blk.proofs.Places.{with_offset_raised, moved_moves, moved_disk, piece_on_disk, piece_made}
use Rattle.virtio_blk.proofs.moves.take_data.Goals as goal

pub returns-clause-moves : goal.returns-clause-moves
returns-clause-moves c = λ accepted.
    let q = c.args.q.now in
    let n = c.piece_size-size.result in
    let x = part_at q q.part in
    let is : n ≡ piece_size (x.gpa + q.offset) (x.len - q.offset) = c.piece_size-size.ensures in
    let made : c.piece.result ≡ piece x.write (x.gpa + q.offset) (disk_offset q) n = c.piece.ensures ∙ ap (λ (at : ℕ). piece x.write (x.gpa + q.offset) at n) c.disk_offset-place.ensures in
    moved_moves accepted q n c.requires.placed c.requires.before c.requires.some is
    ∙ ap (λ (move : VirtioMove). move ∷ moves_left accepted (with_offset_raised q n)) (sym made)

pub returns-clause-disk : goal.returns-clause-disk
returns-clause-disk c = λ disk_size on.
    let q = c.args.q.now in
    let n = c.piece_size-size.result in
    let x = part_at q q.part in
    let is : n ≡ piece_size (x.gpa + q.offset) (x.len - q.offset) = c.piece_size-size.ensures in
    let most = piece_size_most (x.gpa + q.offset) (x.len - q.offset) in
    moved_disk disk_size q n c.requires.placed c.requires.before (omega (arith, is, most)) on

pub returns-clause-made : goal.returns-clause-made
returns-clause-made c = λ disk_size on.
    let q = c.args.q.now in
    let n = c.piece_size-size.result in
    let x = part_at q q.part in
    let is : n ≡ piece_size (x.gpa + q.offset) (x.len - q.offset) = c.piece_size-size.ensures in
    let most = piece_size_most (x.gpa + q.offset) (x.len - q.offset) in
    let on_disk = piece_on_disk disk_size q n c.requires.placed c.requires.before (omega (arith, is, most)) on in
    let made : c.piece.result ≡ piece x.write (x.gpa + q.offset) (disk_offset q) n = c.piece.ensures ∙ ap (λ (at : ℕ). piece x.write (x.gpa + q.offset) at n) c.disk_offset-place.ensures in
    subst (λ (move : VirtioMove). CanBeMade disk_size move) (sym made)
    (piece_made disk_size x.write (x.gpa + q.offset) (disk_offset q) n (x.len - q.offset) is on_disk)
