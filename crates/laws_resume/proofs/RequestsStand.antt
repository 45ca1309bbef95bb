-- What is left of a request in a snapshot: each of its moves stays in a page.
use Rattle.std.proofs.Common.{◌≡◌, ℕ, zero, suc, ◌+◌, ◌-◌, ◌%◌, ◌^◌, ◌<◌, List, [], ◌∷◌, ◌++◌, Option, Some, None, drop, Bool, true, false, not, ◌&&◌, ◌||◌, arith}
use Rattle.std.specs.Prelude.{nat_lt, ◌==◌, option_map}
use Rattle.std.proofs.lemmas.Bool.{eqb-true}
use Rattle.spec_processor.specs.Bytes.{page_size}
use Rattle.spec_reference.specs.Soundness.{IsSoundMove, AreSoundMoves, IsSoundRequest, IsSoundVirtio, StaysInPage}
use Rattle.spec_reference.specs.VirtioRequests.{piece_size, piece, pieces, data_moves, last_moves}
use Rattle.spec_reference.specs.VirtioStates.{data_left, disk_offset, last_place, moves_left, part_at, request_of, virtio_of}
use Rattle.sv_types.specs.Policies.{is_between}
use Rattle.sv_types.specs.declared.virtio.VirtioMove.{VirtioMove}
use Rattle.sv_types.specs.declared.virtio.VirtioPart.{VirtioPart}
use Rattle.sv_types.specs.declared.virtio.VirtioRequest.{VirtioRequest}
use Rattle.sv_types.specs.declared.virtio.VirtioResult.{VirtioResult}
use Rattle.sv_types.specs.declared.virtio.VirtioState.{VirtioState}
use Rattle.snapshot_format.specs.Forms.{is_word, number, within}
use Rattle.snapshot_format.specs.HartForms.{flag}
use Rattle.snapshot_format.specs.VirtioForms.{accepted, aligned, in_use, is_aligned, is_ring, queue, register, request_after, request_form}
use Rattle.snapshot_format.specs.VirtioForms.{request_parts, request_under_way, ring_index, selection, state_parts, virtio}
use Rattle.snapshot_format.proofs.FormLaws.{first_true, second_true}
use Rattle.laws_simulation.proofs.VirtioSound.{request_sound, sound_append}

-- ---- moves

piece_sound : (write : Bool) (gpa place size : ℕ) → StaysInPage gpa size → IsSoundMove (piece write gpa place size)
piece_sound true gpa place size k = k
piece_sound false gpa place size k = k

piece_stays : (gpa m : ℕ) → StaysInPage gpa (piece_size gpa (suc m))
piece_stays gpa m =
    let below : gpa % page_size < page_size = grind arith in
    (omega (arith, below), omega (arith, below))

pieces_sound : (n : ℕ) (write : Bool) (gpa place len : ℕ) → AreSoundMoves (pieces n write gpa place len)
unfolding pieces
pieces_sound zero write gpa place len = tt
pieces_sound (suc n) write gpa place zero = tt
pieces_sound (suc n) write gpa place (suc m) =
    let size = piece_size gpa (suc m) in
    (piece_sound write gpa place size (piece_stays gpa m), pieces_sound n write (gpa + size) (place + size) (suc m - size))

data_sound : (place : ℕ) (parts : List VirtioPart) → AreSoundMoves (data_moves place parts)
unfolding data_moves
data_sound place [] = tt
data_sound place (part ∷ parts) =
    sound_append (pieces part.len part.write part.gpa place part.len) (data_moves (place + part.len) parts)
    (pieces_sound part.len part.write part.gpa place part.len) (data_sound (place + part.len) parts)

-- those after some of them
after_some : (n : ℕ) (moves : List VirtioMove) → AreSoundMoves moves → AreSoundMoves (drop n moves)
after_some zero moves k = k
after_some (suc n) [] k = tt
after_some (suc n) (move ∷ moves) k = after_some n moves k.1

left_sound : (accepted : ℕ) (q : VirtioRequest) → q.used % 4 ≡ 0 → AreSoundMoves (moves_left accepted q)
unfolding moves_left
left_sound accepted q aligned =
    let last = last_moves (part_at q (last_place q)).gpa q.used q.size q.head accepted in
    sound_append (data_moves (disk_offset q) (data_left q)) (drop q.tail last) (data_sound (disk_offset q) (data_left q))
    (after_some q.tail last (request_sound VirtioResult.Failed 0 [] (part_at q (last_place q)).gpa q.used q.size q.head accepted aligned))

-- ---- what the form says of it

ring_aligned : (q : VirtioRequest) → request_form.has q ≡ true → q.used % 4 ≡ 0
unfolding request_form accepted
ring_aligned q h =
    let x = (request_parts q).0 in
    let first = first_true (accepted.has x) _ h in
    let from_sector = second_true (ring_index.has q.head) _ first in
    let from_size = second_true (is_word q.sector) _ from_sector in
    let from_ring = second_true ((within (is_between 1 64) number).has q.size) _ from_size in
    let ring = second_true (is_word q.used) (is_ring q.used) (first_true ((within is_ring number).has q.used) _ from_ring) in
    eqb-true (q.used % 4) 0 (first_true (q.used % 4 == 0) (nat_lt q.used (2 ^ 63)) ring)

after_sound : (accepted : ℕ) (there : Bool) (o : Option VirtioRequest) → (request_after there).has o ≡ true → IsSoundRequest (option_map (request_of accepted) o)
unfolding request_after
after_sound accepted true None h = absurd cc
after_sound accepted true (Some q) h = left_sound accepted q (ring_aligned q h)
after_sound accepted false None h = tt
after_sound accepted false (Some q) h = absurd cc

used_by : (ready : Bool) (used : ℕ) → is_aligned ready 4 used ≡ true → ready ≡ true → used % 4 ≡ 0
used_by true used h is = eqb-true (used % 4) 0 h
used_by false used h is = absurd cc

pub virtio_sound : (v : VirtioState) (bytes : List ℕ) → virtio.has v ≡ true → IsSoundVirtio (virtio_of v bytes)
unfolding virtio queue aligned request_under_way
virtio_sound v bytes h =
    let x = state_parts v in
    let from_ready = second_true (selection.has x.0) _ h in
    let from_queue = second_true ((in_use v.size).has v.ready) _ from_ready in
    let places = first_true ((queue v.ready).has x.1.1.0) _ from_queue in
    let under_way = second_true ((queue v.ready).has x.1.1.0) _ from_queue in
    let from_status = second_true (register.has v.interrupt) _ places in
    let from_table = second_true (register.has v.status) _ from_status in
    let from_available = second_true ((aligned v.ready 16).has v.descriptors) _ from_table in
    let from_used = second_true ((aligned v.ready 2).has v.available) _ from_available in
    let used = second_true (is_word v.used) (is_aligned v.ready 4 v.used) (first_true ((aligned v.ready 4).has v.used) _ from_used) in
    record {
      aligned = used_by v.ready v.used used;
      moves = after_sound v.accepted _ v.request (second_true _ _ under_way);
    }
