use Rattle.std.proofs.Common.{◌≡◌, ◌^◌, ◌∙◌, drop, sym, ap, subst, arith}
use Rattle.spec_reference.specs.VirtioStates.{last_place}
use Rattle.virtio_blk.specs.Held.{first_move}
use Rattle.sv_types.specs.declared.virtio.VirtioRequest.{VirtioRequest}
use Rattle.virtio_blk.proofs.Places.{last_moves_left, no_data}
use Rattle.virtio_blk.proofs.moves.take_move.Goals as goal

pub take_data-requires-clause-on_disk : goal.take_data-requires-clause-on_disk
take_data-requires-clause-on_disk c = c.settle.ensures.same.disk (2 ^ 63) c.requires.on_disk

pub returns-then-q-clause-disk : goal.returns-then-q-clause-disk
returns-then-q-clause-disk c = λ disk_size on. c.take_data.ensures.disk disk_size (c.settle.ensures.same.disk disk_size on)

pub returns-then-q-clause-made : goal.returns-then-q-clause-made
returns-then-q-clause-made c = λ disk_size on. c.take_data.ensures.made disk_size (c.settle.ensures.same.disk disk_size on)

pub returns-else-q-clause-first : goal.returns-else-q-clause-first
returns-else-q-clause-first c =
    let q = c.settle.new.q in
    let inside = c.settle.ensures.placed.inside in
    let test = c.if-q.false in
    let ends : q.part ≡ last_place q = omega (arith, inside, test) in
    c.take_last.ensures.first
    ∙ ap first_move (sym (last_moves_left c.args.accepted q ends) ∙ c.settle.ensures.same.moves c.args.accepted)

pub returns-else-q-clause-rest : goal.returns-else-q-clause-rest
returns-else-q-clause-rest c =
    let q = c.settle.new.q in
    let inside = c.settle.ensures.placed.inside in
    let test = c.if-q.false in
    let ends : q.part ≡ last_place q = omega (arith, inside, test) in
    let next = c.take_last.new.q in
    let ends_next : next.part ≡ last_place next = subst (λ (r : VirtioRequest). r.part ≡ last_place r) (sym c.take_last.ensures.others) ends in
    last_moves_left c.args.accepted next ends_next
    ∙ c.take_last.ensures.rest
    ∙ ap (drop 1) (sym (last_moves_left c.args.accepted q ends) ∙ c.settle.ensures.same.moves c.args.accepted)

pub returns-else-q-clause-made : goal.returns-else-q-clause-made
returns-else-q-clause-made c = λ disk_size on. c.take_last.ensures.made disk_size

pub returns-then-q-clause-data_first : goal.returns-then-q-clause-data_first
returns-then-q-clause-data_first c = λ is. c.take_data.ensures.first

pub returns-else-q-clause-data_first : goal.returns-else-q-clause-data_first
returns-else-q-clause-data_first c = no_data c.take_last.result c.take_last.new.q.tail c.take_last.ensures.last
