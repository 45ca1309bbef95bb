use Rattle.std.proofs.Common.{◌≡◌, arith, length}
use Rattle.machine.proofs.Kept.{all_kept, slot_keepable}
use Rattle.machine.proofs.saved.saved_harts.Goals as goal

pub saved_hart-requires : goal.saved_hart-requires
saved_hart-requires c =
    slot_keepable c.args.tables c.args.slots.now c.saved.h c.index-slots-h.result c.saved-test.true c.index-slots-h.is c.requires.addresses

pub returns : goal.returns
returns c =
    let last = c.saved-test.false in
    let most = c.saved.auto.h-end in
    let end : c.saved.h ≡ length c.args.slots.now = omega (arith, last, most) in
    all_kept c.args.tables c.args.devices.now.clock c.args.slots.now c.saved.h c.saved.harts.items _ end c.saved.invariant
