use Rattle.machine.proofs.Seated.{sits_at}
use Rattle.machine.proofs.resumed.slots.slots_of.Goals as goal

pub slot_of-requires : goal.slot_of-requires
slot_of-requires c = sits_at c.args.tables c.args.entries.now c.args.harts.now c.seated.saved-index _ c.requires c.seated-test.true
