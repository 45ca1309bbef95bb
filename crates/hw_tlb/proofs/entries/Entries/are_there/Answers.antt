use Rattle.hw_tlb.proofs.Levels.{entry_here}
use Rattle.hw_tlb.proofs.entries.Entries.are_there.Goals as goal

pub is_there-requires : goal.is_there-requires
is_there-requires c =
    entry_here c.args.mem.now c.args.hgatp c.args.self.now.last c.table_bytes-table_bytes.ensures.region c.requires.apart c.requires.places.1.1

pub is_there-requires-then-is_there : goal.is_there-requires-then-is_there
is_there-requires-then-is_there c =
    entry_here c.args.mem.now c.args.hgatp c.args.self.now.middle c.table_bytes-table_bytes.ensures.region c.requires.apart c.requires.places.1.0

pub is_there-requires-then-is_there-2 : goal.is_there-requires-then-is_there-2
is_there-requires-then-is_there-2 c =
    entry_here c.args.mem.now c.args.hgatp c.args.self.now.root c.table_bytes-table_bytes.ensures.region c.requires.apart c.requires.places.0
