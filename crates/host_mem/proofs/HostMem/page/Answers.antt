use Rattle.std.proofs.Common.{arith, refl}
use Rattle.host_mem.proofs.ViewFacts.{Seen, page_seen}
use Rattle.host_mem.proofs.HostMem.page.Goals as goal

pub returns-clause-bytes : goal.returns-clause-bytes
returns-clause-bytes c =
    let seen : Seen c.self.inside.table_bytes c.self.inside.bytes c.args.self.now = record { same = c.self.view_is; within = omega arith; whole = c.self.invariant.1.0 } in
    rw c.as_slice.ensures (page_seen c.self.inside.table_bytes _ _ c.args.n _ _ seen refl refl)
