use Rattle.std.proofs.Common.{◌≤◌, ◌∙◌, arith, slice_get}
use Rattle.sv_types.specs.Policies.{rules_of}
use Rattle.module_gate.specs.Gates.{hw_load, with_digests}
use Rattle.module_gate.proofs.LoadTurns.{counted_is}
use Rattle.module_gate.proofs.turns.count_page.Goals as goal

pub returns-clause-counted : goal.returns-clause-counted
returns-clause-counted c = λ hart left same.
    let law = rules_of c.args.policy.now in
    let load = c.args.load.now in
    let few : load.left ≤ load.pages = let tallied = c.requires.tallied in omega (arith, tallied) in
    c.page.ensures.counted hart
    ∙ counted_is law c.args.mem.now.ram (hw_load hart (with_digests c.args.gate.now.digests load)) left load.pages (slice_get law.modules load.about.id) c.next_page.result.now
    c.requires.policy few same c.next_page.ensures.bytes
