use Rattle.sv_types.specs.Views.{protect, all_free}
use Rattle.sv_types.specs.declared.protection.Protection.TheVariants.{Approved}
use Rattle.hw_tlb.proofs.GstageCacheLines.{none_agrees}
use Rattle.test_parts.proofs.Roots.{roots_walk_apart}
use Rattle.test_parts.proofs.attempts.attempt_once.Goals as goal

pub attempt-outcome-requires-clause-apart : goal.attempt-outcome-requires-clause-apart
attempt-outcome-requires-clause-apart g c =
    roots_walk_apart c.in_ok-mem.mem 16 c.hypervisor_registers-regs.result.hgatp (protect all_free 0 Approved) c.in_ok-mem.ensures.views c.in_ok-mem.ensures.ram
    c.hypervisor_registers-regs.ensures.root

pub attempt-outcome-requires-clause-agrees : goal.attempt-outcome-requires-clause-agrees
attempt-outcome-requires-clause-agrees g c = rw c.new-cache.ensures (none_agrees c.in_ok-mem.mem.tables)
