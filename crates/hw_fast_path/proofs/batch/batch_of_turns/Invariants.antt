use Rattle.std.proofs.Common.{◌≤◌, ◌-◌}
use Rattle.hart.specs.Cores.{core_of}
use Rattle.hw_fast_path.specs.Quick.{GoesOn, Leads, SameCourse}
use Rattle.hw_fast_path.proofs.Going.{Batch}
use Rattle.hw_tlb.specs.Kept.{ReachAgrees}
use Rattle.hw_fast_path.proofs.batch.batch_of_turns.Given as goal

abbrev pub invariant-turns : goal.invariant-turns
invariant-turns l = record {
  batch : Batch l.made l.initial.mem (core_of l.initial.core l.regs) l.mem (core_of l.core l.regs);
  course : SameCourse l.initial.core.csrs l.core.csrs;
  on : GoesOn l.initial.mem l.mem l.initial.core l.core l.regs l.initial.caches.second l.caches.second;
  leads : Leads l.mem (core_of l.core l.regs) l.window.page l.window.host;
  few : l.made ≤ l.most;
  reach : ReachAgrees l.mem.tables l.caches.both;
}

abbrev pub decreases-turns : goal.decreases-turns
decreases-turns l = l.most - l.made
