use Rattle.std.proofs.Common.{sym, ◌∙◌, subst}
use Rattle.hart.specs.Cores.{core_of}
use Rattle.hw_fast_path.specs.declared.batch.Batch.{Batch}
use Rattle.hw_fast_path.proofs.Exits.{Ends, ends_there, none_at_once}
use Rattle.hw_fast_path.proofs.Going.{batch_starts}
use Rattle.hw_fast_path.proofs.batch.AloneWay.quick_turns.Goals as goal

pub returns-then-most-eq0-clause-ends : goal.returns-then-most-eq0-clause-ends
returns-then-most-eq0-clause-ends c =
    subst (λ (b : Batch). Ends b.left b.made c.args.mem.now (core_of c.args.core.now c.args.regs.now) c.args.mem.now (core_of c.args.core.now c.args.regs.now)) (sym c.none.ensures)
    (ends_there 0 c.args.mem.now c.args.mem.now (core_of c.args.core.now c.args.regs.now) (core_of c.args.core.now c.args.regs.now)
    (batch_starts c.args.mem.now (core_of c.args.core.now c.args.regs.now)))

pub returns-then-not-is_made-clause-ends : goal.returns-then-not-is_made-clause-ends
returns-then-not-is_made-clause-ends c =
    subst (λ (b : Batch). Ends b.left b.made c.args.mem.now (core_of c.args.core.now c.args.regs.now) c.lone_turn-tried.new.mem (core_of c.lone_turn-tried.new.core c.args.regs.now))
    (sym c.none-then-not-is_made.ensures)
    (none_at_once c.lone_turn-tried.result c.args.mem.now c.lone_turn-tried.new.mem (core_of c.args.core.now c.args.regs.now) (core_of c.lone_turn-tried.new.core c.args.regs.now)
    (sym c.is_made.ensures ∙ c.if-not-is_made.true) c.lone_turn-tried.ensures.comes)
