use Rattle.hart.specs.Cores.{core_of}
use Rattle.hw_fast_path.proofs.Exits.{comes_fetched}
use Rattle.hw_fast_path.proofs.Going.{turned_after}
use Rattle.hw_fast_path.proofs.batch.lone_turn.Goals as goal

pub returns-clause-comes : goal.returns-clause-comes
returns-clause-comes c =
    comes_fetched c.carry_out_held.result c.args.mem.now c.carry_out_held.new.mem (core_of c.args.core.now c.args.regs.now) (core_of c.carry_out_held.new.core c.args.regs.now)
    c.in-Some.word _ c.in-Some.ensures.fetched c.in-Some-held.ensures c.carry_out_held.ensures.comes

pub returns-clause-turned : goal.returns-clause-turned
returns-clause-turned c =
    turned_after c.carry_out_held.result c.args.mem.now c.carry_out_held.new.mem c.args.core.now c.carry_out_held.new.core c.args.regs.now c.args.caches.now.second
    c.word_at_pc.new.caches.second c.carry_out_held.new.caches.second c.word_at_pc.new.caches.both c.carry_out_held.new.caches.both
    c.word_at_pc.ensures.translated c.carry_out_held.ensures.turned
