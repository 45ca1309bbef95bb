use Rattle.sv_types.specs.Schedule.{first_events}
use Rattle.cli_debug.proofs.Turning.{Turning}
use Rattle.cli_debug.proofs.target.turns.last_turn_in.Given as goal

abbrev pub invariant-rows : goal.invariant-rows
invariant-rows l = Turning (first_events l.events l.fn.script) l.hart l.made l.next l.left l.script l.seen l.counter l.last
