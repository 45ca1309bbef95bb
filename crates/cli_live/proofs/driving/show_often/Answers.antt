use Rattle.std.proofs.Common.{rules}
use Rattle.cli_live.specs.LiveRuns.{events_made}
use Rattle.cli_live.proofs.MadeEvents.{breaks_shown, cleared_way, drives_off, shown_often}
use Rattle.cli_live.proofs.driving.show_often.Goals as goal

pub returns-in_err-show_console-clause-drives : goal.returns-in_err-show_console-clause-drives
returns-in_err-show_console-clause-drives g c =
    drives_off c.from_residual.result (search rules)
    (breaks_shown (shown_often (record c.args.live.now { machine = c.show_console.new.machine }) c.if-live-eq0.true c.requires.drawn)
    (c.in_err-show_console.ensures.broke (events_made c.args.live.now)))
    (cleared_way c.args.live.now c.show_console.new.machine c.requires.on.way c.show_console.ensures.cleared)

pub returns-in_ok-show_console-clause-drives : goal.returns-in_ok-show_console-clause-drives
returns-in_ok-show_console-clause-drives g c = record {
  on = record { went = c.in_ok-show_console.ensures.on (events_made c.args.live.now); room = search rules };
  broke = tt;
  stays = cleared_way c.args.live.now c.show_console.new.machine c.requires.on.way c.show_console.ensures.cleared;
}
