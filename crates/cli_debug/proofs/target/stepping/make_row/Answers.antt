use Rattle.std.proofs.Common.{◌+◌}
use Rattle.cli_debug.proofs.EventRows.{counts_same, running_before, told_stands}
use Rattle.cli_debug.proofs.target.stepping.make_row.Goals as goal

pub returns-clause-stands : goal.returns-clause-stands
returns-clause-stands c =
    told_stands c.repeat-made.result c.args.machine.now c.repeat-made.new.self c.take_printed-told.new.machine c.args.console.now.items c.take_printed-told.new.console.items
    c.args.event c.take_printed-told.result c.repeat-made.ensures.chain c.take_printed-told.ensures.cleared c.take_printed-told.ensures.none c.take_printed-told.ensures.taken

pub returns-clause-running : goal.returns-clause-running
returns-clause-running c = λ r s running k under.
    running_before c.repeat-made.result c.args.machine.now c.repeat-made.new.self r c.args.event s running c.repeat-made.ensures.chain k under

pub returns-clause-counts : goal.returns-clause-counts
returns-clause-counts c = λ n most.
    counts_same (n + c.repeat-made.result) c.repeat-made.new.self c.take_printed-told.new.machine c.take_printed-told.ensures.cleared (c.repeat-made.ensures.counts n most)
