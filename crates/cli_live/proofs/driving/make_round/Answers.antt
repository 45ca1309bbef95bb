use Rattle.std.proofs.Common.{◌∙◌, rules}
use Rattle.cli_live.proofs.MadeEvents.{on_breaks, may_write, driven_then, stays_then, drives_then, drives_off}
use Rattle.cli_live.proofs.driving.make_round.Goals as goal

pub make_auto-requires-clause-sink : goal.make_auto-requires-clause-sink
make_auto-requires-clause-sink g c = may_write c.in_ok-make_keys.ensures.drives.on.went c.requires.may.sink

pub make_auto-requires-clause-running : goal.make_auto-requires-clause-running
make_auto-requires-clause-running g c = c.make_keys.ensures.verdict ∙ c.requires.running

pub returns-in_err-make_keys-clause-drives : goal.returns-in_err-make_keys-clause-drives
returns-in_err-make_keys-clause-drives g c =
    drives_off c.from_residual.result (search rules) c.in_err-make_keys.ensures.drives.broke c.in_err-make_keys.ensures.drives.stays

pub returns-in_err-make_auto-clause-drives : goal.returns-in_err-make_auto-clause-drives
returns-in_err-make_auto-clause-drives g c =
    drives_off c.from_residual-in_err-make_auto.result (search rules) (on_breaks c.in_ok-make_keys.ensures.drives.on.went c.in_err-make_auto.ensures.drives.broke)
    (stays_then c.in_ok-make_keys.ensures.drives.stays c.in_err-make_auto.ensures.drives.stays)

pub show_often-requires-clause-sink : goal.show_often-requires-clause-sink
show_often-requires-clause-sink g c =
    may_write (driven_then c.in_ok-make_keys.ensures.drives.on c.in_ok-make_auto.ensures.drives.on).went c.requires.may.sink

pub returns-clause-drives : goal.returns-clause-drives
returns-clause-drives g c =
    let keys = c.in_ok-make_keys.ensures.drives in
    let auto = c.in_ok-make_auto.ensures.drives in
    drives_then c.show_often.result (driven_then keys.on auto.on) (stays_then keys.stays auto.stays) c.show_often.ensures.drives
