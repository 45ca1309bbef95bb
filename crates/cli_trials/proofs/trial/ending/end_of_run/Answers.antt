use Rattle.std.proofs.Common.{rules, ◌≡◌, ◌<◌, ◌∙◌, ap, arith}
use Rattle.script_lines.specs.Tallies.{outcome_of}
use Rattle.machine.proofs.Standing.{stands_verdict}
use Rattle.cli_trials.proofs.trial.ending.end_of_run.Goals as goal

-- no write fails
pub unreachable-requires : goal.unreachable-requires
unreachable-requires c =
    let broke = c.in-Err.ensures.some c.requires.booted.start c.requires.booted.new in
    let more : 0 < 0 = broke.broke.faults in
    omega (arith, more)

pub returns : goal.returns
returns c = λ start new.
    let ran = c.in-Ok.ensures.all.ran start new in
    let of : c.of.result ≡ outcome_of c.run.new.machine.journal.verdict = search rules in
    of ∙ ap outcome_of (stands_verdict c.run.new.machine _ _ ran.stands)
