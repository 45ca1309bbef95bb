use Rattle.std.proofs.Common.{ap, ◌∙◌, Option, unwrap_or, Bool}
use Rattle.std.specs.Map.{lookup}
use Rattle.script_lines.specs.declared.tally.outcome.Outcome.{Outcome}
use Rattle.script_lines.specs.declared.tally.tally.Tally.{Tally}
use Rattle.script_lines.specs.Tallies.{no_runs}
use Rattle.script_lines.proofs.Counting.{derived_test}
use Rattle.script_lines.proofs.tally.tally.tally_of.Goals as goal

pub returns-in-Some : goal.returns-in-Some
returns-in-Some c =
    ap (λ (o : Option Tally). unwrap_or o no_runs) c.in-Some.ensures.value
    ∙ ap (λ (test : Outcome → Bool). unwrap_or (lookup test c.args.tallies.now.entries) no_runs) (derived_test c.args.outcome)

pub returns-in-None : goal.returns-in-None
returns-in-None c =
    ap (λ (o : Option Tally). unwrap_or o no_runs) c.in-None.ensures.value
    ∙ ap (λ (test : Outcome → Bool). unwrap_or (lookup test c.args.tallies.now.entries) no_runs) (derived_test c.args.outcome)
