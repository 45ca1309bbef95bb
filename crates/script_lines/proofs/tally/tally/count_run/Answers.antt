use Rattle.std.proofs.Common.{rules, ◌≡◌, ap, ◌∙◌, Bool}
use Rattle.indexmap.specs.IndexMap.{insert_entry}
use Rattle.script_lines.specs.declared.tally.outcome.Outcome.{Outcome}
use Rattle.script_lines.specs.declared.tally.tally.Tally.{Tally}
use Rattle.script_lines.specs.Tallies.{same, with_run, tally_in}
use Rattle.script_lines.proofs.Counting.{derived}
use Rattle.script_lines.proofs.tally.tally.count_run.Goals as goal

pub returns : goal.returns
returns c =
    let counted : c.add_run.result ≡ with_run c.args.number (tally_in c.args.outcome c.args.tallies.now.entries) = search rules in
    c.in_ok-insert.ensures.entries
    ∙ ap (λ (eq : Outcome → Outcome → Bool). insert_entry eq c.args.tallies.now.entries c.args.outcome c.add_run.result) derived
    ∙ ap (λ (t : Tally). insert_entry same c.args.tallies.now.entries c.args.outcome t) counted
