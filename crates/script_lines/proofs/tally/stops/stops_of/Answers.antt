use Rattle.std.proofs.Common.{rules, ◌≡◌, ◌∙◌, ◌++◌, ap, List, drop, Some, slice_get, ◌+◌}
use Rattle.script_lines.specs.declared.tally.outcome.Outcome.{Outcome}
use Rattle.script_lines.specs.declared.tally.tally.Tally.{Tally}
use Rattle.script_lines.specs.TallyLines.{stops_of}
use Rattle.script_lines.proofs.Entries.{stops_more}
use Rattle.script_lines.proofs.tally.stops.stops_of.Goals as goal

pub loop-place-preserved : goal.loop-place-preserved
loop-place-preserved c =
    let at : slice_get c.args.tallies.now.entries c.loop-place.place ≡ Some c.in-Some.entry = search rules in
    ap (λ (es : List (Outcome × Tally)). es ++ stops_of (drop (c.loop-place.place + 1) c.args.tallies.now.entries)) c.in_ok-push_stop.ensures
    ∙ stops_more c.args.tallies.now.entries c.loop-place.stops.items c.loop-place.place c.in-Some.entry at
    ∙ c.loop-place.invariant
