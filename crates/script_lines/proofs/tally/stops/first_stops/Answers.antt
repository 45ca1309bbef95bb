use Rattle.std.proofs.Common.{rules, ◌≡◌, length, min}
use Rattle.script_lines.proofs.Entries.{few_are_all}
use Rattle.script_lines.proofs.tally.stops.first_stops.Goals as goal

pub returns : goal.returns
returns c = let count : c.min.result ≡ min (length c.args.stops.now) 64 = search rules in few_are_all c.args.stops.now 64 c.min.result count
