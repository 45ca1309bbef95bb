use Rattle.std.proofs.Common.{rules, ◌≡◌, ◌++◌, ◌∷◌, [], ap, ◌∙◌}
use Rattle.script_lines.specs.Lines.{events_of}
use Rattle.script_lines.proofs.Events.{joined_last}
use Rattle.script_lines.proofs.listing.push_line.Goals as goal

pub returns-in_ok-push-in-Some-join : goal.returns-in_ok-push-in-Some-join
returns-in_ok-push-in-Some-join c =
    let items : c.push-in-Some-join.new.self.items ≡ c.pop.new.self.items ++ c.in-Some-join.both ∷ [] = search rules in
    let old : c.args.lines.now.items ≡ c.pop.new.self.items ++ c.in-Some.last ∷ [] = search rules in
    ap events_of items ∙ joined_last c.args.lines.now.items c.pop.new.self.items c.in-Some.last c.args.line c.in-Some-join.both old c.in-Some-join.ensures
