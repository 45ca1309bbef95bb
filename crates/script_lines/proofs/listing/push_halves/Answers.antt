use Rattle.std.proofs.Common.{rules, ◌≡◌, ◌+◌, ◌-◌, ◌/◌, ◌++◌, ◌∷◌, [], ap, ◌∙◌, arith, refl}
use Rattle.script_lines.specs.Lines.{events_of}
use Rattle.script_lines.proofs.Events.{pushed_two}
use Rattle.script_lines.proofs.listing.push_halves.Goals as goal

pub returns : goal.returns
returns c =
    let line = c.args.line in
    let half = line.count / 2 in
    let all : half + (line.count - half) ≡ line.count = omega arith in
    let items : c.push-3.new.self.items ≡
    (c.args.halves.now.items ++ record { event = line.event; count = half } ∷ []) ++ record { event = line.event; count = line.count - half } ∷ [] = search rules in
    ap events_of items ∙ pushed_two c.args.halves.now.items (record { event = line.event; count = half }) (record { event = line.event; count = line.count - half }) line refl refl all
