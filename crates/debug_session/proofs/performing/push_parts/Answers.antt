use Rattle.std.proofs.Common.{◌<◌, take, ◌∙◌, ap}
use Rattle.debug_session.specs.Sessions.{max_text}
use Rattle.debug_session.proofs.TextParts.{part_given}
use Rattle.debug_session.proofs.performing.push_parts.Goals as goal

pub parts-preserved : goal.parts-preserved
parts-preserved c =
    let under : c.parts.i < c.args.parts = c.parts-test.true in
    part_given c.parts.out.items c.push_part.new.out.items c.first_part.result.now _ c.args.text.now c.args.parts c.parts.i under
    (c.first_part.ensures ∙ ap (take max_text) c.rest_at.ensures) c.in_ok-push_part.ensures c.parts.invariant
