use Rattle.debug_session.specs.Sessions.{max_text}
use Rattle.debug_session.proofs.TextParts.{part_size, whole_part}
use Rattle.debug_session.proofs.performing.first_part.Goals as goal

pub slice_bounds-result-end : goal.slice_bounds-result-end
slice_bounds-result-end c = part_size max_text c.args.text.now c.if-text-gt-MAX_TEXT.true

pub returns-else-text-gt-MAX_TEXT : goal.returns-else-text-gt-MAX_TEXT
returns-else-text-gt-MAX_TEXT c = whole_part max_text c.args.text.now c.if-text-gt-MAX_TEXT.false
