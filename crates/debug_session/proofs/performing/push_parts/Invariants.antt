use Rattle.std.proofs.Common.{◌≡◌, ◌-◌, ◌*◌, ◌++◌, drop}
use Rattle.debug_session.specs.Sessions.{frames, max_text, text_answers}
use Rattle.debug_session.proofs.performing.push_parts.Given as goal

-- what is put so far, and the parts that are left
abbrev pub invariant-parts : goal.invariant-parts
invariant-parts l = l.out.items ++ frames (text_answers (l.parts - l.i) (drop (max_text * l.i) l.text)) ≡ l.fn.out.items ++ frames (text_answers l.parts l.text)
