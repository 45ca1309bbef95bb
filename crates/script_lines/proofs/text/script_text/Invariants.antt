use Rattle.std.proofs.Common.{◌≡◌, ◌++◌, drop, string_bytes}
use Rattle.script_lines.specs.Lines.{text_of}
use Rattle.script_lines.proofs.text.script_text.Given as goal

-- the text so far, and that of the lines that are left
abbrev pub invariant-loop-line : goal.invariant-loop-line
invariant-loop-line l = string_bytes l.text ++ text_of (drop l.line-index l.lines) ≡ text_of l.lines
