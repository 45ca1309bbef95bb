use Rattle.std.proofs.Common.{◌≡◌, ◌++◌, take}
use Rattle.guest_gen.specs.Images.{code_bytes}
use Rattle.guest_gen.proofs.fields.push_code.Given as goal

-- the instructions so far are put after
abbrev pub invariant-loop-instr : goal.invariant-loop-instr
invariant-loop-instr l = l.file.items ≡ l.initial.file.items ++ code_bytes (take l.instr-index l.text)
