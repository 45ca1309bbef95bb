use Rattle.std.proofs.Common.{take}
use Rattle.elf64_load.proofs.Sweeps.{Swept}
use Rattle.elf64_load.proofs.shared_text.sorted_text_is_shared.Given as goal

-- the segments so far are apart, and end and text_end stand after them
abbrev pub invariant-headers : goal.invariant-headers
invariant-headers l = Swept (take l.header-index l.headers) l.end l.text_end
