use Rattle.std.proofs.Common.{◌≡◌, ◌++◌, drop}
use Rattle.gdb_protocol.specs.Framing.{escaped}
use Rattle.gdb_protocol.proofs.frame.push_escaped.Given as goal

-- what is put so far and the data of the bytes that are left
abbrev pub invariant-bytes : goal.invariant-bytes
invariant-bytes l = l.out.items ++ escaped (drop l.byte-index l.payload) ≡ l.fn.out.items ++ escaped l.payload
