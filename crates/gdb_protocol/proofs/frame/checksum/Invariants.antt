use Rattle.std.proofs.Common.{◌≡◌, drop}
use Rattle.gdb_protocol.specs.Framing.{sum_onto}
use Rattle.gdb_protocol.proofs.frame.checksum.Given as goal

-- the bytes that are left lead from the sum so far to that of all
abbrev pub invariant-bytes : goal.invariant-bytes
invariant-bytes l = sum_onto l.sum (drop l.byte-index l.bytes) ≡ sum_onto 0 l.bytes
