use Rattle.std.proofs.Common.{◌≡◌, ◌++◌, drop}
use Rattle.gdb_protocol.specs.Digits.{byte_digits}
use Rattle.gdb_protocol.proofs.digits.push_digits.Given as goal

-- what is put so far and the digits of the bytes that are left
abbrev pub invariant-bytes : goal.invariant-bytes
invariant-bytes l = l.out.items ++ byte_digits (drop l.byte-index l.bytes) ≡ l.fn.out.items ++ byte_digits l.bytes
