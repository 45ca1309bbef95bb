use Rattle.std.proofs.Common.{◌≡◌, drop}
use Rattle.gdb_protocol.specs.Digits.{number_onto}
use Rattle.gdb_protocol.proofs.digits.number_from_zero.Given as goal

-- the digits that are left lead from the number so far to that of all
abbrev pub invariant-digits : goal.invariant-digits
invariant-digits l = number_onto l.number (drop l.c-index l.digits) ≡ number_onto 0 l.digits
