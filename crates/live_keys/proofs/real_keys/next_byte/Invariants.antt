use Rattle.std.specs.Io.KnownBytes.{Keeps}
use Rattle.live_keys.proofs.real_keys.next_byte.Given as goal

abbrev pub invariant-tries : goal.invariant-tries
invariant-tries g l = Keeps (g.I.Read.remaining l.initial.reader) (g.I.Read.remaining l.reader)
