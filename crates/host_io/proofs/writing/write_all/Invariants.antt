use Rattle.std.proofs.Common.{length}
use Rattle.host_io.proofs.SinkLemmas.{TookTo}
use Rattle.host_io.proofs.writing.write_all.Given as goal

abbrev pub invariant-loop-rest : goal.invariant-loop-rest
invariant-loop-rest g l = TookTo (g.O.Sink.state l.initial.out) (g.O.Sink.state l.out) l.bytes l.rest

abbrev pub decreases-loop-rest : goal.decreases-loop-rest
decreases-loop-rest g l = length l.rest
