use Rattle.debug_session.proofs.ServingLoop.{Underway}
use Rattle.debug_session.proofs.serving.serve.Given as goal

abbrev pub invariant-bytes : goal.invariant-bytes
invariant-bytes g l =
    Underway g.T.Target.stands l.fn.target l.target (g.K.Keys.state l.fn.keys) (g.K.Keys.state l.keys) (g.O.Sink.state l.fn.out) (g.O.Sink.state l.out) l.desk l.reader
