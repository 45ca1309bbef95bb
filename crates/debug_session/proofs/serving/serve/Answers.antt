use Rattle.std.proofs.Common.{rules, ◌≡◌, sym, subst, Err}
use Rattle.debug_session.specs.Serving.{Serves, ServesAll}
use Rattle.debug_session.specs.declared.breakdown.Breakdown.TheVariants.{Memory, Write}
use Rattle.debug_session.proofs.ServingLoop.{serves_all, serves_up_to_read, serves_some, serves_up_to_write, goes_on, ended, taken_byte, from_nothing}
use Rattle.debug_session.proofs.serving.serve.Goals as goal

pub returns-then-not-desk : goal.returns-then-not-desk
returns-then-not-desk g c = record { headline = serves_all _ _ _ _ _ _ _ _ _ c.bytes.invariant }

pub returns-in_default : goal.returns-in_default
returns-in_default g c = record { headline = serves_up_to_read _ _ _ _ _ _ _ _ _ _ c.bytes.invariant c.in_default.ensures }

pub returns-in_default-next : goal.returns-in_default-next
returns-in_default-next g c = record {
  headline =
      subst (λ left. ServesAll g.T.Target.stands c.args.target.now (g.K.Keys.state c.args.keys.now) left (g.O.Sink.state c.args.out.now) (g.O.Sink.state c.bytes.out))
      (sym (ended _ _ c.in-Ok.next c.in-Ok.ensures c.in_default-next.is)) (serves_all _ _ _ _ _ _ _ _ _ c.bytes.invariant);
}

pub returns-in_err-take_byte : goal.returns-in_err-take_byte
returns-in_err-take_byte g c =
    let memory : c.from_residual-in_err-take_byte.result ≡ Err Memory = search rules in
    record {
      headline =
          subst (λ r. Serves g.T.Target.stands c.args.target.now (g.K.Keys.state c.args.keys.now) (g.K.Keys.state c.next.new.self) (g.O.Sink.state c.args.out.now) (g.O.Sink.state c.bytes.out) r)
          (sym memory) (serves_some _ _ _ _ _ _ _ _ _ _ c.in-Some.byte c.bytes.invariant (taken_byte _ _ c.in-Ok.next c.in-Some.byte c.in-Ok.ensures c.in-Some.is));
    }

pub returns-in_err-write_all : goal.returns-in_err-write_all
returns-in_err-write_all g c =
    let failed : c.from_residual-in_err-write_all.result ≡ Err Write = search rules in
    record {
      headline =
          subst (λ r. Serves g.T.Target.stands c.args.target.now (g.K.Keys.state c.args.keys.now) (g.K.Keys.state c.next.new.self) (g.O.Sink.state c.args.out.now) (g.O.Sink.state
          c.write_all.new.out) r)
          (sym failed) (serves_up_to_write _ _ _ _ _ _ _ _ _ _ _ _ _ _ c.in-Some.byte _ c.bytes.invariant (taken_byte _ _ c.in-Ok.next c.in-Some.byte c.in-Ok.ensures c.in-Some.is)
          c.in_err-write_all.ensures.failed
          (from_nothing _ _ _ _ _ _ _ _ _ _ _ c.clear.ensures.items c.deref.ensures.value c.in_ok-take_byte.ensures));
    }

pub bytes-preserved : goal.bytes-preserved
bytes-preserved g c =
    goes_on _ _ _ _ _ _ _ _ _ _ _ _ _ _ c.in-Some.byte _ c.bytes.invariant (taken_byte _ _ c.in-Ok.next c.in-Some.byte c.in-Ok.ensures c.in-Some.is)
    c.in_ok-write_all.ensures.whole
    (from_nothing _ _ _ _ _ _ _ _ _ _ _ c.clear.ensures.items c.deref.ensures.value c.in_ok-take_byte.ensures)

pub returns : goal.returns
returns g c = record { headline = serves_all _ _ _ _ _ _ _ _ _ c.bytes.invariant }
