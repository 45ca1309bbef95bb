use Rattle.std.proofs.Common.{◌≡◌, ◌≢◌, [], length, ap, arith}
use Rattle.std.proofs.lemmas.Bool.Decides.{nat_tests}
use Rattle.host_io.proofs.SinkLemmas.{took_none, took_more, breaks_off, on_err}
use Rattle.host_io.proofs.writing.write_all.Goals as goal

pub loop-rest-init : goal.loop-rest-init
loop-rest-init g c = took_none _ _

pub loop-rest-preserved : goal.loop-rest-preserved
loop-rest-preserved g c = took_more _ _ _ _ _ _ c.loop-rest.invariant c.in_ok-count.ensures.took

pub returns-in_err-count-clause-failed : goal.returns-in_err-count-clause-failed
returns-in_err-count-clause-failed g c =
    let some : c.loop-rest.rest.now ≢ [] = λ is. let none : length c.loop-rest.rest.now ≡ 0 = ap length is in grind (arith, nat_tests) in
    on_err _ _ (breaks_off _ _ _ _ _ c.loop-rest.invariant some c.in_err-count.ensures.failed)
