-- What is served of every run that a target stands for is served of one.
use Rattle.std.proofs.Common.{◌≡◌, sym, subst, Result, Ok, Err}
use Rattle.host_io.specs.Outside.{SinkState, after_taking, BreaksOff, TookPrefix}
use Rattle.live_keys.specs.Keys.{KeysState}
use Rattle.debug_session.specs.Runs.{Run}
use Rattle.debug_session.specs.Serving.{Serves, answered}
use Rattle.debug_session.specs.declared.breakdown.Breakdown.{Breakdown}
use Rattle.debug_session.specs.declared.breakdown.Breakdown.TheVariants.{Read, Write, Memory}
use Rattle.debug_session.proofs.ServingLoop.{begins_without_memory}
use Rattle.cli_debug.specs.Debugging.{Debugs}

pub of_one_run : {T : Type 0} (stands : T → Run → Type 0) (first : T) (run : Run) (keys left : KeysState) (old new : SinkState) (result : Result (Unit {0}) Breakdown) → stands first run →
    Serves stands first keys left old new result → Debugs run keys left old new result
of_one_run stands first run keys left old new (Ok done) at s = record {
  input = s.input;
  took = s.took;
  wrote = λ other is. subst (λ r. new ≡ after_taking old (answered r s.input)) (sym is) (s.wrote run at);
}
of_one_run stands first run keys left old new (Err Read) at s = record {
  input = s.input;
  took = s.took;
  faults = s.faults;
  wrote = λ other is. subst (λ r. new ≡ after_taking old (answered r s.input)) (sym is) (s.wrote run at);
}
of_one_run stands first run keys left old new (Err Write) at s = record {
  input = s.input;
  took = s.took;
  broke = λ other is. subst (λ r. BreaksOff old new (answered r s.input)) (sym is) (s.broke run at);
}
of_one_run stands first run keys left old new (Err Memory) at s = record {
  input = s.input;
  took = s.took;
  faults = s.faults;
  some = λ other is. subst (λ r. TookPrefix old new (answered r s.input)) (sym is) (s.some run at);
}

pub before_it : (run : Run) (keys : KeysState) (old : SinkState) → Debugs run keys keys old old (Err Memory)
before_it run keys old = begins_without_memory (λ any other. other ≡ run) tt keys old
