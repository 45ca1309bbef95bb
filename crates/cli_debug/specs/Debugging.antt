-- What debugging a run owes to the bytes that come in, whatever they are. This project's own.
use Rattle.std.specs.Prelude.{◌≡◌, Result}
use Rattle.host_io.specs.Outside.{SinkState}
use Rattle.live_keys.specs.Keys.{KeysState}
use Rattle.debug_session.specs.Runs.{Run}
use Rattle.debug_session.specs.Serving.{Serves}
use Rattle.debug_session.specs.declared.breakdown.Breakdown.{Breakdown}

-- the session of this run is served
abbrev pub Debugs : Run → (keys left : KeysState) → (old new : SinkState) → Result (Unit {0}) Breakdown → Type 0
Debugs run keys left old new result = Serves {T = Unit {0}} (λ any other. other ≡ run) tt keys left old new result
