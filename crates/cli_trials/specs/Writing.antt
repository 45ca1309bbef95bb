-- What a command writes in one piece. This project's own.
use Rattle.std.specs.Prelude.{◌≡◌, ℕ, List, IsTrue, Result, Ok, Err, IsErrOf}
use Rattle.sv_types.specs.declared.status.Status.{Status}
use Rattle.host_io.specs.Outside.{SinkState, after_taking, BreaksOff}
use Rattle.host_io.specs.declared.trouble.Trouble.{Trouble}
use Rattle.host_io.specs.declared.trouble.Trouble.TheVariants.{Write, Memory}
use Rattle.cli_plans.specs.declared.refusal.Refusal.{Refusal}
use Rattle.cli_plans.specs.Refusals.{refusal_line, refusal_status, takes_memory}

-- all of these bytes were written, and the status is this one; or a write failed before; or memory ran out, and nothing was written
abbrev pub WritesAll : Status → (bytes : List ℕ) → SinkState → SinkState → Result Status Trouble → Type 0
WritesAll due bytes old new (Ok status) = (status ≡ due) × (new ≡ after_taking old bytes)
WritesAll due bytes old new (Err Write) = BreaksOff old new bytes
WritesAll due bytes old new (Err Memory) = new ≡ old

-- a refusal. Words are refused without memory
pub record Refuses (refusal : Refusal) (old new : SinkState) (result : Result Status Trouble) : Type 0 where
  pub writes : WritesAll (refusal_status refusal) (refusal_line refusal) old new result
  pub spares : IsErrOf result Memory → IsTrue (takes_memory refusal)
