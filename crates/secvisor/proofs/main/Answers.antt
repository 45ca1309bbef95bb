use Rattle.std.proofs.Common.{refl}
use Rattle.std.specs.Prelude.{map, string_bytes}
use Rattle.host_io.specs.Held.{real_state}
use Rattle.cli_dispatch.specs.Choice.{top_call_of}
use Rattle.cli_dispatch.proofs.Permits.{may_answer}
use Rattle.secvisor.proofs.main.Goals as goal

pub answer-status-requires-clause-permitted : goal.answer-status-requires-clause-permitted
answer-status-requires-clause-permitted g c = λ κs.
    may_answer (top_call_of (map string_bytes c.deref-2.result.now)) (map string_bytes c.deref-2.result.now)
    (real_state c.new-files.result.read_faults c.new-files.result.save_faults) (λ asked. refl) (λ saves. refl)
