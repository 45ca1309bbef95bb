use Rattle.std.proofs.Common.{subst}
use Rattle.spec_hardware.specs.Machine.{Machine}
use Rattle.sv_types.specs.declared.event.Event.TheVariants.{Turn}
use Rattle.hw_fast_path.specs.Ends.{turns_of}
use Rattle.machine.specs.Repeats.{MadeInBatch}
use Rattle.machine.proofs.machine.Machine.batch.Goals as goal

pub returns-then-may_batch : goal.returns-then-may_batch
returns-then-may_batch g c =
    subst (λ (m : Machine). MadeInBatch c.one_row.result.left (turns_of c.one_row.result) c.args.most m (Turn c.args.hart) c.one_row.new.self) c.may_batch.ensures.same c.one_row.ensures
