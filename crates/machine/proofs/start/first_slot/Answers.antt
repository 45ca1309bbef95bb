use Rattle.std.proofs.Common.{true, ap}
use Rattle.spec_hardware.specs.Machine.{HwHart}
use Rattle.machine.proofs.start.first_slot.Goals as goal

pub returns : goal.returns
returns c =
    ap (λ (hw : HwHart). record hw { core = record hw.core { pc = c.args.entry }; started = true }) c.slot_at_boot-slot.ensures
