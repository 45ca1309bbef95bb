-- What is recorded of a device's move. This project's own.
use Rattle.sv_types.specs.declared.event.Note.TheVariants.{Denied}
use Rattle.spec_reference.specs.Counting.{with_count, with_note, count_denied}
use Rattle.spec_hardware.specs.Machine.{Machine}
use Rattle.dma_guard.specs.declared.port.DmaStep.{DmaStep}

-- a refused move is noted
unfoldable pub told_noted : Machine → DmaStep → Machine
told_noted m (DmaStep.Denied gpa) = record m { journal = with_note (Denied gpa) (with_count count_denied m.journal) }
told_noted m DmaStep.Idle = m
told_noted m (DmaStep.Read gpa) = m
told_noted m (DmaStep.Wrote gpa n) = m
told_noted m DmaStep.Range = m
