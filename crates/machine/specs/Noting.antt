-- Other notes in the place of those that are kept. This project's own.
use Rattle.std.specs.Prelude.{List}
use Rattle.sv_types.specs.declared.event.Note.{Note}
use Rattle.spec_reference.specs.States.{State, with_journal}
use Rattle.spec_hardware.specs.Machine.{Machine}
use Rattle.machine_journal.specs.Journals.{with_notes}

-- in a state
abbrev pub noting : List Note → State → State
noting notes r = with_journal r (with_notes notes r.journal)

-- in a machine
abbrev pub hw_noting : List Note → Machine → Machine
hw_noting notes m = record m { journal = with_notes notes m.journal }
