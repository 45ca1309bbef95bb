-- What callers see of the writes that a survey passed over, of the loads that it saw refused, and of what its notes say.
use Rattle.std.specs.Prelude.{List, Option, None, Some}
use Rattle.sv_types.specs.declared.event.Note.{Note}
use Rattle.report.specs.Findings.{FoundByNotes, PassedWrites, RefusedLoads, found_by}
use Rattle.report.specs.declared.findings.findings.Writes.{Writes}
use Rattle.report.specs.declared.findings.loads.Loads.{Loads}

abbrev pub writes_view : Writes → PassedWrites
writes_view w = record { findings = w.findings.items; total = w.total }

abbrev pub loads_view : Loads → RefusedLoads
loads_view l = record { kept = l.kept.items; total = l.total }

-- by all notes, where these are all or it was kept
abbrev pub notes_view : Option FoundByNotes → List Note → FoundByNotes
notes_view None notes = found_by notes
notes_view (Some found) notes = found
