use Rattle.std.proofs.Common.{◌≡◌, drop}
use Rattle.std.specs.Prelude.{vec_capacity}
use Rattle.report.specs.Findings.{demotions}
use Rattle.report.proofs.findings.noted.add_demotions.Given as goal

abbrev pub invariant-notes : goal.invariant-notes
invariant-notes l = record {
  found : demotions l.findings.items (drop l.note-index l.notes) ≡ demotions l.initial.findings.items l.notes;
  room : vec_capacity l.findings ≡ vec_capacity l.initial.findings;
}
