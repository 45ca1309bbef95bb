use Rattle.std.proofs.Common.{◌≡◌, drop}
use Rattle.std.specs.Prelude.{vec_capacity}
use Rattle.report.specs.Findings.{denied_moves}
use Rattle.report.proofs.findings.noted.add_denied_moves.Given as goal

abbrev pub invariant-notes : goal.invariant-notes
invariant-notes l = record {
  found : denied_moves l.findings.items (drop l.note-index l.notes) ≡ denied_moves l.initial.findings.items l.notes;
  room : vec_capacity l.findings ≡ vec_capacity l.initial.findings;
}
