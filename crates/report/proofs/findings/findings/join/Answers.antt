use Rattle.std.proofs.Common.{◌∙◌, ap, slice_set}
use Rattle.report.specs.declared.findings.findings.Finding.{Finding}
use Rattle.report.specs.Findings.{joined}
use Rattle.report.proofs.Places.{set_joined}
use Rattle.report.proofs.findings.findings.join.Goals as goal

pub returns-clause-joined : goal.returns-clause-joined
returns-clause-joined c =
    ap (λ (f : Finding). slice_set c.args.findings.now.items c.args.place f)
    (c.joined.ensures ∙ ap (λ (f : Finding). joined f c.args.occurrence.now) c.index.ensures)
    ∙ set_joined c.args.findings.now.items c.args.place c.args.occurrence.now c.index.result.now c.requires
