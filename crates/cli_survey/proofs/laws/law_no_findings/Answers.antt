use Rattle.cli_survey.proofs.NoFindings.{no_findings_law}
use Rattle.cli_survey.proofs.laws.law_no_findings.Goals as goal

pub returns : goal.returns
returns c = no_findings_law
