use Rattle.cli_survey.proofs.NotedLoads.{refused_noted_law}
use Rattle.cli_survey.proofs.laws.law_refused_noted.Goals as goal

pub returns : goal.returns
returns c = refused_noted_law
