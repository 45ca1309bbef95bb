use Rattle.script.proofs.PlainTexts.{without_autos, accepted_before}
use Rattle.script.proofs.laws.law_plain_texts.Goals as goal

pub returns : goal.returns
returns c = record { without = without_autos; accepted = accepted_before }
