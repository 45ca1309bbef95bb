use Rattle.laws_guarantee.proofs.TurnCases.{user_turns_law}
use Rattle.laws_guarantee.proofs.law_user_turns.Goals as goal

pub returns : goal.returns
returns c = user_turns_law
