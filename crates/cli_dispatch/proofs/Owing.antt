-- What a call owes is what the call that the words ask for owes, where that is the same.
use Rattle.std.proofs.Common.{ℕ, List, ◌≡◌, subst}
use Rattle.sv_types.specs.declared.status.Status.{Status}
use Rattle.cli_live.specs.LiveAnswers.{LiveOutside}
use Rattle.cli_dispatch.specs.declared.choice.TopCall.{TopCall}
use Rattle.cli_dispatch.specs.Answers.{Owed}

pub owed_of : (call asked : TopCall) (words : List (List ℕ)) (old new : LiveOutside) (answer : Status) → call ≡ asked →
    Owed call words old new answer → Owed asked words old new answer
owed_of call asked words old new answer same owed = subst (λ (c : TopCall). Owed c words old new answer) same owed
