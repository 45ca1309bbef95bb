use Rattle.cli_plans.specs.Values.{show_split_of}
use Rattle.cli_snap.proofs.ShowAnswerLemmas.{files_unread}
use Rattle.cli_snap.proofs.show.answer.show_files.Goals as goal

pub returns-in-Err : goal.returns-in-Err
returns-in-Err g c =
    files_unread (show_split_of c.args.asked.now) _ _ _ _ _ c.in-Err.found c.in-Err.ensures.tells c.in-Err.ensures.leaves c.refuse_unread.ensures
