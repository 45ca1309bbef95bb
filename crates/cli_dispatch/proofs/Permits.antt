-- Files that permit all permit what any call asks of them.
use Rattle.std.proofs.Common.{ℕ, List, IsTrue}
use Rattle.host_io.specs.Outside.{FilesState}
use Rattle.secvisor_cli.proofs.TopLemmas.{words_follow}
use Rattle.cli_live.proofs.AnswerLemmas.{live_follows}
use Rattle.cli_snap.proofs.AnswerLemmas.{snap_follows}
use Rattle.cli_snap.proofs.ResumeAnswerLemmas.{resume_follows}
use Rattle.cli_survey.proofs.AnswerLemmas.{may_survey}
use Rattle.cli_debug.proofs.AnswerLemmas.{may_debug}
use Rattle.cli_trials.proofs.AnswerLemmas.{may_ask as may_sweep}
use Rattle.cli_trials.proofs.ShrinkAnswerLemmas.{may_ask as may_shrink}
use Rattle.cli_snap.proofs.ShowAnswerLemmas.{may_ask}
use Rattle.cli_dispatch.specs.declared.choice.TopCall.{TopCall}
use Rattle.cli_dispatch.specs.declared.choice.TopCall.TheVariants.{Live, Snap, Sweep, Shrink, Resume, Show, Others, Survey, Debug}
use Rattle.cli_dispatch.specs.Answers.{MayAnswer}

pub may_answer : (call : TopCall) (words : List (List ℕ)) (files : FilesState) → ((asked : List (List ℕ × ℕ)) → IsTrue (files.permits asked)) →
    ((saves : List (List ℕ × List ℕ)) → IsTrue (files.permits_save saves)) → MayAnswer call words files
may_answer Survey words files all saves = may_survey words files all saves
may_answer Debug words files all saves = may_debug words files all saves
may_answer Live words files all saves = (live_follows words files all saves, λ bytes. saves _)
may_answer Snap words files all saves = (snap_follows words files all saves, λ bytes. saves _)
may_answer Sweep words files all saves = may_sweep _ files all saves
may_answer Shrink words files all saves = may_shrink _ files all saves
may_answer Resume words files all saves = resume_follows words files all saves
may_answer Show words files all saves = may_ask _ files all
may_answer Others words files all saves = words_follow words files all saves
