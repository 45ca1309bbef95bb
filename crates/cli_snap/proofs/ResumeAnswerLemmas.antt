-- What `resume` asks for may be asked for.
use Rattle.std.proofs.Common.{ℕ, List, IsTrue}
use Rattle.host_io.specs.Outside.{FilesState}
use Rattle.cli_plans.specs.Reading.{MayFollow}
use Rattle.cli_plans.proofs.PlanLemmas.{may_follow}
use Rattle.cli_snap.specs.ResumePlans.{resume_plan}
use Rattle.cli_plans.specs.CommandLine.{resume_judged}

-- where all names may be asked for and saved under
pub resume_follows : (words : List (List ℕ)) (files : FilesState) → ((asked : List (List ℕ × ℕ)) → IsTrue (files.permits asked)) →
    ((saves : List (List ℕ × List ℕ)) → IsTrue (files.permits_save saves)) → MayFollow (resume_plan (resume_judged words)) files
resume_follows words files all saves = may_follow (resume_plan (resume_judged words)) files all saves
