-- What is due in files whose names hold something, and how a run ends that is due there. This project's own.
use Rattle.std.specs.Prelude.{◌≡◌, ◌<◌, ◌⊎◌, ℕ, List, length, nat_le, IsTrue, if◌then◌else◌, Option, Some, None}
use Rattle.sv_types.specs.declared.event.Event.{Event}
use Rattle.sv_types.specs.declared.status.Status.{Status}
use Rattle.sv_types.specs.Output.{run_status}
use Rattle.spec_reference.specs.Run.{run}
use Rattle.spec_reference.specs.States.{State}
use Rattle.sv_types.specs.Policies.{Rules}
use Rattle.host_io.specs.Outside.{FilesState}
use Rattle.secvisor_cli.specs.Answers.{Outside, Headline}
use Rattle.cli_plans.specs.Plans.{Due, RunFrom, Make, Plan, End, Read, Judge, Found, Missing, Longer, Held}
use Rattle.cli_plans.specs.Reading.{Follows}

-- ---- what is due in files that hold something

-- what reading a name gives that holds this, where the read doesn't fail
unfoldable pub found_in : (limit : ℕ) → Option (List ℕ) → Found
found_in limit None = Missing
found_in limit (Some bytes) = if nat_le (length bytes) limit then Held bytes else Longer

-- what is due at a plan's end in files whose names hold this, where no read fails and there is memory enough
abbrev pub due_in : (held : List ℕ → Option (List ℕ)) → Plan → Due
due_in held (End due) = due
due_in held (Read name limit next) = due_in held (next (found_in limit (held name)))
due_in held (Judge next) = due_in held next

-- So it is with files that tell what they hold: where they were asked as the plan says and no read failed, this is due at its
-- end.
abbrev pub ComesToDue : Type 0
ComesToDue = (plan : Plan) (old new : FilesState) (due : Due) → IsTrue old.tells → new.read_faults ≡ old.read_faults →
    Follows plan old new (Some due) → due_in old.held plan ≡ due

-- ---- how a run ends that is due

-- the files tell what they hold, and no read of them failed
pub record AreReadWhole (old new : FilesState) : Type 0 where
  pub tells : IsTrue old.tells
  pub unfailed : new.read_faults ≡ old.read_faults

-- with this status; or a write or a save failed, which is counted; or memory ran out
abbrev pub EndsAs : (due : Status) → Outside → Outside → (answer : Status) → Type 0
EndsAs due old new answer =
    (answer ≡ due)
    ⊎ (((answer ≡ Status.WriteFault) × ((old.sink.faults < new.sink.faults) ⊎ (old.files.save_faults < new.files.save_faults)))
    ⊎ (answer ≡ Status.Memory))

-- Where what the files hold asks for a run, nothing is refused: the answer is the status of the run's verdict.
abbrev pub RunEnds : Type 0
RunEnds = (plan : Plan) (start : State) (events : List Event) (save : Option (List ℕ)) (old new : Outside) (answer : Status) →
    AreReadWhole old.files new.files → due_in old.files.held plan ≡ RunFrom start events save → Headline plan old new answer →
    EndsAs (run_status (run start events).journal.verdict) old new answer

-- Where it asks for a policy, nothing is refused either: the answer is 0.
abbrev pub MakeEnds : Type 0
MakeEnds = (plan : Plan) (name : List ℕ) (rules : Rules) (line : List ℕ) (old new : Outside) (answer : Status) →
    AreReadWhole old.files new.files → due_in old.files.held plan ≡ Make name rules line → Headline plan old new answer →
    EndsAs Status.Done old new answer
