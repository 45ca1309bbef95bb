-- Plans that went on to a run.
use Rattle.std.proofs.Common.{◌≡◌, ◌≤◌, ℕ, List, length, IsTrue, inl, inr, Option, Some}
use Rattle.sv_types.specs.declared.event.Event.{Event}
use Rattle.spec_reference.specs.States.{State}
use Rattle.host_io.specs.Outside.{FilesState}
use Rattle.cli_plans.specs.declared.file_fault.Part.{Part}
use Rattle.cli_plans.specs.Plans.{Due, RunFrom, Plan, Judge, Found, Faulty, Missing, Longer, Held, found_plan, read_part}
use Rattle.cli_plans.specs.Reading.{FoundAs, Follows}
use Rattle.cli_plans.proofs.PlanLemmas.{Keeps, keeps_found}

-- the part held bytes that aren't too long, and the plan went on with them
pub record PartGives (name : List ℕ) (limit : ℕ) (next : List ℕ → Plan) (old read : FilesState) (due : Due) : Type 0 where
  pub bytes : List ℕ
  pub few : length bytes ≤ limit
  pub held : IsTrue old.tells → old.held name ≡ Some bytes
  pub now : FilesState
  pub keeps : Keeps old now
  pub rest : Follows (next bytes) now read (Some due)

found_gives : (part : Part) (name : List ℕ) (limit : ℕ) (next : List ℕ →
    Plan) (old read : FilesState) (start : State) (events : List Event) (save : Option (List ℕ)) (found : Found) (now : FilesState) →
    FoundAs old now name limit found → Follows (found_plan part next found) now read (Some (RunFrom start events save)) → PartGives name limit next old read (RunFrom start events save)
unfolding found_plan
found_gives part name limit next old read start events save Faulty now it rest = absurd (cc rest.0)
found_gives part name limit next old read start events save Missing now it rest = absurd (cc rest.0)
found_gives part name limit next old read start events save Longer now it rest = absurd (cc rest.0)
found_gives part name limit next old read start events save (Held bytes) now it rest =
    record { bytes = bytes; few = it.0; held = it.1; now = now; keeps = keeps_found old now name limit (Held bytes) it; rest = rest }

pub part_gives : (part : Part) (name : List ℕ) (limit : ℕ) (next : List ℕ → Plan) (old read : FilesState) (start : State) (events : List Event) (save : Option (List ℕ)) →
    Follows (read_part part name limit next) old read (Some (RunFrom start events save)) → PartGives name limit next old read (RunFrom start events save)
part_gives part name limit next old read start events save (inl wanting) = absurd (cc wanting.0)
part_gives part name limit next old read start events save (inr it) = found_gives part name limit next old read start events save it.0 it.1 it.2 it.3

pub judge_gives : (next : Plan) (old read : FilesState) (due : Due) → Follows (Judge next) old read (Some due) → Follows next old read (Some due)
judge_gives next old read due (inl wanting) = absurd (cc wanting.0)
judge_gives next old read due (inr it) = it
