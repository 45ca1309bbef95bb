-- Why a machine doesn't go on from a snapshot. This project's own.
use Rattle.std.specs.Prelude.{◌≡◌, Some}
use Rattle.sv_types.specs.Policies.{Rules}
use Rattle.snapshot_format.specs.Snapshots.{Contents}
use Rattle.snapshot_format.specs.Judgements.{resume_refusal}
use Rattle.machine.specs.declared.resume.ResumeFailure.{ResumeFailure}
use Rattle.machine.specs.declared.resume.ResumeFailure.TheVariants.{Refused, Memory}

-- by the first judgement that fails, and freely when out of memory
abbrev pub RefusesSnapshot : Rules → Contents → ResumeFailure → Type 0
RefusesSnapshot rules s (Refused refusal) = resume_refusal rules s ≡ Some refusal
RefusesSnapshot rules s Memory = Unit {0}
