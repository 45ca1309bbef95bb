-- Where the program's runs begin. This project's own.
use Rattle.std.specs.Prelude.{◌≡◌, ◌⊎◌, ℕ, List, Option, Some, Result}
use Rattle.sv_types.specs.Kernel.{kernel_segments, text_of}
use Rattle.sv_types.specs.Measure.{measure}
use Rattle.sv_types.specs.Policies.{Rules}
use Rattle.sv_types.specs.declared.event.Event.{Event}
use Rattle.spec_reference.specs.Start.{IsStart, StartsFlat, StartsBy, boot_start, virtio_start}
use Rattle.spec_reference.specs.States.{State}
use Rattle.host_io.specs.Outside.{FilesState}
use Rattle.cli_plans.specs.CommandLine.{Command}
use Rattle.cli_plans.specs.Plans.{RunFrom, plan_of}
use Rattle.cli_plans.specs.Reading.{Follows}
use Rattle.cli_plans.specs.declared.refusal.Refusal.{Refusal}
use Rattle.laws_guarantee.specs.Reached.{HasMeasuredText}

-- plain pages that have the measure that was asked for
pub record IsMeasuredFlat (s : State) : Type 0 where
  pub starts : StartsFlat s
  pub measured : measure starts.pages ≡ starts.digest

-- a kernel's image whose text has the policy's measure
pub record IsMeasuredImage (boot : Rules → (file disk : List ℕ) → State) (s : State) : Type 0 where
  pub starts : StartsBy boot s
  pub measured : measure (text_of (kernel_segments starts.file)) ≡ starts.rules.kernel

-- a start, as `IsStart` says it, with the measure
abbrev pub IsMeasuredStart : State → Type 0
IsMeasuredStart s = IsMeasuredFlat s ⊎ (IsMeasuredImage boot_start s ⊎ IsMeasuredImage virtio_start s)

-- whatever a command is and the files hold, a run that it comes to begins there: in the state of which `Headline` says what is
-- printed, saved and answered
abbrev pub StartsLaw : Type 0
StartsLaw = (asked : Result Command Refusal) (old read : FilesState) (start : State) (events : List Event) (save : Option (List ℕ)) →
    Follows (plan_of asked) old read (Some (RunFrom start events save)) → IsMeasuredStart start

-- so such a start is one that the guarantee is about, and its text was measured
pub record MeasuredLaw : Type 0 where
  pub starts : (s : State) → IsMeasuredStart s → IsStart s
  pub text : (s : State) → IsMeasuredStart s → HasMeasuredText s
