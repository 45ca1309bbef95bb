-- What a snapshot of a run that began with a measured boot is good for. This project's own.
use Rattle.std.specs.Prelude.{◌≡◌, ℕ, List, None, Ok, take}
use Rattle.sv_types.specs.Kernel.{kernel_segments, text_of}
use Rattle.sv_types.specs.Measure.{measure}
use Rattle.sv_types.specs.Policies.{Rules}
use Rattle.sv_types.specs.declared.event.Event.{Event}
use Rattle.spec_reference.specs.Run.{run}
use Rattle.spec_reference.specs.Start.{IsBootable}
use Rattle.spec_reference.specs.States.{State}
use Rattle.spec_reference.specs.SavedStates.{IsSaved}
use Rattle.snapshot_format.specs.Snapshots.{contents, snapshot, snapshot_read}
use Rattle.snapshot_format.specs.Typed.{IsTyped}
use Rattle.snapshot_format.specs.declared.whole.Snapshot.{Snapshot}
use Rattle.snapshot_format.specs.Judgements.{resume_refusal}
use Rattle.snapshot_format.specs.ResumedStates.{resumed_state}
use Rattle.hw_devices.specs.Ports.{IsSoundPort}
use Rattle.laws_resume.specs.Continues.{Continues, draw_count}
use Rattle.laws_resume.specs.Resumed.{KeepsDigests}
use Rattle.laws_resume.specs.SavedForm.{HasDevice, IsCounted}
use Rattle.laws_resume.specs.TextPages.{digested_text}

-- the state after the events, how many of them were made while the machine ran, and the text that the start approves; its
-- numbers are words, a hart's registers 32 and a digest 32 bytes; and its device is one that the machine could have
pub record IsSnapshotOf (start : State) (events : List Event) (s : Snapshot) : Type 0 where
  pub state : IsSaved (run start events) s.«machine»
  pub made : s.events ≡ draw_count start events
  pub text : s.text.items ≡ digested_text start
  pub typed : IsTyped (contents s)
  pub port : IsSoundPort s.«machine».port s.«machine».disk.items

-- a policy and an image that allow a boot, and the image's text has the policy's measure
pub record IsMeasuredBoot (rules : Rules) (file : List ℕ) : Type 0 where
  pub bootable : IsBootable rules file
  pub measured : measure (text_of (kernel_segments file)) ≡ rules.kernel

-- the start of a run, by the device that its disk is behind: `boot_start` or `virtio_start`
abbrev pub Boot : Type 0
Boot = Rules → (file disk : List ℕ) → State

-- the digests of the text before the first event are those that a run keeps
abbrev pub BootDigestsLaw : Boot → Type 0
BootDigestsLaw boot = (rules : Rules) (file disk : List ℕ) → IsMeasuredBoot rules file →
    KeepsDigests (boot rules file disk) (digested_text (boot rules file disk))

-- a snapshot after the first k events, with the text of the start
pub record IsSnapAfter (boot : Boot) (rules : Rules) (file disk : List ℕ) (events : List Event) (k : ℕ) (s : Snapshot) : Type 0 where
  pub state : IsSaved (run (boot rules file disk) (take k events)) s.«machine»
  pub text : s.text.items ≡ digested_text (boot rules file disk)

-- it isn't refused under its own policy
abbrev pub SnapAcceptedLaw : Boot → Type 0
SnapAcceptedLaw boot = (rules : Rules) (file disk : List ℕ) (events : List Event) (k : ℕ) (s : Snapshot) → IsMeasuredBoot rules file
    → IsSnapAfter boot rules file disk events k s → resume_refusal rules (contents s) ≡ None

-- what is written of it is read again as it was, where it is typed, its device and disk go together, and no count is above the
-- number of events
abbrev pub SnapReadLaw : Boot → Type 0
SnapReadLaw boot = (rules : Rules) (file disk : List ℕ) (events : List Event) (k : ℕ) (s : Snapshot) → IsMeasuredBoot rules file
    → IsSnapAfter boot rules file disk events k s → IsTyped (contents s) → HasDevice (contents s) → IsCounted (contents s)
    → snapshot_read (snapshot.encode (contents s)) ≡ Ok (contents s)

-- What was printed until then and what a machine prints that goes on from it with the events that are left is what the whole run
-- prints; verdict and disk are the same.
abbrev pub SnapContinuesLaw : Boot → Type 0
SnapContinuesLaw boot = (rules : Rules) (file disk : List ℕ) (events : List Event) (k : ℕ) (s : Snapshot) → IsMeasuredBoot rules file
    → IsSnapAfter boot rules file disk events k s → Continues (boot rules file disk) k events (resumed_state rules (contents s))
