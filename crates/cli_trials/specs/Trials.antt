-- How runs end that are made from the bytes of their files. This project's own.
use Rattle.std.specs.Prelude.{◌≡◌, ℕ, List, Bool, false, ◌&&◌, is_none, if◌then◌else◌, Option, Some, None, Ok, Err}
use Rattle.std.specs.Str.{bytes_eq}
use Rattle.sv_types.specs.Kernel.{header_entry, kernel_refusal}
use Rattle.sv_types.specs.Policies.{Rules}
use Rattle.sv_types.specs.Schedule.{Schedule, Listed, Rounds, Auto, Bursts, first_events}
use Rattle.spec_reference.specs.Run.{run}
use Rattle.spec_reference.specs.Start.{boot_start}
use Rattle.spec_reference.specs.States.{State, has_number}
use Rattle.spec_hardware.specs.Machine.{Machine}
use Rattle.spec_hardware.specs.Reaches.{IsNew}
use Rattle.laws_resume.specs.Starts.{journal_at_boot}
use Rattle.policy.specs.Refusals.{Judged}
use Rattle.policy.specs.Text.{rules_of_text}
use Rattle.script.specs.AutoScripts.{events_of_text, first_refused}
use Rattle.cli_plans.specs.Plans.{image_measure}
use Rattle.script_lines.specs.declared.tally.outcome.Outcome.{Outcome}
use Rattle.script_lines.specs.Tallies.{outcome_of}
use Rattle.cli_trials.specs.declared.trial.files.RunFiles.{RunFiles}
use Rattle.cli_trials.specs.declared.trial.order.Order.{Order}
use Rattle.cli_trials.specs.declared.trial.order.Order.TheVariants as order

-- a machine that starts somewhere, before its first event
pub record IsBooted (machine : Machine) : Type 0 where
  pub start : State
  pub new : IsNew machine start
  pub journal : machine.journal ≡ journal_at_boot

-- ---- the end of a run

-- over the first events of a schedule, which may be none
abbrev pub end_from : State → (events : ℕ) → Option Schedule → Option Outcome
end_from start events None = None
end_from start events (Some schedule) = Some (outcome_of (run start (first_events events schedule)).journal.verdict)

-- by the rules of the policy, where it isn't refused
abbrev pub end_under : Judged Rules → (image disk : List ℕ) → (events : ℕ) → (schedule : (harts : ℕ) → Option Schedule) → Option Outcome
end_under (Err fault) image disk events schedule = None
end_under (Ok rules) image disk events schedule = end_from (boot_start rules image disk) events (schedule rules.harts)

-- ---- the order of events

-- a text's, none where a line of it is of no form
abbrev pub text_schedule : (text : List ℕ) → (harts : ℕ) → Option Schedule
text_schedule text harts = if is_none (first_refused text) then Some (Listed (events_of_text harts text)) else None

abbrev pub schedule_of : Order → (harts : ℕ) → Option Schedule
schedule_of order.Rounds harts = Some (Rounds harts 0)
schedule_of (order.Auto number) harts = Some (Auto harts number)
schedule_of (order.Bursts number) harts = Some (Bursts harts 0 0 number)
schedule_of (order.Text text) harts = text_schedule text.now harts

-- how the run of these files ends over the first events of an order
abbrev pub outcome_in : RunFiles → (events : ℕ) → Order → Option Outcome
outcome_in files events in_order = end_under (rules_of_text files.policy.now) files.image.now files.disk.now events (schedule_of in_order)

-- ---- the same over a text

abbrev pub text_outcome : RunFiles → (events : ℕ) → (text : List ℕ) → Option Outcome
text_outcome files events text = end_under (rules_of_text files.policy.now) files.image.now files.disk.now events (text_schedule text)

-- ---- why there is no outcome

-- an image that isn't refused, whose text has the policy's measure, and whose entry is a permitted one
abbrev pub allows_boot : Rules → (file : List ℕ) → Bool
allows_boot rules file =
    is_none (kernel_refusal file rules.ram_pages) && (bytes_eq (image_measure file) rules.kernel && has_number rules.entries (header_entry file))

abbrev pub boots_under : Judged Rules → (file : List ℕ) → Bool
boots_under (Err fault) file = false
boots_under (Ok rules) file = allows_boot rules file

-- a machine boots from these files: their policy isn't refused, and allows a boot of their image
abbrev pub boots : RunFiles → Bool
boots files = boots_under (rules_of_text files.policy.now) files.image.now

abbrev pub unread_under : Judged Rules → Order → Bool
unread_under (Err fault) in_order = false
unread_under (Ok rules) in_order = is_none (schedule_of in_order rules.harts)

-- the policy isn't refused, and a line of the order's text is of no form
abbrev pub is_unread : (policy : List ℕ) → Order → Bool
is_unread policy in_order = unread_under (rules_of_text policy) in_order
