-- The runs of numbers that follow one another, and how they end. This project's own.
use Rattle.std.specs.Prelude.{◌≡◌, ◌≤◌, ◌%◌, ℕ, List, length, map, Option, Some, None, Ok, Err}
use Rattle.sv_types.specs.ApprovedPages.{numbers_from}
use Rattle.sv_types.specs.Limits.{max_events}
use Rattle.sv_types.specs.Policies.{Rules}
use Rattle.sv_types.specs.Schedule.{Schedule, first_events}
use Rattle.spec_reference.specs.BlockDisk.{sector_size}
use Rattle.spec_reference.specs.Run.{run}
use Rattle.spec_reference.specs.Start.{boot_start}
use Rattle.spec_reference.specs.States.{State}
use Rattle.policy.specs.Refusals.{Judged}
use Rattle.policy.specs.Text.{rules_of_text}
use Rattle.script_lines.specs.declared.tally.outcome.Outcome.{Outcome}
use Rattle.script_lines.specs.declared.tally.tally.Tally.{Tally}
use Rattle.script_lines.specs.Tallies.{outcome_of, tallies_of}
use Rattle.cli_plans.specs.declared.words.DrawnOrder.{DrawnOrder}
use Rattle.cli_plans.specs.declared.words.DrawnOrder.TheVariants.{Auto, Bursts}
use Rattle.cli_trials.specs.declared.sweep.sweeping.Sweep.{Sweep}

-- the disk has whole sectors, and the events are few enough
pub record MaySweep (sweep : Sweep) : Type 0 where
  pub sectors : length sweep.files.disk.now % sector_size ≡ 0
  pub few : sweep.events ≤ max_events

-- the order that a number draws, for so many harts
abbrev pub schedule_at : DrawnOrder → (harts number : ℕ) → Schedule
schedule_at Auto harts number = Schedule.Auto harts number
schedule_at Bursts harts number = Schedule.Bursts harts 0 0 number

-- how the reference machine's run of a number from a start ends
abbrev pub end_by : (events : ℕ) → DrawnOrder → State → (harts number : ℕ) → Outcome
end_by events order start harts number = outcome_of (run start (first_events events (schedule_at order harts number))).journal.verdict

-- with as many harts as the start has
abbrev pub end_at : (events : ℕ) → DrawnOrder → State → (number : ℕ) → Outcome
end_at events order start number = end_by events order start start.rules.harts number

abbrev pub outcome_under : Judged Rules → Sweep → (number : ℕ) → Option Outcome
outcome_under (Err fault) sweep number = None
outcome_under (Ok rules) sweep number = Some (end_at sweep.events sweep.order (boot_start rules sweep.files.image.now sweep.files.disk.now) number)

-- from the start that the files give, none where their policy is refused
abbrev pub outcome_at : Sweep → (number : ℕ) → Option Outcome
outcome_at sweep number = outcome_under (rules_of_text sweep.files.policy.now) sweep number

-- these numbers' runs end so, in their order
abbrev pub AreOutcomes : Sweep → (numbers : List ℕ) → List Outcome → Type 0
AreOutcomes sweep numbers outcomes = map (outcome_at sweep) numbers ≡ map Some outcomes

-- the entries are the tallies of how the run of each number ends, from the first on
pub record IsSwept (sweep : Sweep) (first count : ℕ) (entries : List (Outcome × Tally)) : Type 0 where
  pub outcomes : List Outcome
  pub each : AreOutcomes sweep (numbers_from first count) outcomes
  pub entries_are : entries ≡ tallies_of first outcomes
