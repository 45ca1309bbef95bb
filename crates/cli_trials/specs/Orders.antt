-- The order of a run's events, with its text. This project's own.
use Rattle.std.specs.Prelude.{◌≡◌, ℕ, None}
use Rattle.sv_types.specs.Schedule.{Schedule}
use Rattle.script.specs.AutoScripts.{events_of_text, first_refused}
use Rattle.cli_trials.specs.declared.order.OwnOrder.{OwnOrder}
use Rattle.cli_trials.specs.declared.order.OwnOrder.TheVariants.{Rounds, Auto, Bursts, Text}

-- the events for so many harts
abbrev pub order_schedule : (harts : ℕ) → OwnOrder → Schedule
order_schedule harts Rounds = Schedule.Rounds harts 0
order_schedule harts (Auto number) = Schedule.Auto harts number
order_schedule harts (Bursts number) = Schedule.Bursts harts 0 0 number
order_schedule harts (Text text) = Schedule.Listed (events_of_text harts text.items)

-- no line of its text is refused
abbrev pub IsAccepted : OwnOrder → Type 0
IsAccepted Rounds = Unit {0}
IsAccepted (Auto number) = Unit {0}
IsAccepted (Bursts number) = Unit {0}
IsAccepted (Text text) = first_refused text.items ≡ None
