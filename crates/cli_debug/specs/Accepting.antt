-- An order whose text is accepted, as an equation. This project's own.
use Rattle.std.specs.Prelude.{ℕ, Option, None}
use Rattle.script.specs.AutoScripts.{first_refused}
use Rattle.cli_trials.specs.declared.order.OwnOrder.{OwnOrder}
use Rattle.cli_trials.specs.declared.order.OwnOrder.TheVariants.{Rounds, Auto, Bursts, Text}

-- the first line that is refused
abbrev pub refused_in : OwnOrder → Option ℕ
refused_in Rounds = None
refused_in (Auto number) = None
refused_in (Bursts number) = None
refused_in (Text text) = first_refused text.items
