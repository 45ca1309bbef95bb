-- Which call the words ask for, by the first of them. This project's own (docs/FORMATS.md).
use Rattle.std.specs.Prelude.{List, [], ◌∷◌, ℕ, Option, Some}
use Rattle.cli_plans.specs.declared.command_words.table.CommandName.{CommandName}
use Rattle.cli_plans.specs.declared.command_words.table.CommandName.TheVariants as command
use Rattle.cli_plans.specs.Commands.{name_of}
use Rattle.cli_dispatch.specs.declared.choice.TopCall.{TopCall}
use Rattle.cli_dispatch.specs.declared.choice.TopCall.TheVariants.{Live, Snap, Sweep, Shrink, Resume, Show, Others, Survey, Debug}

abbrev pub call_of : Option CommandName → TopCall
call_of (Some command.Survey) = Survey
call_of (Some command.Debug) = Debug
call_of (Some (command.Live kind)) = Live
call_of (Some (command.Snap kind)) = Snap
call_of (Some command.Sweep) = Sweep
call_of (Some command.Shrink) = Shrink
call_of (Some command.Resume) = Resume
call_of (Some command.Show) = Show
call_of _ = Others

abbrev pub top_call_of : List (List ℕ) → TopCall
top_call_of [] = Others
top_call_of (name ∷ rest) = call_of (name_of name)
