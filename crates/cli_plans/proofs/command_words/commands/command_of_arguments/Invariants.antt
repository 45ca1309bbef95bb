use Rattle.std.proofs.Common.{◌≡◌, false, map, drop}
use Rattle.std.specs.List.{fold}
use Rattle.clap.specs.Words.{app_of}
use Rattle.clap.specs.declared.builder.Command.TheViews.{out-Command}
use Rattle.cli_plans.specs.Parsing.{bare_app, want_of, with_want}
use Rattle.cli_plans.proofs.command_words.commands.command_of_arguments.Given as goal

-- the arguments that are left make of the command what all of them make of a bare one
abbrev pub invariant-loop-argument : goal.invariant-loop-argument
invariant-loop-argument l =
    (fold with_want (app_of l.command) (map want_of (drop l.argument-index l.arguments)) ≡ fold with_want bare_app (map want_of l.arguments))
    × ((out-Command l.command).has_globals ≡ false)
