use Rattle.std.proofs.Common.{◌∙◌, ap, map, string_bytes}
use Rattle.clap.specs.Words.{App, is_simple, matches_of, takes}
use Rattle.cli_plans.specs.Parsing.{app_of_wants, want_of}
use Rattle.cli_plans.proofs.Walks.{takes_simple}
use Rattle.cli_plans.proofs.command_words.commands.read.Goals as goal

pub returns-in-Ok : goal.returns-in-Ok
returns-in-Ok c =
    let simple = takes_simple (app_of_wants (map want_of c.args.arguments.now)) (map string_bytes c.args.words.now) c.requires in
    (c.in-Ok.ensures.matches (ap is_simple c.in_ok-command.ensures.app ∙ simple)).0
    ∙ ap (λ (a : App). matches_of a (map string_bytes c.args.words.now)) c.in_ok-command.ensures.app

pub want_of_memory-requires : goal.want_of_memory-requires
want_of_memory-requires c =
    c.in-Err.ensures.passes (ap (λ (a : App). takes a (map string_bytes c.args.words.now)) c.in_ok-command.ensures.app ∙ c.requires)
