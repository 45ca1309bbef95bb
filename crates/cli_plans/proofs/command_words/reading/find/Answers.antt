use Rattle.std.proofs.Common.{◌∙◌, List, ap, map, string_bytes}
use Rattle.std.proofs.lemmas.Result.{IfOk-weaker}
use Rattle.clap.specs.Words.{matches_of, takes}
use Rattle.cli_plans.specs.Parsing.{Want, app_of_wants}
use Rattle.cli_plans.proofs.Walks.{words_read}
use Rattle.cli_plans.proofs.command_words.reading.find.Goals as goal

pub read-requires : goal.read-requires
read-requires c =
    ap (λ (wants : List Want). takes (app_of_wants wants) (map string_bytes c.args.words.now)) c.arguments_of.ensures
    ∙ (words_read c.args.command (map string_bytes c.args.words.now) c.requires.known c.requires.plain).taken

pub returns-clause-has : goal.returns-clause-has
returns-clause-has c =
    IfOk-weaker c.read.result _ _
    (λ found is. (words_read c.args.command (map string_bytes c.args.words.now) c.requires.known c.requires.plain).has _
    (is ∙ ap (λ (wants : List Want). matches_of (app_of_wants wants) (map string_bytes c.args.words.now)) c.arguments_of.ensures))
    c.read.ensures

pub returns-clause-finds : goal.returns-clause-finds
returns-clause-finds c =
    IfOk-weaker c.read.result _ _
    (λ found is. (words_read c.args.command (map string_bytes c.args.words.now) c.requires.known c.requires.plain).finds _
    (is ∙ ap (λ (wants : List Want). matches_of (app_of_wants wants) (map string_bytes c.args.words.now)) c.arguments_of.ensures))
    c.read.ensures
