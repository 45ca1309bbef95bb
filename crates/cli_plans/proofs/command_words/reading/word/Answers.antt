use Rattle.std.proofs.Common.{◌∙◌, [], sym, ap, true≢false}
use Rattle.std.specs.Option.{is_some, unwrap_or}
use Rattle.clap.specs.Words.{found_of}
use Rattle.clap.proofs.WalkLemmas.{first_value-rows}
use Rattle.cli_plans.proofs.command_words.reading.word.Goals as goal

pub unreachable-requires : goal.unreachable-requires
unreachable-requires c = true≢false (sym (ap is_some (c.in-None.ensures ∙ first_value-rows (found_of c.args.matches.now) c.args.name.now) ∙ c.requires))

pub returns : goal.returns
returns c = ap (λ o. unwrap_or o []) (c.in-Some.ensures ∙ first_value-rows (found_of c.args.matches.now) c.args.name.now)
