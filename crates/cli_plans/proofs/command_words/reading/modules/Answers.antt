use Rattle.std.proofs.Common.{◌≡◌, ◌∙◌, [], ap, codes, map, Some, None}
use Rattle.std.specs.Option.{unwrap_or}
use Rattle.std.proofs.lemmas.Result.{IfOk-weaker}
use Rattle.clap.specs.Words.{all_of, found_of, rows_of}
use Rattle.clap.proofs.WalkLemmas.{raw_values-rows}
use Rattle.cli_plans.proofs.command_words.reading.modules.Goals as goal

pub returns-in-Some : goal.returns-in-Some
returns-in-Some c =
    let all : Some (map (λ w. w.now) c.in-Some.words.now) ≡ all_of (codes "MODULES") (rows_of (found_of c.args.matches.now)) =
    c.in-Some.ensures ∙ raw_values-rows (found_of c.args.matches.now) (codes "MODULES") in
    IfOk-weaker c.from_slice.result _ _ (λ words is. ap (map (λ w. w.now)) is ∙ ap (λ o. unwrap_or o []) all) c.from_slice.ensures.items

pub returns-in-None : goal.returns-in-None
returns-in-None c =
    let all : None ≡ all_of (codes "MODULES") (rows_of (found_of c.args.matches.now)) =
    c.in-None.ensures ∙ raw_values-rows (found_of c.args.matches.now) (codes "MODULES") in
    ap (map (λ w. w.now)) c.new.ensures.items ∙ ap (λ o. unwrap_or o []) all
