use Rattle.std.proofs.Common.{◌∙◌, sym}
use Rattle.cli_plans.proofs.Names.{at_first, named_plain, plain_rest}
use Rattle.cli_plans.proofs.command_words.naming.named.Goals as goal

pub named_after-requires : goal.named_after-requires
named_after-requires c = record {
  plain = plain_rest c.args.words.now _ _
      (at_first c.args.words.now c.name-item.result c.as_str.result.now c.in-len1-up.len_at_least c.name-item.is c.as_str.ensures.value)
      (sym c.any_has_dash.ensures ∙ c.if-any_has_dash.false);
}

pub returns-in-len1-up-clause-named : goal.returns-in-len1-up-clause-named
returns-in-len1-up-clause-named c =
    let words = at_first c.args.words.now c.name-item.result c.as_str.result.now c.in-len1-up.len_at_least c.name-item.is c.as_str.ensures.value in
    c.named_after.ensures.named ∙ sym (named_plain c.args.words.now _ _ words (sym c.any_has_dash.ensures ∙ c.if-any_has_dash.false))
