use Rattle.std.proofs.Common.{lit<, rules, ap, ◌∙◌}
use Rattle.std.specs.Str.Iter.{split_text, split_has_more, split_pattern}
use Rattle.std.proofs.lemmas.Iterator.{items_from_collect, YieldsList-from_map}
use Rattle.std.proofs.lemmas.Iterator.Splits.{YieldsList-from_str_split}
use Rattle.policy_making.specs.WordRanges.{address_or_zero}
use Rattle.policy_making.proofs.entries.entries_of.Goals as goal

pub returns : goal.returns
returns c =
    items_from_collect _ c.collect.ensures.ran
    (YieldsList-from_map _ address_or_zero
    (YieldsList-from_str_split 44 c.args.word.now (lit< tt) (ap split_text c.map.ensures.source ∙ c.split.ensures.text)
    (ap split_has_more c.map.ensures.source ∙ c.split.ensures.has_more) (ap split_pattern c.map.ensures.source ∙ c.split.ensures.pattern))
    c.map.ensures.closure (λ x r q k. search rules))
