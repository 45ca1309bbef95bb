use Rattle.std.proofs.Common.{lit<, None}
use Rattle.std.proofs.lemmas.Str.Pattern.{split_once_first}
use Rattle.policy_making.proofs.Spans.{no_colon}
use Rattle.policy_making.proofs.init.span_of.Goals as goal

pub returns-in-None : goal.returns-in-None
returns-in-None c = no_colon c.args.ram_pages c.args.word.now (split_once_first 58 c.args.word.now None c.in-None.ensures.cases (lit< tt))
