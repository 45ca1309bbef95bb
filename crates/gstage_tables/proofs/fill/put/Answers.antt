use Rattle.std.proofs.Common.{◌*◌, ◌∙◌, arith}
use Rattle.laws_processor.proofs.RegionLemmas.{write_in_tables}
use Rattle.gstage_tables.proofs.fill.put.Goals as goal

pub returns : goal.returns
returns c = c.write.ensures ∙ write_in_tables c.args.mem.now (8 * c.args.k) 8 c.args.value (let fits = c.requires in omega arith)
