use Rattle.std.proofs.Common.{◌*◌, ◌∙◌, arith}
use Rattle.laws_processor.proofs.RegionLemmas.{write_in_tables}
use Rattle.gstage_tables.proofs.fill.put_counted.Goals as goal

pub returns-clause-memory : goal.returns-clause-memory
returns-clause-memory g c = c.set_word.ensures.memory ∙ write_in_tables c.args.mem.now (8 * c.args.k) 8 c.args.value (let fits = c.requires in omega arith)
