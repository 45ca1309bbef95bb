use Rattle.std.proofs.Common.{sym}
use Rattle.gdb_protocol.specs.Words.{is_separator}
use Rattle.gdb_protocol.proofs.Cutting.{cut_before, cut_after, uncut_before, uncut_after}
use Rattle.gdb_protocol.proofs.words.cut_name.Goals as goal

pub returns-in-Some-clause-before : goal.returns-in-Some-clause-before
returns-in-Some-clause-before c = cut_before is_separator c.args.text.now c.in-Some.i (sym c.in-Some.ensures)

pub returns-in-Some-clause-after : goal.returns-in-Some-clause-after
returns-in-Some-clause-after c = cut_after is_separator c.args.text.now c.in-Some.i (sym c.in-Some.ensures)

pub returns-in-None-clause-before : goal.returns-in-None-clause-before
returns-in-None-clause-before c = uncut_before is_separator c.args.text.now (sym c.in-None.ensures)

pub returns-in-None-clause-after : goal.returns-in-None-clause-after
returns-in-None-clause-after c = uncut_after is_separator c.args.text.now (sym c.in-None.ensures)
