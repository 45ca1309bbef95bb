use Rattle.std.proofs.Common.{sym}
use Rattle.gdb_protocol.specs.Words.{is_comma}
use Rattle.gdb_protocol.proofs.Cutting.{cut_after, uncut_after}
use Rattle.debug_session.proofs.performing.after_comma.Goals as goal

pub returns-in-Some : goal.returns-in-Some
returns-in-Some c = cut_after is_comma c.args.payload.now c.in-Some.i (sym c.in-Some.ensures)

pub returns-in-None : goal.returns-in-None
returns-in-None c = uncut_after is_comma c.args.payload.now (sym c.in-None.ensures)
