use Rattle.std.proofs.Common.{◌∙◌}
use Rattle.cli_debug.proofs.Drawing.{row_left, row_over}
use Rattle.cli_debug.proofs.target.stepping.after_row.Goals as goal

pub returns-then-made-row-clause-same : goal.returns-then-made-row-clause-same
returns-then-made-row-clause-same c =
    c.draw-drawn.ensures.same ∙ row_over c.args.row c.args.made c.args.left.now c.args.script.now c.if-made-row.true

pub returns-clause-same : goal.returns-clause-same
returns-clause-same c = row_left c.args.row c.args.made c.args.left.now c.args.script.now c.requires
