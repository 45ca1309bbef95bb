use Rattle.std.proofs.Common.{refl, sym, ◌∙◌}
use Rattle.cli_snap.proofs.SkipLemmas.{after_end, after_all, after_row}
use Rattle.cli_snap.proofs.resume.skipping.skip.Goals as goal

pub rows-init : goal.rows-init
rows-init c = refl

pub rows-preserved : goal.rows-preserved
rows-preserved c =
    after_row c.rows.undrawn c.args.events c.rows.left c.next_run.new.self c.in-Some.row c.in-Some.ensures.most c.in-Some.ensures.first ∙ c.rows.invariant

pub returns-in_default-clause-left : goal.returns-in_default-clause-left
returns-in_default-clause-left c =
    after_end c.rows.undrawn c.args.made c.args.events c.rows.left c.next_run.new.self c.args.script (sym c.in_default.ensures.event) c.rows.invariant

pub returns-clause-left : goal.returns-clause-left
returns-clause-left c = after_all c.rows.undrawn c.args.made c.args.events c.rows.left c.args.script c.rows-test.false c.rows.invariant
