use Rattle.snapshot_format.specs.Forms.{number}
use Rattle.snapshot_format.specs.HartForms.{registers}
use Rattle.snapshot_format.proofs.WrittenLists.{nothing_yet, one_more, all_written}
use Rattle.snapshot_format.proofs.writer.harts.write_values.Goals as goal

pub values-init : goal.values-init
values-init c = nothing_yet (λ before. number) c.args.out.now.items

pub values-preserved : goal.values-preserved
values-preserved c = one_more _ (λ before. number) c.args.values.now c.values.value-index c.args.out.now.items c.values.out.items _ c.values-test.true c.values.invariant c.in_ok-write_number.ensures

pub returns : goal.returns
unfolding registers
returns c = all_written (λ before. number) c.args.values.now c.values.value-index c.args.out.now.items c.values.out.items c.values-test.false c.values.invariant
