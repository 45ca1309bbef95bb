use Rattle.std.proofs.Common.{refl}
use Rattle.snapshot_format.specs.HartForms.{hart, harts}
use Rattle.snapshot_format.specs.Typed.{is_typed_hart}
use Rattle.snapshot_format.proofs.WrittenLists.{nothing_yet, one_more, all_written, one_more_typed, all_typed}
use Rattle.snapshot_format.proofs.writer.harts.write_harts.Goals as goal

pub harts-init : goal.harts-init
harts-init c = (λ ram_pages. nothing_yet (λ before. hart ram_pages) c.args.out.now.items, refl)

pub harts-preserved : goal.harts-preserved
harts-preserved c = (
  λ ram_pages. one_more _ (λ before. hart ram_pages) c.args.saved.now c.harts.h-index c.args.out.now.items c.harts.out.items _ c.harts-test.true
      (c.harts.invariant.0 ram_pages) (c.in_ok-write_hart.ensures.encoded ram_pages),
  one_more_typed _ is_typed_hart c.args.saved.now c.harts.h-index c.harts-test.true c.harts.invariant.1 c.in_ok-write_hart.ensures.typed,
)

pub returns-clause-encoded : goal.returns-clause-encoded
unfolding harts
returns-clause-encoded c ram_pages count = all_written (λ before. hart ram_pages) c.args.saved.now c.harts.h-index c.args.out.now.items c.harts.out.items c.harts-test.false
    (c.harts.invariant.0 ram_pages)

pub returns-clause-typed : goal.returns-clause-typed
returns-clause-typed c = all_typed is_typed_hart c.args.saved.now c.harts.h-index c.harts-test.false c.harts.invariant.1
