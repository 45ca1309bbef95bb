use Rattle.std.proofs.Common.{◌++◌, length, refl}
use Rattle.snapshot_format.specs.Forms.{encode_number}
use Rattle.snapshot_format.specs.PageForms.{modules, next_module}
use Rattle.snapshot_format.specs.Typed.{is_typed_module}
use Rattle.snapshot_format.proofs.WrittenLists.{nothing_yet, one_more, all_counted, one_more_typed, all_typed}
use Rattle.snapshot_format.proofs.writer.modules.write_modules.Goals as goal

pub modules-init : goal.modules-init
modules-init c = (rw (← c.in_ok-write_number.ensures) (nothing_yet next_module c.write_number.new.out.items), refl)

pub modules-preserved : goal.modules-preserved
modules-preserved c = (
  one_more _ next_module c.args.loaded.now c.modules.m-index (c.args.out.now.items ++ encode_number (length c.args.loaded.now))
      c.modules.out.items _ c.modules-test.true c.modules.invariant.0 (c.in_ok-write_module.ensures.encoded _),
  one_more_typed _ is_typed_module c.args.loaded.now c.modules.m-index c.modules-test.true c.modules.invariant.1 c.in_ok-write_module.ensures.typed,
)

pub returns-clause-encoded : goal.returns-clause-encoded
unfolding modules
returns-clause-encoded c = all_counted next_module c.args.loaded.now c.modules.m-index c.args.out.now.items (encode_number (length c.args.loaded.now)) c.modules.out.items
    c.modules-test.false c.modules.invariant.0

pub returns-clause-typed : goal.returns-clause-typed
returns-clause-typed c = all_typed is_typed_module c.args.loaded.now c.modules.m-index c.modules-test.false c.modules.invariant.1
