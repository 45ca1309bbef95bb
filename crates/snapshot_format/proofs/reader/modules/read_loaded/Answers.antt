use Rattle.std.proofs.Common.{[]}
use Rattle.snapshot_format.specs.Forms.{all_taken}
use Rattle.snapshot_format.specs.PageForms.{next_module}
use Rattle.snapshot_format.proofs.ReadLists.{goes_on, ends, is_done, reads_refusal}
use Rattle.snapshot_format.proofs.reader.modules.read_loaded.Goals as goal

pub modules-preserved : goal.modules-preserved
modules-preserved c = rw c.in_ok-push.ensures.items (goes_on next_module c.modules.read.items c.args.count c.modules.counter c.modules.rest.now _ _
    (all_taken next_module [] c.args.count c.args.bytes.now) c.modules-test.true (rw (c.last_id.ensures, c.deref.ensures.value) at c.in_ok-loaded.ensures) c.modules.invariant)

pub returns-in_err-loaded : goal.returns-in_err-loaded
returns-in_err-loaded c =
    reads_refusal _ c.from_residual.result c.in_err-loaded.field-0.0 _ c.from_residual.ensures.1
    (ends next_module c.in_err-loaded.field-0.0 c.modules.read.items c.args.count c.modules.counter c.modules.rest.now (all_taken next_module [] c.args.count c.args.bytes.now)
    c.modules-test.true (rw (c.last_id.ensures, c.deref.ensures.value) at c.in_err-loaded.ensures) c.modules.invariant)

pub returns : goal.returns
returns c = is_done next_module c.modules.read.items c.args.count c.modules.counter c.modules.rest.now (all_taken next_module [] c.args.count c.args.bytes.now) c.modules-test.false c.modules.invariant
