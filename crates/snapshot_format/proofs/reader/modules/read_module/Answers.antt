use Rattle.std.proofs.Common.{refl}
use Rattle.snapshot_format.proofs.ReadLists.{gives_refusal}
use Rattle.snapshot_format.proofs.ReadRows.{module_by_row}
use Rattle.snapshot_format.proofs.reader.modules.read_module.Goals as goal

pub returns-in_err-id : goal.returns-in_err-id
returns-in_err-id c =
    gives_refusal _ c.from_residual.result c.in_err-id.field-0.0 _ c.from_residual.ensures.1
    (rw (module_by_row c.args.last c.args.bytes.now, c.in_err-id.ensures) refl)

pub returns : goal.returns
returns c = rw (module_by_row c.args.last c.args.bytes.now, c.in_ok-id.ensures) refl
