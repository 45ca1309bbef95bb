use Rattle.std.proofs.Common.{List, subst}
use Rattle.snapshot_format.specs.declared.whole.TextPage.{TextPage}
use Rattle.cli_snap.specs.Encoding.{EncodesMachine}
use Rattle.cli_debug.proofs.target.kept.Kept.of.Goals as goal

pub returns-clause-bytes : goal.returns-clause-bytes
returns-clause-bytes c = subst (λ (text : List TextPage). EncodesMachine c.args.machine.now text c.in_ok-bytes.bytes.items) c.in_ok-text.ensures c.in_ok-bytes.ensures
