use Rattle.std.proofs.Common.{arith}
use Rattle.snapshot_format.proofs.WholeRead.{encoded, has, every}
use Rattle.snapshot_format.proofs.reader.whole.read.Goals as goal

pub returns-clause-encoded : goal.returns-clause-encoded
returns-clause-encoded c = encoded c.law_snapshot.ensures c.read_all.result c.args.bytes.now (λ i. omega (arith, c.type_inv.bytes i)) c.read_all.ensures

pub returns-clause-has : goal.returns-clause-has
returns-clause-has c = has c.law_snapshot.ensures c.read_all.result c.args.bytes.now (λ i. omega (arith, c.type_inv.bytes i)) c.read_all.ensures

pub returns-clause-every : goal.returns-clause-every
returns-clause-every c = every c.law_snapshot.ensures c.read_all.result c.args.bytes.now c.read_all.ensures
