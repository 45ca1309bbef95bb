use Rattle.std.proofs.Common.{rules, ◌≡◌, ◌-◌, ◌≤◌, arith, length}
use Rattle.snapshot_format.proofs.VirtioReads.{data_first, data_whole}
use Rattle.snapshot_format.proofs.reader.virtio.data_of.Goals as goal

pub returns-then-most-data-clause-value : goal.returns-then-most-data-clause-value
returns-then-most-data-clause-value c =
    let size : length c.args.q.now.parts ≡ 34 = search rules in
    let most : c.saturating_sub-most.result ≡ c.args.q.now.count - 2 = search rules in
    data_first c.args.q.now.count c.saturating_sub-most.result c.args.q.now.parts size most

pub returns-else-most-data-clause-value : goal.returns-else-most-data-clause-value
returns-else-most-data-clause-value c =
    let size : length c.args.q.now.parts ≡ 34 = search rules in
    let most : c.saturating_sub-most.result ≡ c.args.q.now.count - 2 = search rules in
    let test = c.if-most-data.false in
    let all : 33 ≤ c.saturating_sub-most.result = omega (arith, test) in
    data_whole c.args.q.now.count c.saturating_sub-most.result c.args.q.now.parts size most all
