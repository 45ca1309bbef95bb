use Rattle.std.proofs.Common.{sym, ◌∙◌, ap}
use Rattle.snapshot_format.specs.Snapshots.{snapshot_read}
use Rattle.cli_debug.proofs.Keeping.{goes_on}
use Rattle.cli_debug.proofs.target.kept.Kept.machine.Goals as goal

pub returns : goal.returns
returns g c = goes_on _ c.args.self.now.made c.args.self.now.bytes.items c.in_ok-snapshot.snapshot c.go_on.result c.in_ok-snapshot.ensures.form
    (ap snapshot_read (sym c.deref.ensures.value) ∙ c.in_ok-snapshot.ensures.snapshot)
    c.if-self-snapshot.false c.go_on.ensures.new c.go_on.ensures.journal
