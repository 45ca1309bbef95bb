use Rattle.snapshot_format.specs.Snapshots.{contents}
use Rattle.cli_snap.proofs.SnapshotSizes.{few_pages}
use Rattle.cli_snap.proofs.show.answer.show_with_file.Goals as goal

pub ram_pages-requires : goal.ram_pages-requires
ram_pages-requires g c = few_pages (contents c.args.snapshot.now) c.requires.form
