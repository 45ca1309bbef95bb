use Rattle.std.proofs.Common.{rules}
use Rattle.cli_diagnostics.proofs.converting.bound_entries.Goals as goal

pub bind-requires : goal.bind-requires
bind-requires g c = (search rules, record { file = c.args.image.now; accepted = c.in-Ok.ensures.accepted; segments = c.in-Ok.ensures.segments })
