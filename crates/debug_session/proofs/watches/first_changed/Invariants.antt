use Rattle.std.proofs.Common.{◌≡◌, drop}
use Rattle.debug_session.specs.Watches.{first_changed}
use Rattle.debug_session.proofs.watches.first_changed.Given as goal

-- none before has changed
abbrev pub invariant-watches : goal.invariant-watches
invariant-watches l = first_changed (drop l.i l.watches) (drop l.i l.before) l.ram ≡ first_changed l.watches l.before l.ram
