use Rattle.std.proofs.Common.{◌≡◌, ◌++◌, drop, map}
use Rattle.debug_session.specs.Watches.{watched}
use Rattle.debug_session.proofs.watches.all_watched.Given as goal

-- the words so far, and those that are left
abbrev pub invariant-watches : goal.invariant-watches
invariant-watches l = l.words.items ++ map (watched l.ram) (drop l.watch-index l.watches) ≡ map (watched l.ram) l.watches
