use Rattle.live_keys.proofs.Readers.{keeps_same, keeps_on}
use Rattle.live_keys.proofs.real_keys.next_byte.Goals as goal

pub tries-init : goal.tries-init
tries-init g c = keeps_same _

pub returns-then-ne : goal.returns-then-ne
returns-then-ne g c = keeps_on _ _ _ c.tries.invariant c.in-Err.ensures

pub tries-preserved : goal.tries-preserved
tries-preserved g c = keeps_on _ _ _ c.tries.invariant c.in-Err.ensures

pub returns : goal.returns
returns g c = c.tries.invariant
