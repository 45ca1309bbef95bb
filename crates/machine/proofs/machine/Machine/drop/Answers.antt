use Rattle.machine.proofs.Ready.{guarded}
use Rattle.machine.proofs.machine.Machine.drop.Goals as goal

pub end-requires : goal.end-requires
end-requires c = guarded c.self.inside.system c.self.invariant.state c.self.invariant.stands
