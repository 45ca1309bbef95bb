use Rattle.guest_gen.proofs.Boots.{bootable}
use Rattle.guest_gen.proofs.laws.law_guest_boots.Goals as goal

pub returns : goal.returns
returns c = bootable
