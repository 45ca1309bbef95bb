use Rattle.std.proofs.Common.{◌∙◌, ap, length}
use Rattle.std.specs.Prelude.{option_map, slice_get}
use Rattle.sv_types.specs.Clock.{timer_of}
use Rattle.spec_hardware.specs.Machine.{Machine}
use Rattle.machine.specs.Keeping.{kept_hart}
use Rattle.machine.proofs.Kept.{machine_keepable}
use Rattle.machine.proofs.Looking.{hart_seen}
use Rattle.machine.proofs.machine.Machine.hart.Goals as goal

pub hart_of-requires : goal.hart_of-requires
hart_of-requires c = machine_keepable c.self.inside.system c.self.invariant.state c.self.invariant.stands c.self.invariant.addresses

pub returns : goal.returns
returns c = λ r stands.
    c.hart_of.ensures
    ∙ ap (λ (m : Machine). option_map (kept_hart (length m.region.tables) (timer_of m.devices.clock c.args.hart)) (slice_get m.harts c.args.hart)) c.self.view_is
    ∙ hart_seen c.args.self.now r c.args.hart stands
