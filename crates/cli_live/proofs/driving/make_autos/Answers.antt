use Rattle.std.proofs.Common.{refl, arith, rules}
use Rattle.cli_live.proofs.MadeEvents.{on_none, may_drive, driven_then, stays_then, drives_off, on_breaks}
use Rattle.cli_live.proofs.driving.make_autos.Goals as goal

pub events-init : goal.events-init
events-init g c = record {
  on = record { went = on_none _ _ _; room = c.requires.may.on.room };
  stays = record { way = c.requires.may.on.way; line = refl; all = refl; harts = refl; events = refl };
  autos = c.requires.few.autos;
}

pub make_round-requires-clause-may : goal.make_round-requires-clause-may
make_round-requires-clause-may g c = may_drive c.requires.may c.events.invariant.on c.events.invariant.stays

pub returns-in_err-make_round-clause-drives : goal.returns-in_err-make_round-clause-drives
returns-in_err-make_round-clause-drives g c =
    drives_off c.from_residual.result (search rules) (on_breaks c.events.invariant.on.went c.in_err-make_round.ensures.drives.broke)
    (stays_then c.events.invariant.stays c.in_err-make_round.ensures.drives.stays)

pub events-preserved : goal.events-preserved
events-preserved g c =
    let less = c.events-test.true in
    let same = c.events.invariant.stays.events in
    let one = c.in_ok-make_round.ensures.autos in
    record {
      on = driven_then c.events.invariant.on c.in_ok-make_round.ensures.drives.on;
      stays = stays_then c.events.invariant.stays c.in_ok-make_round.ensures.drives.stays;
      autos = omega arith;
    }
