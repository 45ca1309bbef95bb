use Rattle.std.proofs.Common.{◌+◌, ◌∷◌, ◌++◌, [], sym, ◌∙◌, subst}
use Rattle.spec_reference.specs.Run.{step}
use Rattle.spec_hardware.specs.Machine.{Machine}
use Rattle.machine.specs.Standing.{HasState}
use Rattle.machine.proofs.ConsoleLemmas.{room_after}
use Rattle.machine.proofs.Repeated.{step_counts}
use Rattle.machine.specs.Repeats.{Makes}
use Rattle.cli_live.specs.Drives.{Breaks}
use Rattle.cli_live.proofs.MadeEvents.{made_one, broken_one, cleared_state, cleared_counts, cleared_verdict, key_verdict, ok_both, err_three}
use Rattle.cli_live.proofs.making.make.Goals as goal

pub flush_due-requires-clause-room : goal.flush_due-requires-clause-room
flush_due-requires-clause-room g c =
    let steps : Makes c.args.machine.now c.args.event c.step.new.self = record { stands = c.step.ensures.stands; event = c.step.ensures.event } in
    room_after c.args.machine.now c.step.new.self c.args.event c.requires.may.state steps c.requires.may.room

pub returns-clause-on : goal.returns-clause-on
returns-clause-on g c =
    let steps : Makes c.args.machine.now c.args.event c.step.new.self = record { stands = c.step.ensures.stands; event = c.step.ensures.event } in
    ok_both c.flush_due.result _ _ _ (λ f rest made. made_one _ _ _ _ _ _ c.requires.came rest steps f made) c.flush_due.ensures.flushed c.flush_due.ensures.rest

pub returns-clause-broke : goal.returns-clause-broke
returns-clause-broke g c =
    let steps : Makes c.args.machine.now c.args.event c.step.new.self = record { stands = c.step.ensures.stands; event = c.step.ensures.event } in
    err_three c.flush_due.result _ _ _ _
    (λ same off due made.
    subst (λ (m : Machine). Breaks ⊥ made (made ++ c.args.event ∷ []) c.args.machine.now m (g.O.Sink.state c.args.out.now) (g.O.Sink.state c.flush_due.new.out)) (sym same)
    (broken_one _ _ _ _ _ c.requires.came steps off due made))
    c.flush_due.ensures.machine c.flush_due.ensures.failed c.flush_due.ensures.due

pub returns-clause-state : goal.returns-clause-state
returns-clause-state g c =
    let has = c.requires.may.state in
    let next : HasState c.step.new.self = record { state = step has.state c.args.event; stands = c.step.ensures.stands has.state has.stands } in
    cleared_state c.step.new.self c.flush_due.new.machine next c.flush_due.ensures.cleared

pub returns-clause-counts : goal.returns-clause-counts
returns-clause-counts g c = λ n counts.
    let has = c.requires.may.state in
    cleared_counts (n + 1) c.step.new.self c.flush_due.new.machine
    (step_counts n c.args.machine.now c.step.new.self has.state c.args.event has.stands (c.step.ensures.stands has.state has.stands) counts) c.flush_due.ensures.cleared

pub returns-clause-key : goal.returns-clause-key
returns-clause-key g c = λ is.
    cleared_verdict c.step.new.self c.flush_due.new.machine c.flush_due.ensures.cleared
    ∙ key_verdict c.args.machine.now c.args.event c.step.new.self is c.step.ensures.event
