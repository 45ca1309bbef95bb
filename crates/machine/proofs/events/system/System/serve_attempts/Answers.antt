use Rattle.std.proofs.Common.{◌≡◌, true, rules, subst, sym, ◌∙◌}
use Rattle.spec_hardware.specs.Machine.{Machine}
use Rattle.spec_hardware.specs.Served.{is_again}
use Rattle.secvisor_core.specs.Serving.{asked_of, left_entry}
use Rattle.machine.proofs.Turns.{concluded_exit, concluded_quiet, exit_counts_nothing, exit_there, may_again, turn_attempts}
use Rattle.machine.specs.Turns.{Concluded, IsReadyAt}
use Rattle.machine.proofs.events.system.System.serve_attempts.Goals as goal

pub attempt-outcome-requires-clause-ready : goal.attempt-outcome-requires-clause-ready
attempt-outcome-requires-clause-ready c = c.requires.ready.first

pub serve_first_exit-requires-clause-again : goal.serve_first_exit-requires-clause-again
serve_first_exit-requires-clause-again c =
    let is = exit_there c.attempt-outcome.result c.count_quiet.result c.in-Some.exit c.count_quiet.ensures.exit c.in-Some.is in
    let same = exit_counts_nothing c.attempt-outcome.result c.in-Some.exit c.attempt-outcome.new.self c.count_quiet.new.self is c.count_quiet.ensures.counted in
    subst (λ (m : Machine). is_again (asked_of m c.args.hart c.in-Some.exit) ≡ true → IsReadyAt (left_entry m c.args.hart) c.args.hart)
    (sym (same ∙ c.attempt-outcome.ensures.machine))
    (may_again c.args.self.now c.args.hart c.in-Some.exit c.requires.ready (sym is ∙ c.attempt-outcome.ensures.outcome))

pub returns-in-Some : goal.returns-in-Some
returns-in-Some c =
    let is = exit_there c.attempt-outcome.result c.count_quiet.result c.in-Some.exit c.count_quiet.ensures.exit c.in-Some.is in
    let same = exit_counts_nothing c.attempt-outcome.result c.in-Some.exit c.attempt-outcome.new.self c.count_quiet.new.self is c.count_quiet.ensures.counted in
    turn_attempts c.args.self.now c.serve_first_exit.new.self c.args.hart c.attempt-outcome.result c.requires.there
    c.requires.attempts.started c.requires.attempts.free c.requires.ready c.attempt-outcome.ensures.outcome
    (subst (λ (m : Machine). Concluded c.attempt-outcome.result m c.args.hart c.serve_first_exit.new.self) c.attempt-outcome.ensures.machine
    (concluded_exit c.attempt-outcome.result c.in-Some.exit c.attempt-outcome.new.self c.count_quiet.new.self c.serve_first_exit.new.self c.args.hart is same c.serve_first_exit.ensures))

pub returns-in_default : goal.returns-in_default
returns-in_default c =
    turn_attempts c.args.self.now c.count_quiet.new.self c.args.hart c.attempt-outcome.result c.requires.there
    c.requires.attempts.started c.requires.attempts.free c.requires.ready c.attempt-outcome.ensures.outcome
    (subst (λ (m : Machine). Concluded c.attempt-outcome.result m c.args.hart c.count_quiet.new.self) c.attempt-outcome.ensures.machine
    (concluded_quiet c.attempt-outcome.result c.count_quiet.result c.attempt-outcome.new.self c.count_quiet.new.self c.args.hart c.count_quiet.ensures.exit (search rules)
    c.count_quiet.ensures.counted))
